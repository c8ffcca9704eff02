-- `questions::check_lines` meets its contract, by the laws of `Walking`.
use Rattle.questions.proofs.Walking.{Going}
use Rattle.questions.proofs.check_lines.Given as goal

abbrev pub invariant-loop-i : goal.invariant-loop-i
invariant-loop-i g l = Going l.text (g.L.Lines.listed l.lines) l.w l.i
