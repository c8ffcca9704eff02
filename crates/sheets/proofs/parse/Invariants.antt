-- `sheets::parse` meets its contract, by the laws of `Sheets`.
use Rattle.sheets.proofs.Sheets.{Head}
use Rattle.sheets.proofs.parse.Given as goal

abbrev pub invariant-loop-i : goal.invariant-loop-i
invariant-loop-i g l = Head l.text (g.L.Lines.listed l.lines) l.reading l.initial.p l.p l.end l.i
