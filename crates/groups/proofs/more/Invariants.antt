-- `groups::more` meets its contract, by the laws of `Turns`.
use Rattle.groups.proofs.Turns.{Reads}
use Rattle.groups.proofs.more.Given as goal

abbrev pub invariant-loop-i : goal.invariant-loop-i
invariant-loop-i l = Reads l.bytes l.at l.low l.value l.weight l.i
