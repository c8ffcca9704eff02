-- `atoms::row` meets its contract, by the laws of `Putting`.
use Rattle.atoms.proofs.Putting.{Begun}
use Rattle.atoms.proofs.row.Given as goal

abbrev pub invariant-loop : goal.invariant-loop
invariant-loop l = Begun l.v.base l.kind l.w l.i l.fn.p l.p l.at l.counter
