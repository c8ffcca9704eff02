-- `locate::locate` meets its contract, by the laws of `Lining`.
use Rattle.locate.proofs.Lining.{Located_to}
use Rattle.locate.proofs.locate.Given as goal

abbrev pub invariant-loop-i : goal.invariant-loop-i
invariant-loop-i g l = Located_to (g.L.Lines.listed l.lines) l.n l.initial.events l.events l.here l.i
