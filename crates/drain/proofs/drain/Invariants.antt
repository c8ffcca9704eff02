-- `drain::drain` meets its contract: `Head` of `proofs.Steps` holds at the loop's head.
use Rattle.drain.proofs.Steps.{Head}
use Rattle.drain.proofs.drain.Given as goal

abbrev pub invariant-loop-i : goal.invariant-loop-i
invariant-loop-i l = Head l.queue l.n l.initial.held l.held l.i
