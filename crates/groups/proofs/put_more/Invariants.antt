-- `groups::put_more` meets its contract, by the laws of `Turns`.
use Rattle.groups.proofs.Turns.{Rest}
use Rattle.groups.proofs.put_more.Given as goal

abbrev pub invariant-loop-rest : goal.invariant-loop-rest
invariant-loop-rest l = Rest l.initial.out l.n l.out l.rest

abbrev pub decreases-loop-rest : goal.decreases-loop-rest
decreases-loop-rest l = l.rest
