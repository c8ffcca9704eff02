-- No more cases than turns, and no more differences than cases.
use Rattle.std.proofs.Common.{◌≤◌}
use Rattle.replay.proofs.replay.Given as goal

abbrev pub invariant-loop : goal.invariant-loop
invariant-loop l = (l.cases ≤ l.counter) × (l.differ ≤ l.cases)
