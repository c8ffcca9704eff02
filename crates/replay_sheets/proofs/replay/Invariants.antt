-- No more cases than bytes that were passed, and no more differences than cases.
use Rattle.std.proofs.Common.{◌+◌, ◌≤◌, length}
use Rattle.std.specs.Slice.Iter.{split_inclusive_rest}
use Rattle.replay_sheets.proofs.replay.Given as goal

abbrev pub invariant-loop-line : goal.invariant-loop-line
invariant-loop-line l =
    record {
      next : (goal.iterator-loop-line).can_next l.line-iterator;
      finite : (goal.iterator-loop-line).is_finite l.line-iterator;
      few : l.cases + length (split_inclusive_rest l.line-iterator) ≤ length l.bytes;
      fewer : l.differ ≤ l.cases;
    }
