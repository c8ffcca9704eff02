-- The lines in the room, and those of what the pieces are still to give, are all.
use Rattle.std.proofs.Common.{◌≡◌, ◌+◌, ◌≤◌, ◌++◌, length, take}
use Rattle.std.specs.Slice.Iter.{split_inclusive_rest}
use Rattle.input.specs.Lines.{lines_from, text_lines}
use Rattle.input.proofs.split_lines.Given as goal

abbrev pub invariant-loop-line : goal.invariant-loop-line
invariant-loop-line l =
    record {
      whole : take l.n l.room ++ lines_from l.from l.from (split_inclusive_rest l.line-iterator) ≡ text_lines l.text;
      few : l.n ≤ l.from;
      left : l.from + length (split_inclusive_rest l.line-iterator) ≡ length l.text;
    }
