-- The numbers that are written so far.
use Rattle.std.proofs.Common.{map, take, decimal}
use Rattle.std.specs.List.{join_with_byte}
use Rattle.std.specs.Io.KnownBytes.{Appends}
use Rattle.printing.proofs.write_line.Given as goal

abbrev pub invariant-loop-i : goal.invariant-loop-i
invariant-loop-i g l =
    Appends (g.W.Write.contents l.initial.to) (g.W.Write.contents l.to) (join_with_byte 32 (map decimal (take l.i l.numbers)))
