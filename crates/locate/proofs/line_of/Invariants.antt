-- `locate::line_of` meets its contract: the line is not behind that of the place.
use Prim.Native.Nat.{◌-◌, ◌≤◌}
use lib.ListN.{length}
use Rattle.reading.specs.Located.{line_of}
use Rattle.locate.proofs.line_of.Given as goal

abbrev pub invariant-loop-line : goal.invariant-loop-line
invariant-loop-line g l = l.line ≤ line_of (g.L.Lines.listed l.lines) l.at

abbrev pub decreases-loop-line : goal.decreases-loop-line
decreases-loop-line g l = length (g.L.Lines.listed l.lines) - l.line
