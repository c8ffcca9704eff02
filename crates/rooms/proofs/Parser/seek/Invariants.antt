-- `Parser::seek` meets its contract, by the laws of `Search`.
use Prim.Native.Nat.{◌≤◌}
use mathlib.Core.Path.{◌≡◌}
use Rattle.reading.specs.Containers.{seek_mark}
use Rattle.rooms.specs.Records.{opens}
use Rattle.rooms.proofs.Parser.seek.Given as goal

abbrev pub invariant-loop-i : goal.invariant-loop-i
invariant-loop-i l = (l.i ≤ l.n) × (seek_mark l.mark (opens l.i l.self.openers.now) ≡ seek_mark l.mark (opens l.n l.self.openers.now))

abbrev pub decreases-loop-i : goal.decreases-loop-i
decreases-loop-i l = l.i
