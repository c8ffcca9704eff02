-- `Output::put_while`: at the loop's head the first i bytes are such ones, and stand behind what was written.
use Rattle.std.proofs.Common.{◌≡◌, ℕ, ◌<◌, ◌++◌, ◌+◌, true, length, take, slice_index}
use Rattle.output.proofs.Output.put_while.Given as goal

abbrev pub invariant-loop-i : goal.invariant-loop-i
invariant-loop-i g l = (take (l.from + l.i) l.self.room.now ≡ take l.from l.initial.self.room.now ++ take l.i l.bytes)
    × (length l.self.room.now ≡ length l.initial.self.room.now) × (l.self.room.ghost_name ≡ l.initial.self.room.ghost_name)
    × (l.self.at ≡ l.from) × ((k : ℕ) → k < l.i → goal.F-post g l.such (slice_index l.bytes k) true)
