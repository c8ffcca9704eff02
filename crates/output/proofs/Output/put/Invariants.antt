-- `Output::put`: at the loop's head the first i bytes stand behind what was written.
use Rattle.std.proofs.Common.{◌≡◌, ◌++◌, ◌+◌, length, take}
use Rattle.output.proofs.Output.put.Given as goal

abbrev pub invariant-loop-i : goal.invariant-loop-i
invariant-loop-i l = (take (l.from + l.i) l.self.room.now ≡ take l.from l.initial.self.room.now ++ take l.i l.bytes)
    × (length l.self.room.now ≡ length l.initial.self.room.now) × (l.self.room.ghost_name ≡ l.initial.self.room.ghost_name)
    × (l.self.at ≡ l.from)
