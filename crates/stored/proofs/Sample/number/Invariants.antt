-- The number that goes on at the place is the one that is read.
use Rattle.std.proofs.Common.{◌≡◌, ◌-◌, length, drop}
use Rattle.stored.specs.Numbers.{digits, number_at}
use Rattle.stored.proofs.Sample.number.Given as goal

abbrev pub invariant-loop-b : goal.invariant-loop-b
invariant-loop-b l =
    (digits l.value l.self.at (drop l.self.at l.self.bytes.now) ≡ number_at l.initial.self.bytes.now l.initial.self.at)
    × (l.self.bytes ≡ l.initial.self.bytes)

abbrev pub decreases-loop-b : goal.decreases-loop-b
decreases-loop-b l = length l.self.bytes.now - l.self.at
