-- `verdict::find_barred`: at the loop's head none of the first i events is barred.
use Rattle.std.proofs.Common.{◌≡◌, ◌/◌, drop, length}
use Rattle.reading.specs.Events.{event_numbers}
use Rattle.listing.specs.Listing.{listed}
use Rattle.verdict.specs.Fragments.{first_barred}
use Rattle.verdict.proofs.find_barred.Given as goal

abbrev pub invariant-loop-i : goal.invariant-loop-i
invariant-loop-i l =
    first_barred (drop l.i (listed (length l.events / event_numbers) l.events)) ≡ first_barred (listed (length l.events / event_numbers) l.events)
