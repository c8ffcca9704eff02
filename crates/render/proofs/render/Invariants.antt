-- `render::render`: at the loop's head the events from i on are left to write.
use Rattle.std.proofs.Common.{◌≤◌, ◌/◌, drop, length}
use Rattle.reading.specs.Events.{event_numbers}
use Rattle.listing.specs.Listing.{listed}
use Rattle.output.proofs.Appending.{Left}
use Rattle.markup.specs.Markup.{written, outside_raw, fragment}
use Rattle.render.proofs.render.Given as goal

abbrev pub invariant-loop-i : goal.invariant-loop-i
invariant-loop-i l = (l.raw ≤ l.i) × Left l.initial.out (fragment l.text (listed (length l.events / event_numbers) l.events)) l.out
    (outside_raw (written l.text) l.raw (drop l.i (listed (length l.events / event_numbers) l.events)))
