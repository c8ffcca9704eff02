-- With the events that are left, the writer holds all.
use Rattle.std.proofs.Common.{◌≡◌, ℕ, List, Option}
use Rattle.std.specs.Io.KnownBytes.{Appends}
use Rattle.std.specs.Slice.Iter.{chunks_exact_rest, chunks_exact_size}
use Rattle.reading.specs.Events.{event_numbers}
use Rattle.printing.specs.Printed.{events_text}
use Rattle.printing.proofs.write_events.Given as goal

abbrev pub invariant-loop-event : goal.invariant-loop-event
invariant-loop-event g l =
    (chunks_exact_size l.event-iterator ≡ event_numbers)
    × ((all : Option (List ℕ)) → Appends (g.W.Write.contents l.to) all (events_text (chunks_exact_rest l.event-iterator)) → Appends (g.W.Write.contents l.fn.to) all (events_text l.events))
