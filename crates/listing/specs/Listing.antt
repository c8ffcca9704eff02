-- The events that stand in an event room, from its front.
use Rattle.std.specs.Prelude.{ℕ, ◌+◌, ◌*◌, List, get_or}
use Rattle.reading.specs.declared.Event.{Event}
use Rattle.reading.specs.declared.Located.{Located}
use Rattle.reading.specs.Events.{event_numbers}
use Rattle.slots.specs.Slots.{event_in}
use Rattle.rooms.specs.Rows.{rows}

-- the event at place i
abbrev pub event_at : List ℕ → ℕ → Event
event_at = event_in event_numbers

-- the first n events
abbrev pub listed : ℕ → List ℕ → List Event
listed n room = rows event_at n room

-- the record at place i: that event with its line, which is the record's last number
abbrev pub record_at : List ℕ → ℕ → Located
record_at room i = record { event = event_at room i; line = get_or room (i * event_numbers + 7) 0 }

-- the first n records
abbrev pub records : ℕ → List ℕ → List Located
records n room = rows record_at n room
