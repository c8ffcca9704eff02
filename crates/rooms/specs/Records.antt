-- Events and openers as they lie in their rooms.
use Rattle.std.specs.Prelude.{ℕ, ◌+◌, ◌*◌, List, [], ◌∷◌, length, get_or, Option, Some, None}
use Rattle.reading.specs.declared.Event.{Event}
use Rattle.reading.specs.declared.Opener.{Opener}
use Rattle.reading.specs.Events.{queue_numbers, opener_numbers}
use Rattle.slots.specs.Slots.{event_in}
use Rattle.reading.specs.Sorts.{sort_at}
use Rattle.rooms.specs.Rows.{rows, stack}

-- the event at place i; the eighth number is free
abbrev pub event_at : List ℕ → ℕ → Event
event_at room i = event_in queue_numbers room i

-- the first n events, the oldest first
abbrev pub events : ℕ → List ℕ → List Event
events n room = rows event_at n room

-- the opener at place i; the fourth number is free
abbrev pub opener_at : List ℕ → ℕ → Opener
opener_at room i =
    record { sort = sort_at (get_or room (i * opener_numbers) 0); event = get_or room (i * opener_numbers + 1) 0; span = get_or room (i * opener_numbers + 2) 0 }

-- the first n openers, the newest first
abbrev pub opens : ℕ → List ℕ → List Opener
opens n room = stack opener_at n room

-- the place of the newest opener of a stack
unfoldable pub place : List Opener → Option ℕ
place [] = None
place (o ∷ os) = Some (length os)
