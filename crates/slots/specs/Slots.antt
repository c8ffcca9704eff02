-- An event as it lies in a room of numbers, in records of w numbers each.
use Rattle.std.specs.Prelude.{ℕ, ◌+◌, ◌*◌, List, get_or}
use Rattle.reading.specs.declared.Event.{Event}
use Rattle.reading.specs.Events.{place, link}

-- the event of the record at place i: the record's first seven numbers
abbrev pub event_in : ℕ → List ℕ → ℕ → Event
event_in w room i =
    record {
      kind = get_or room (i * w) 0;
      start = place (get_or room (i * w + 1) 0);
      end = place (get_or room (i * w + 2) 0);
      home = get_or room (i * w + 3) 0;
      home_start = place (get_or room (i * w + 4) 0);
      home_end = place (get_or room (i * w + 5) 0);
      link = link (get_or room (i * w + 6) 0);
    }
