-- What the contracts of a token outside verbatim are stated in, beside the definition.
use Rattle.std.specs.Prelude.{◌+◌, ◌-◌, ◌*◌, ◌≤◌, ◌<◌, ◌≡◌, ◌⊎◌, length, Option, Some, None}
use Rattle.reading.specs.declared.Last.{Last}
use Rattle.reading.specs.Events.{queue_numbers, largest}
use Rattle.reading.specs.Machine.{View}
use Rattle.rooms.specs.declared.Parser.{Parser}
use Rattle.rooms.specs.declared.span.Span.{Span}
use Rattle.rooms.specs.Records.{event_at}
use Rattle.containers.specs.Ready.{Countable}

-- a token of a line, room in the queue for what the rest of the line can give, and in the count for all openers
pub record TokenReady (v : View) (h : Span) (p : Parser) : Type 0 where
  pub long : h.from < h.to
  pub within : h.to ≤ length v.bytes
  pub small : v.base + length v.bytes ≤ largest
  pub room : (p.at.events + (length v.bytes - h.from)) * queue_numbers ≤ length p.queue.now
  pub countable : Countable p

-- there is a newest event, and the dollars noted of it are no more than the place it ends at, nor than the place noted as its end
pub record Ending (l : Last) (p : Parser) : Type 0 where
  pub some : 0 < p.at.events
  pub within : l.dollars ≤ (event_at p.queue.now (p.at.events - 1)).end.0
  pub ends : l.dollars ≤ l.end.0

-- of what is noted, if anything is: no dollars, or those of the newest event
abbrev pub EndedBy : Option Last → Parser → Type 0
EndedBy None p = Unit {0}
EndedBy (Some l) p = (l.dollars ≡ 0) ⊎ Ending l p

abbrev pub Ended : Parser → Type 0
Ended p = EndedBy p.at.last p
