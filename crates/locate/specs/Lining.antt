-- The lines of events that stand in their room, put in.
use Rattle.std.specs.Prelude.{ℕ, ◌*◌, ◌≤◌, List, [], ◌∷◌, ◌++◌, drop, get_or}
use Rattle.reading.specs.declared.Line.{Line}
use Rattle.reading.specs.declared.Event.{Event}
use Rattle.reading.specs.Events.{event_numbers}
use Rattle.reading.specs.Located.{located}
use Rattle.reading.specs.Questions.{numbers}
use Rattle.inline.specs.Lines.{none}
use Rattle.listing.specs.Listing.{listed}
use Rattle.locate.specs.declared.Here.{Here}

-- the k-th line, and where it ends
abbrev pub line_at : List Line → ℕ → Here
line_at ls k = record { line = k; end = (get_or ls k none).end }

-- the room of n events, each with the line that it is on
abbrev pub lined : List Line → ℕ → List ℕ → List ℕ
lined ls n room = numbers (located ls (listed n room)) ++ drop (n * event_numbers) room

-- no event starts before the one before it
unfoldable pub Rising : ℕ → List Event → Type 0
Rising a [] = Unit {0}
Rising a (e ∷ es) = (a ≤ e.start.0) × Rising e.start.0 es
