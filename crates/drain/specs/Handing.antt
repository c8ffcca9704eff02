-- What is answered of events that are handed out, and what stands in their room at the end.
use Rattle.std.specs.Prelude.{ℕ, ◌/◌, List, [], ◌++◌, true, false, leb, length, take, drop, Option, Some, None}
use Rattle.reading.specs.declared.Event.{Event}
use Rattle.reading.specs.Events.{event_numbers}
use Rattle.reading.specs.Located.{located}
use Rattle.reading.specs.Questions.{numbers}

-- of k events and a room for so many
unfoldable pub answered : ℕ → ℕ → Option ℕ
answered k cap = elim (leb k cap) [ true ↦ Some k | false ↦ None ]

-- the numbers of events as they are handed out at first: their lines are put in later
abbrev pub plain : List Event → List ℕ
plain es = numbers (located [] es)

-- as many events from the front as the room holds, and the rest of the room as it was
unfoldable pub handed : List Event → List ℕ → List ℕ
handed es room =
    let out = plain (take (length room / event_numbers) es) in
    out ++ drop (length out) room
