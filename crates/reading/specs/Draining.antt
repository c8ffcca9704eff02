-- Draining (document 01, "Draining"): touching Str events become one; empty ones vanish.
use Rattle.std.specs.Prelude.{ℕ, List, [], ◌∷◌, Bool, true, false, eqb}
use Rattle.reading.specs.declared.Event.{Event}
use Rattle.reading.specs.Events.{event, str}

-- the Str from a to before b, if it is not empty, and what follows
unfoldable pub flushed : ℕ → ℕ → List Event → List Event
flushed a b es = elim (eqb a b) [ true ↦ es | false ↦ event str a b ∷ es ]

-- an event begins where the Str that is held ends
abbrev pub touches : ℕ → Event → Bool
touches b e = eqb b e.start.0

-- the events of a queue behind a Str from a to before b, which is held since the next may touch it
unfoldable pub drained : ℕ → ℕ → List Event → List Event
drained a b [] = flushed a b []
drained a b (e ∷ es) =
    elim (eqb e.kind str) [
      | true ↦ elim (touches b e) [
        | true ↦ drained a e.end.0 es
        | false ↦ flushed a b (drained e.start.0 e.end.0 es)
      ]
      | false ↦ flushed a b (e ∷ drained e.end.0 e.end.0 es)
    ]

-- at first an empty one is held
abbrev pub drain : List Event → List Event
drain q = drained 0 0 q
