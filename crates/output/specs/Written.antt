-- Bytes written behind one another from the front of a lent room.
use Rattle.std.specs.Prelude.{ℕ, ◌+◌, ◌≤◌, ◌<◌, ◌≡◌, List, ◌++◌, true, false, leb, length, take, Option, Some, None, IfSome}
use Rattle.output.specs.declared.Output.{Output}

-- what stands written, by the count that is answered, from the front of the room. With no count the bytes were more than the room holds. Behind
-- them, and where they were too many, the room is open
unfoldable pub written : Option ℕ → List ℕ → Option (List ℕ)
written (Some n) room = Some (take n room)
written None room = None

-- some bytes more, in a room of a size
unfoldable pub append : ℕ → List ℕ → Option (List ℕ) → Option (List ℕ)
append size bs (Some w) = elim (leb (length w + length bs) size) [ true ↦ Some (w ++ bs) | false ↦ None ]
append size bs None = None

-- the count is of the room
unfoldable pub Within : Option ℕ → ℕ → Type 0
Within (Some n) size = n ≤ size
Within None size = Unit {0}

-- from the first n bytes of a room to the answer r and the room at its end: bs stand written behind them
pub record Wrote (room : List ℕ) (n : ℕ) (bs : List ℕ) (r : Option ℕ) (room' : List ℕ) : Type 0 where
  pub same : written r room' ≡ append (length room) bs (Some (take n room))
  pub within : Within r (length room)
  pub size : length room' ≡ length room

-- from an output to the answer r and the output at its end, in the same lent room: bs stand written behind what it held; or r is None, and they were
-- more than the room holds
pub record Adds (o : Output) (bs : List ℕ) (r : Option (Unit {0})) (o' : Output) : Type 0 where
  pub wrote : IfSome r (λ _. take o'.at o'.room.now ≡ take o.at o.room.now ++ bs)
  pub at : IfSome r (λ _. o'.at ≡ o.at + length bs)
  pub full : r ≡ None → length o.room.now < o.at + length bs
  pub size : length o'.room.now ≡ length o.room.now
  pub lent : o'.room.ghost_name ≡ o.room.ghost_name
