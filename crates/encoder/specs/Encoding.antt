-- What comes of writing a list.
use Rattle.std.specs.Prelude.{ℕ, ◌≤◌, ◌/◌, List, true, false, leb, length, Some, None, Result, Ok, Err}
use Rattle.reading.specs.declared.Event.{Event}
use Rattle.reading.specs.declared.Located.{Located}
use Rattle.reading.specs.Events.{event_numbers}
use Rattle.listing.specs.Listing.{records}
use Rattle.packing.specs.Packed.{Flawed}
use Rattle.encoder.specs.declared.PutError.{PutError}
use Rattle.encoder.specs.declared.PutError.TheVariants.{Flaw, Full}

-- a list is the whole records of a room
abbrev pub whole : List ℕ → List Located
whole room = records (length room / event_numbers) room

-- the answer, by the first flaw, how many bytes a list has and how many a room: a refusal comes
-- before the room
unfoldable pub put_as : Flawed → ℕ → ℕ → Result ℕ PutError
put_as (Some (f, i)) bytes size = Err (Flaw i)
put_as None bytes size = elim (leb bytes size) [ true ↦ Ok bytes | false ↦ Err Full ]

-- what no difference of an event's numbers goes below 0 with, behind one that ends at prev
pub record Forward (prev : ℕ) (e : Event) : Type 0 where
  pub late : prev ≤ e.start.0
  pub span : e.start.0 ≤ e.end.0
  pub range : e.home_start.0 ≤ e.home_end.0
