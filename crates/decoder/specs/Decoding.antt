-- The answers of the functions that read a packed list, as what the definition says is read there.
use Rattle.std.specs.Prelude.{ℕ, ◌≡◌, List, [], Bool, true, false, leb, length, Result, Ok, Err}
use Rattle.reading.specs.declared.Located.{Located}
use Rattle.listing.specs.Listing.{records}
use Rattle.packing.specs.declared.FaultAt.{FaultAt}
use Rattle.packing.specs.Unpacked.{Got, Reads}
use Rattle.decoder.specs.declared.Input.{Input}

-- what was read, by the answer and the place at the end
abbrev pub came : {A : Type 0} → Result A FaultAt → ℕ → Got A
came (Ok a) at = Ok (a, at)
came (Err e) at = Err e

-- from an input to the answer r and the input at its end: r is what is read of its bytes from its
-- place on
pub record Read {A : Type 0} (i : Input) (p : List ℕ → Reads A) (r : Result A FaultAt) (i' : Input) : Type 0 where
  pub same : came r i'.at ≡ p i.bytes.now i.at
  pub bytes : i'.bytes ≡ i.bytes

-- events that are kept, or only looked through
unfoldable pub kept : Bool → List Located → List Located
kept true es = es
kept false es = []

-- how many events there are, and those that are kept: all, if a room holds so many
unfoldable pub holding : ℕ → Got (List Located) → Result (ℕ × List Located) FaultAt
holding size (Ok (es, next)) = Ok (length es, kept (leb (length es) size) es)
holding size (Err e) = Err e

-- by the answer and the room at the end
unfoldable pub held : ℕ → Result ℕ FaultAt → List ℕ → Result (ℕ × List Located) FaultAt
held size (Ok n) room = Ok (n, kept (leb n size) (records n room))
held size (Err e) room = Err e
