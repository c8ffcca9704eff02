-- The calls for a packed list (document 02, L4): "Answers: 12 with the place of the fault (byte for
-- the reader, event for the writer), then 13 for room. The bytes or events written are answered, 0
-- at both; the output is zero behind them and after both".
use Rattle.std.specs.Prelude.{ℕ, ◌+◌, ◌*◌, ◌/◌, List, true, false, leb, length, codes, Some, None, Result, Ok, Err}
use Rattle.std.specs.Result.{result_unwrap_or}
use Rattle.reading.specs.declared.Located.{Located}
use Rattle.reading.specs.Events.{event_numbers}
use Rattle.reading.specs.Questions.{zeros, filled, numbers}
use Rattle.outcome.specs.Outcomes.{kept}
use Rattle.packing.specs.Packed.{packed, Flawed, first_flaw}
use Rattle.packing.specs.Told.{fault_text}
use Rattle.packing.specs.Unpacked.{Got, unpacked}
use Rattle.encoder.specs.declared.PutError.{PutError}
use Rattle.encoder.specs.declared.PutError.TheVariants.{Flaw, Full}
use Rattle.encoder.specs.Encoding.{whole}
use Rattle.packed.specs.declared.PackedAnswer.{PackedAnswer}
use Rattle.packed.specs.declared.UnpackError.{UnpackError}
use Rattle.packed.specs.declared.UnpackError.TheVariants.{Faulty, Short}

-- the answer, and the room that is written
pub record Call : Type 0 where
  pub answer : PackedAnswer
  pub room : List ℕ

abbrev pub call : PackedAnswer → List ℕ → Call
call a room = record { answer = a; room = room }

abbrev pub refusal : ℕ → ℕ → PackedAnswer
refusal code at = record { code = code; place = at; count = 0 }

abbrev pub acceptance : ℕ → PackedAnswer
acceptance n = record { code = 0; place = 0; count = n }

-- 12: has no event a flaw? 13: does the room hold the bytes?
unfoldable pub packing_as : Flawed → List ℕ → List ℕ → Call
packing_as (Some (f, i)) bs out = call (refusal 12 i) (zeros out)
packing_as None bs out =
    elim (leb (length bs) (length out)) [ false ↦ call (refusal 13 0) (zeros out) | true ↦ call (acceptance (length bs)) (filled bs out) ]

-- the call that writes
abbrev pub packing : List ℕ → List ℕ → Call
packing events out = packing_as (first_flaw 0 0 (whole events)) (packed (whole events)) out

-- what comes of a packed list: so many events, a fault and its place, or too little room; and the
-- room
pub record Restoring : Type 0 where
  pub answer : Result ℕ UnpackError
  pub room : List ℕ

abbrev pub restoring : Result ℕ UnpackError → List ℕ → Restoring
restoring r room = record { answer = r; room = room }

-- 12: are the bytes a packed list? 13: does the room hold the events?
unfoldable pub restored_as : Got (List Located) → List ℕ → Restoring
restored_as (Err f) room = restoring (Err (Faulty f)) (zeros room)
restored_as (Ok (es, next)) room =
    elim (leb (length es) (length room / event_numbers)) [
      | false ↦ restoring (Err Short) (zeros room)
      | true ↦ restoring (Ok (length es)) (filled (numbers es) room)
    ]

-- the events that stand in a room, with zero behind them
abbrev pub settled : Result ℕ UnpackError → List ℕ → Restoring
settled r room = restoring r (kept (result_unwrap_or r 0 * event_numbers) room)

abbrev pub restored : List ℕ → List ℕ → Restoring
restored bytes room = restored_as (unpacked bytes) room

-- in numbers
unfoldable pub told : Result ℕ UnpackError → PackedAnswer
told (Ok n) = acceptance n
told (Err (Faulty f)) = refusal 12 f.place
told (Err Short) = refusal 13 0

unfoldable pub written : Result ℕ PutError → PackedAnswer
written (Ok n) = acceptance n
written (Err (Flaw i)) = refusal 12 i
written (Err Full) = refusal 13 0

-- in plain words
abbrev pub meaning : UnpackError → List ℕ
meaning (Faulty f) = fault_text f.fault
meaning Short = codes "the events are more than the event room holds"

-- the call that reads
abbrev pub unpacking : List ℕ → List ℕ → Call
unpacking bytes room = call (told (restored bytes room).answer) (restored bytes room).room

-- so many bytes always hold so many events; and so many events are in no fewer bytes than five
-- times as many
abbrev pub enough_bytes : ℕ → ℕ
enough_bytes n = 32 * n + 5

abbrev pub enough_events : ℕ → ℕ
enough_events bytes = bytes / 5
