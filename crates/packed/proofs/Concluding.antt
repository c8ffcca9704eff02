-- What was written and read, and what the definition says of it.
use Rattle.std.specs.Prelude.{ℕ, ◌≡◌, ◌-◌, ◌*◌, ◌/◌, ◌≤◌, ◌<◌, List, ◌++◌, length, take, replicate, Some, None, Result, Ok, Err, IfOk, refl}
use Rattle.std.specs.Result.{result_unwrap_or}
use Rattle.std.proofs.Common.{sym, ap, ◌∙◌, arith}
use Rattle.std.proofs.lemmas.Bool.Decides.{nat_tests}
use Rattle.reading.specs.declared.Located.{Located}
use Rattle.reading.specs.Events.{event_numbers}
use Rattle.reading.specs.Questions.{filled, numbers}
use Rattle.outcome.specs.Outcomes.{kept}
use Rattle.rooms.proofs.Rows.{rows-length}
use Rattle.listing.specs.Listing.{record_at, records}
use Rattle.listing.proofs.Listed.{numbers-records, numbers-length}
use Rattle.groups.proofs.Numbers.{Bytes}
use Rattle.packing.specs.declared.FaultAt.{FaultAt}
use Rattle.packing.specs.Packed.{packed, Flawed, first_flaw}
use Rattle.packing.specs.Unpacked.{Got, unpacked}
use Rattle.packing.proofs.Lists.{pack-unpacked, packed-size}
use Rattle.encoder.specs.declared.PutError.{PutError}
use Rattle.encoder.specs.Encoding.{whole, put_as}
use Rattle.decoder.specs.Decoding.{holding, held, kept as kept-events}
use Rattle.packed.specs.declared.PackedAnswer.{PackedAnswer}
use Rattle.packed.specs.declared.UnpackError.{UnpackError}
use Rattle.packed.specs.declared.UnpackError.TheVariants.{Faulty, Short}
use Rattle.packed.specs.Calls.{Call, call, Restoring, packing_as, packing, restoring, settled, restored_as, restored, told, written, unpacking}
use Rattle.packed.specs.Calls.{enough_bytes, enough_events}

-- a list that was written, as the definition has it
as_written : (bs out out' : List ℕ) → length out' ≡ length out → (f : Flawed) (r : Result ℕ PutError) → r ≡ put_as f (length bs) (length out) → IfOk r (λ n. take n out' ≡ bs)
    → call (written r) (kept (result_unwrap_or r 0) out') ≡ packing_as f bs out
unfolding written packing_as put_as
as_written bs out out' size (Some f) (Ok n) e b = cc
as_written bs out out' size (Some f) (Err w) e b = grind (arith, nat_tests)
as_written bs out out' size None (Ok n) e b = grind (arith, nat_tests)
as_written bs out out' size None (Err w) e b = grind (arith, nat_tests)

-- who lends enough bytes is never refused for them
pub enough-packing : (events out : List ℕ) → enough_bytes (length events / event_numbers) ≤ length out → (packing events out).answer.code ≡ 13 → ⊥
unfolding packing_as
enough-packing events out h = by (first_flaw 0 0 (whole events)) refl
  where
    by : (f : Flawed) → first_flaw 0 0 (whole events) ≡ f → (packing_as f (packed (whole events)) out).answer.code ≡ 13 → ⊥
    by (Some f) e c = omega (arith, c)
    by None e c =
        let size = packed-size (whole events) e in
        let count = rows-length record_at (length events / event_numbers) events in
        grind (arith, nat_tests)

-- the answer in numbers, and the room
pub written-packing : (events out out' : List ℕ) (r : Result ℕ PutError) → length out' ≡ length out
    → r ≡ put_as (first_flaw 0 0 (whole events)) (length (packed (whole events))) (length out) → IfOk r (λ n. take n out' ≡ packed (whole events))
    → (a : PackedAnswer) (out'' : List ℕ) → a ≡ written r → out'' ≡ kept (result_unwrap_or r 0) out'
    → (call a out'' ≡ packing events out) × (enough_bytes (length events / event_numbers) ≤ length out → a.code ≡ 13 → ⊥)
written-packing events out out' r s e b a out'' w k =
    let same : call a out'' ≡ packing events out = (λ i. call (w i) (k i)) ∙ as_written (packed (whole events)) out out' s (first_flaw 0 0 (whole events)) r e b in
    (same, λ h c. enough-packing events out h (sym (ap (λ (x : Call). x.answer.code) same) ∙ c))

-- a list that was read, as the definition has it
module _ (room room' : List ℕ) (size : length room' ≡ length room) where
  abbrev many : ℕ
  many = length room / event_numbers

  -- the room that the events stand in
  room-read : (n : ℕ) (es : List Located) → records n room' ≡ es → n ≡ length es → n ≤ many → kept (n * event_numbers) room' ≡ filled (numbers es) room
  room-read n es is c l =
      let here : take (n * event_numbers) room' ≡ numbers es = sym (numbers-records n room' (omega (arith, size))) ∙ ap numbers is in
      let long : n * event_numbers ≡ length (numbers es) = ap (λ (k : ℕ). k * event_numbers) c ∙ sym (numbers-length es) in
      λ i. here i ++ replicate (size i - long i) 0

  pub as_read : (g : Got (List Located)) (n : ℕ) → held many (Ok n) room' ≡ holding many g → n ≤ many → settled (Ok n) room' ≡ restored_as g room
  unfolding held holding kept-events restored_as
  as_read (Ok (es, m)) n e l = grind (arith, nat_tests, room-read n es)
  as_read (Err w) n e l = cc

  pub as-short : (g : Got (List Located)) (n : ℕ) → held many (Ok n) room' ≡ holding many g → many < n → settled (Err Short) room' ≡ restored_as g room
  unfolding held holding restored_as
  as-short (Ok (es, m)) n e l = grind (arith, nat_tests)
  as-short (Err w) n e l = cc

  pub as-fault : (g : Got (List Located)) (w : FaultAt) → held many (Err w) room' ≡ holding many g → settled (Err (Faulty w)) room' ≡ restored_as g room
  unfolding held holding restored_as
  as-fault (Ok (es, m)) w e = cc
  as-fault (Err v) w e = grind arith

-- who lends a record for each five bytes is never refused for them
pub enough-unpacking : (bs room : List ℕ) → Bytes bs → enough_events (length bs) ≤ length room / event_numbers → (unpacking bs room).answer.code ≡ 13 → ⊥
unfolding restored_as told
enough-unpacking bs room y h = by (unpacked bs) refl
  where
    by : (g : Got (List Located)) → unpacked bs ≡ g → (told (restored_as g room).answer).code ≡ 13 → ⊥
    by (Err w) e c = omega (arith, c)
    by (Ok (es, m)) e c =
        let r = pack-unpacked bs y es m e in
        let size = packed-size es r.sound in
        grind (arith, nat_tests)

-- the answer in numbers
pub told-enough : (bs room : List ℕ) (r : Result ℕ UnpackError) (room' : List ℕ) → restoring r room' ≡ restored bs room → (a : PackedAnswer) → a ≡ told r
    → Bytes bs → enough_events (length bs) ≤ length room / event_numbers → a.code ≡ 13 → ⊥
told-enough bs room r room' e a is y h c =
    enough-unpacking bs room y h (ap (λ (x : Restoring). (told x.answer).code) (sym e) ∙ sym (ap (λ (b : PackedAnswer). b.code) is) ∙ c)
