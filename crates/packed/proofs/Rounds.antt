-- There and back, of calls: what was packed is unpacked, what was unpacked is packed, and no list
-- of a sheet that is read is refused for a fault.
use Rattle.std.proofs.lemmas.Bool.Decides.{nat_tests}
use Rattle.std.specs.Prelude.{Some, None, Ok, Err}
use Prim.Native.Nat.{ℕ, zero, suc, ◌+◌, ◌-◌, ◌*◌, ◌/◌, ◌≤◌, ◌<◌}
use mathlib.Core.Path.{◌≡◌, refl, sym, ap, ◌∙◌}
use mathlib.Core.List.{List, [], ◌∷◌, ◌++◌, append-nil}
use mathlib.Core.Bool.{Bool, true, false}
use native.Mathlib.Omega.{arith}
use borrow.Author.Tests.{leb-true, le-leb}
use lib.Dec.{leb}
use lib.ListN.{length, get_or, take, replicate, length-append}
use lib.Seq.{take_at}
use Rattle.reading.specs.declared.Line.{Line}
use Rattle.reading.specs.declared.Located.{Located}
use Rattle.reading.specs.Events.{event_numbers}
use Rattle.reading.specs.Reading.{sheet}
use Rattle.reading.specs.Located.{located}
use Rattle.reading.proofs.Locating.{located-length}
use Rattle.reading.specs.Questions.{Rooms, Outcome, filled, numbers, label_room, outcome}
use Rattle.reading.specs.Walked.{events}
use Rattle.reading.proofs.Answers.{accepted}
use Rattle.rooms.specs.Rows.{rows}
use Rattle.rooms.proofs.Rows.{rows-length}
use Rattle.listing.specs.Listing.{record_at, records}
use Rattle.listing.proofs.Listed.{records-numbers, numbers-records, numbers-length}
use Rattle.groups.proofs.Numbers.{Bytes}
use Rattle.packing.specs.Packed.{packed, Flawed, first_flaw}
use Rattle.packing.specs.Unpacked.{Got, unpacked}
use Rattle.packing.proofs.Single.{Narrow}
use Rattle.packing.proofs.Lists.{AllNarrow, Restored, unpack-packed, pack-unpacked, packed-size}
use Rattle.packing.proofs.Sheets.{sheet-sound}
use Rattle.encoder.specs.Encoding.{whole}
use Rattle.packed.specs.Calls.{call, acceptance, packing_as, packing, restored_as, told, unpacking, enough_bytes}

-- numbers of 32 bits
abbrev pub Numbers : List ℕ → Type 0
Numbers room = (i : ℕ) → get_or room i 0 < 4294967296

narrow-more : (es : List Located) (e : Located) → AllNarrow es → Narrow e → AllNarrow (es ++ (e ∷ []))
unfolding AllNarrow
narrow-more [] e n m = (m, tt)
narrow-more (d ∷ es) e n m = (n.0, narrow-more es e n.1 m)

narrow-listed : (n : ℕ) (room : List ℕ) → Numbers room → AllNarrow (records n room)
unfolding AllNarrow rows
narrow-listed zero room y = tt
narrow-listed (suc n) room y =
    narrow-more (records n room) (record_at room n) (narrow-listed n room y)
    (record { end = omega (arith, y (n * event_numbers + 2)); home = omega (arith, y (n * event_numbers + 5)); link = omega (arith, y (n * event_numbers + 6)); line = omega (arith, y (n * event_numbers + 7)) })

-- the numbers of some events are their list
whole_numbers : (es : List Located) → whole (numbers es) ≡ es
whole_numbers es =
    let count : length (numbers es) / event_numbers ≡ length es = omega (arith, numbers-length es) in
    (λ i. records (count i) (sym (append-nil (numbers es)) i)) ∙ records-numbers es []

-- a list that is accepted has no flaw, and its bytes fit
packing-accepted : (f : Flawed) (bs out : List ℕ) → (packing_as f bs out).answer.code ≡ 0 → (f ≡ None) × (packing_as f bs out ≡ call (acceptance (length bs)) (filled bs out))
unfolding packing_as
packing-accepted (Some f) bs out c = absurd (omega (arith, c))
packing-accepted None bs out c = grind (arith, nat_tests)

accepted-packing : (f : Flawed) (bs out : List ℕ) → f ≡ None → length bs ≤ length out → packing_as f bs out ≡ call (acceptance (length bs)) (filled bs out)
unfolding packing_as
accepted-packing f bs out e l = ap (λ (x : Flawed). packing_as x bs out) e ∙ rw (le-leb (length bs) (length out) l, packing_as)

-- so many of its first numbers are what was filled in
filled-front : (l room : List ℕ) (n : ℕ) → length l ≡ n → take n (filled l room) ≡ l
filled-front l room n e = take_at l (replicate (length room - length l) 0) n e

-- the same of bytes that are read
unpacking-read : (bs room : List ℕ) (es : List Located) (m : ℕ) → unpacked bs ≡ Ok (es, m) → length es ≤ length room / event_numbers
    → unpacking bs room ≡ call (acceptance (length es)) (filled (numbers es) room)
unfolding restored_as told
unpacking-read bs room es m e l = grind (arith, nat_tests)

-- unpacking a packed list restores it
pub there_and_back : (events out room : List ℕ) → Numbers events → (packing events out).answer.code ≡ 0 → length events / event_numbers ≤ length room / event_numbers
    → let p = packing events out in
    let n = length events / event_numbers in
    unpacking (take p.answer.count p.room) room ≡ call (acceptance n) (filled (take (n * event_numbers) events) room)
there_and_back events out room y c l =
    let n = length events / event_numbers in
    let es = whole events in
    let r = packing-accepted (first_flaw 0 0 es) (packed es) out c in
    let count : length es ≡ n = rows-length record_at n events in
    ap (λ (bs : List ℕ). unpacking bs room) ((λ i. take (r.1 i).answer.count (r.1 i).room) ∙ filled-front (packed es) out (length (packed es)) refl)
    ∙ unpacking-read (packed es) room es (length (packed es)) (unpack-packed es (narrow-listed n events y) r.0) (omega (arith, l, count))
    ∙ (λ i. call (acceptance (count i)) (filled (numbers-records n events (omega arith) i) room))

-- packing an unpacked list restores the bytes
pub back-and-there : (bs room out : List ℕ) → Bytes bs → (unpacking bs room).answer.code ≡ 0 → length bs ≤ length out
    → let u = unpacking bs room in
    packing (take (u.answer.count * event_numbers) u.room) out ≡ call (acceptance (length bs)) (filled bs out)
unfolding restored_as told
back-and-there bs room out y c l = by (unpacked bs) refl c
  where
    by : (g : Got (List Located)) → unpacked bs ≡ g → (told (restored_as g room).answer).code ≡ 0
        → let u = unpacking bs room in
        packing (take (u.answer.count * event_numbers) u.room) out ≡ call (acceptance (length bs)) (filled bs out)
    by (Err w) e c = absurd (omega (arith, c))
    by (Ok (es, m)) e c = go (leb (length es) (length room / event_numbers)) refl
      where
        r : Restored bs es
        r = pack-unpacked bs y es m e

        go : (t : Bool) → leb (length es) (length room / event_numbers) ≡ t
            → let u = unpacking bs room in
            packing (take (u.answer.count * event_numbers) u.room) out ≡ call (acceptance (length bs)) (filled bs out)
        go true t =
            let u = unpacking-read bs room es m e (leb-true (length es) (length room / event_numbers) t) in
            ap (λ (l : List ℕ). packing l out) ((λ i. take ((u i).answer.count * event_numbers) (u i).room) ∙ filled-front (numbers es) room (length es * event_numbers) (numbers-length es))
            ∙ (λ i. packing_as (first_flaw 0 0 (whole_numbers es i)) (packed (whole_numbers es i)) out)
            ∙ ap (λ (b : List ℕ). packing_as (first_flaw 0 0 es) b out) r.same
            ∙ accepted-packing (first_flaw 0 0 es) bs out r.sound l
        go false t = absurd (omega (arith, rw (t, restored_as, told) at c))

-- of every sheet that is read the list that is handed out has no fault: only room is asked for
module _ (text : List ℕ) (ls : List Line) (reading : ℕ) (rooms : Rooms) (e : (outcome text ls reading rooms).answer.code ≡ 0) where
  abbrev o : Outcome
  o = outcome text ls reading rooms

  abbrev es : List Located
  es = located ls (events (sheet text ls reading (label_room rooms.labels)) ls)

  long : length es ≡ length (events (sheet text ls reading (label_room rooms.labels)) ls)
  long = located-length ls (events (sheet text ls reading (label_room rooms.labels)) ls)

  abbrev list : List ℕ
  list = take (o.answer.events * event_numbers) o.rooms.events

  handed : list ≡ numbers es
  handed =
      let a = accepted text ls reading rooms e in
      (λ i. take ((a.count ∙ sym long) i * event_numbers) (a.handed i)) ∙ filled-front (numbers es) rooms.events (length es * event_numbers) (numbers-length es)

  -- the records stand in the event room
  pub events-within : o.answer.events * event_numbers ≤ length o.rooms.events
  events-within =
      let a = accepted text ls reading rooms e in
      omega (arith, long, a.count, ap length a.handed, length-append (numbers es) (replicate (length rooms.events - length (numbers es)) 0), numbers-length es)

  pub sheet-packs : (out : List ℕ) → packing list out ≡ packing_as None (packed es) out
  sheet-packs out =
      ap (λ (l : List ℕ). packing l out) handed
      ∙ (λ i. packing_as (first_flaw 0 0 (whole_numbers es i)) (packed (whole_numbers es i)) out)
      ∙ ap (λ (f : Flawed). packing_as f (packed es) out) (sheet-sound text ls reading rooms e)

  -- and whoever lends enough bytes has it
  pub sheet-packed : (out : List ℕ) → enough_bytes o.answer.events ≤ length out → packing list out ≡ call (acceptance (length (packed es))) (filled (packed es) out)
  sheet-packed out h =
      let a = accepted text ls reading rooms e in
      let size = (packed-size es (sheet-sound text ls reading rooms e)).1 in
      sheet-packs out ∙ accepted-packing None (packed es) out refl (omega (arith, long, h, size, a.count))
