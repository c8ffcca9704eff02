-- What stands in the rooms at the end: a refusal, or events and labels from the front; and what the last questions ask of what was read.
use Rattle.std.specs.Prelude.{None, Option, Some, Result, Ok, Err}
use Prim.Native.Nat.{ℕ, ◌-◌, ◌*◌, ◌/◌, ◌^◌, ◌≤◌, ◌<◌}
use mathlib.Core.Path.{◌≡◌, refl, sym, ap, ◌∙◌, subst}
use mathlib.Core.List.{List, [], ◌∷◌, ◌++◌}
use mathlib.Core.Bool.{Bool, true, false}
use native.Mathlib.Omega.{arith}
use borrow.Author.Tests.{leb-true}
use lib.Dec.{leb}
use lib.ListN.{length, take, drop, replicate, length-append, length-drop}
use lib.Seq.{length-take-le, take_at, drop-append_seam}
use Rattle.reading.specs.declared.Answer.{Answer}
use Rattle.reading.specs.declared.Event.{Event}
use Rattle.reading.specs.declared.Line.{Line}
use Rattle.reading.specs.declared.Place.{Place}
use Rattle.reading.specs.declared.refusal.Refusal.{Refusal}
use Rattle.reading.specs.declared.refusal.Refusal.TheVariants as refusal
use Rattle.reading.specs.Machine.{State}
use Rattle.reading.specs.Draining.{drain}
use Rattle.reading.specs.Reading.{sheet, read, end_of}
use Rattle.reading.specs.Events.{event_numbers}
use Rattle.reading.specs.Questions.{Rooms, Outcome, acceptance, total, label_room, zeros, filled, numbers, refuses, cleared, handed_out, judged}
use Rattle.reading.specs.Refusals.{code_of, place_of, answer_of}
use Rattle.reading.proofs.Theorems.{end-room, room, rising, ordered}
use Rattle.rooms.specs.declared.Status.{Status}
use Rattle.rooms.specs.Records.{events, event_at}
use Rattle.rooms.specs.Standing.{stands}
use Rattle.rooms.proofs.Rows.{rows-length}
use Rattle.inline.specs.Asks.{StandsFor}
use Rattle.inline.proofs.Begins.{rising-total}
use Rattle.drain.specs.Handing.{handed, plain}
use Rattle.drain.proofs.Handing.{handed-all}
use Rattle.drain.proofs.Storing.{plain-length}
use Rattle.listing.specs.Listing.{listed, records}
use Rattle.listing.proofs.Listed.{numbers-length, records-numbers, listed-numbers}
use Rattle.reading.proofs.Locating.{located-length}
use Rattle.reading.specs.Located.{located}
use Rattle.reading.specs.Walked.{Ordered}
use Rattle.rooms.specs.Rows.{rows}
use Rattle.locate.specs.Lining.{lined, Rising}
use Rattle.questions.specs.Asking.{Passed}
use Rattle.outcome.specs.Outcomes.{rooms_of, outcome_of, kept, accepts}
use Rattle.reader.specs.Judging.{asked_last, Parsed}

-- events that the room holds, handed out
module _ (es : List Event) (ls : List ℕ) (looks : ℕ) (e q o l : List ℕ) (holds : leb (length es) (length e / event_numbers) ≡ true) where
  -- the room behind them
  handed-fit : {e₁ : List ℕ} → e₁ ≡ handed es e → kept (length es * event_numbers) e₁ ≡ filled (plain es) e
  handed-fit {e₁} given =
      let n : length (plain es) ≡ length es * event_numbers = plain-length es in
      let w : e₁ ≡ plain es ++ drop (length (plain es)) e = given ∙ handed-all es e holds in
      let c : length es * event_numbers ≤ length e = omega (arith, leb-true (length es) (length e / event_numbers) holds) in
      let u : length e₁ ≡ length e =
      ap (λ (z : List ℕ). length z) w
      ∙ length-append (plain es) (drop (length (plain es)) e)
      ∙ omega (arith, length-drop (length (plain es)) e, n, c) in
      let d : length e₁ - length es * event_numbers ≡ length e - length (plain es) = omega (arith, u, n) in
      ap (λ (z : List ℕ). z ++ replicate (length e₁ - length es * event_numbers) 0) (ap (λ (z : List ℕ). take (length es * event_numbers) z) w ∙ take_at (plain es) _ (length es * event_numbers) n)
      ∙ ap (λ (m : ℕ). plain es ++ replicate m 0) d

  accepted : {e₁ : List ℕ} → e₁ ≡ handed es e → {bytes : ℕ} → ls ≡ take bytes l → bytes ≤ length l
      → accepts (length es) bytes looks (rooms_of e₁ q o l) ≡ handed_out [] es ls looks (rooms_of e q o l)
  unfolding handed_out
  accepted given {bytes} f b =
      let b' : length ls ≡ bytes = ap (λ (z : List ℕ). length z) f ∙ length-take-le bytes l b in
      let back : kept bytes l ≡ filled ls l =
      ap (λ (z : List ℕ). z ++ replicate (length l - bytes) 0) (sym f) ∙ ap (λ (m : ℕ). ls ++ replicate (length l - m) 0) (sym b') in
      ap (λ (z : List ℕ). outcome_of (acceptance (length es) bytes looks) z (zeros q) (zeros o) (kept bytes l)) (handed-fit given)
      ∙ ap (λ (z : List ℕ). outcome_of (acceptance (length es) bytes looks) (filled (plain es) e) (zeros q) (zeros o) z) back
      ∙ ap (λ (m : ℕ). outcome_of (acceptance (length es) m looks) (filled (plain es) e) (zeros q) (zeros o) (filled ls l)) (sym b')
      ∙ rw (holds, handed_out)

-- what the last questions answer, and what is judged by it
module _ (s : State) (e q o l : List ℕ) {d : Result ℕ Refusal} (b : Option Place) (f : Bool)
    (asked : d ≡ asked_last b f (drain s.queue) (length e / event_numbers)) where
  abbrev Last : Type 0
  Last = Result ℕ Refusal

  abbrev fits : Bool
  fits = leb (length (drain s.queue)) (length e / event_numbers)

  pub judged_accepted : {count : ℕ} → d ≡ Ok count → {e₁ : List ℕ} → e₁ ≡ handed (drain s.queue) e → {bytes : ℕ} → s.labels ≡ take bytes l → bytes ≤ length l
      → accepts count bytes s.looks (rooms_of e₁ q o l) ≡ judged [] b f s (rooms_of e q o l)
  unfolding judged
  judged_accepted {count} is {e₁} given {bytes} ls m = go b f (sym is ∙ asked)
    where
      at : (t : Bool) → fits ≡ t → ◌≡◌ {A = Last} (Ok count) (elim t [ false ↦ Err refusal.EventRoom | true ↦ Ok (length (drain s.queue)) ])
          → accepts count bytes s.looks (rooms_of e₁ q o l) ≡ handed_out [] (drain s.queue) s.labels s.looks (rooms_of e q o l)
      at true h g =
          let z : count ≡ length (drain s.queue) = cc in
          ap (λ (n : ℕ). accepts n bytes s.looks (rooms_of e₁ q o l)) z ∙ accepted (drain s.queue) s.labels s.looks e q o l h given ls m
      at false h g = cc

      go : (b : Option Place) (f : Bool) → ◌≡◌ {A = Last} (Ok count) (asked_last b f (drain s.queue) (length e / event_numbers))
          → accepts count bytes s.looks (rooms_of e₁ q o l) ≡ judged [] b f s (rooms_of e q o l)
      go (Some p) f g = cc
      go None false g = cc
      go None true g = at fits refl g

  pub judged_refused : {r : Refusal} → d ≡ Err r → (e₁ : List ℕ) → length e₁ ≡ length e → {a : Answer} → a ≡ answer_of r
      → {rooms : Rooms} → rooms ≡ cleared (rooms_of e₁ q o l) → record { answer = a; rooms = rooms } ≡ judged [] b f s (rooms_of e q o l)
  unfolding judged handed_out
  judged_refused {r} is e₁ long {a} answers {rooms} clears = rw (answers, clears, long) (go b f (sym is ∙ asked))
    where
      at : (t : Bool) → fits ≡ t → ◌≡◌ {A = Last} (Err r) (elim t [ false ↦ Err refusal.EventRoom | true ↦ Ok (length (drain s.queue)) ])
          → refuses (code_of r) (place_of r) (cleared (rooms_of e q o l)) ≡ handed_out [] (drain s.queue) s.labels s.looks (rooms_of e q o l)
      at true h g = cc
      at false h g =
          let z : r ≡ refusal.EventRoom = cc in
          ap (λ (x : Refusal). refuses (code_of x) (place_of x) (cleared (rooms_of e q o l))) z ∙ rw (h, handed_out)

      go : (b : Option Place) (f : Bool) → ◌≡◌ {A = Last} (Err r) (asked_last b f (drain s.queue) (length e / event_numbers))
          → refuses (code_of r) (place_of r) (cleared (rooms_of e q o l)) ≡ judged [] b f s (rooms_of e q o l)
      go (Some p) f g =
          let z : r ≡ refusal.Brace p = cc in ap (λ (x : Refusal). refuses (code_of x) (place_of x) (cleared (rooms_of e q o l))) z
      go None false g =
          let z : r ≡ refusal.LabelRoom = cc in ap (λ (x : Refusal). refuses (code_of x) (place_of x) (cleared (rooms_of e q o l))) z
      go None true g = at fits refl g

-- the last questions look at no number of the queue, opener and label rooms
pub judged-rooms : (ls : List Line) (r : Option Place) (f : Bool) (s : State) (e q o l q' o' l' : List ℕ) → length q' ≡ length q → length o' ≡ length o → length l' ≡ length l
    → judged ls r f s (rooms_of e q' o' l') ≡ judged ls r f s (rooms_of e q o l)
unfolding judged handed_out
judged-rooms ls (Some p) f s e q o l q' o' l' a b c = rw (a, b, c)
judged-rooms ls None false s e q o l q' o' l' a b c = rw (a, b, c)
judged-rooms ls None true s e q o l q' o' l' a b c = go (leb (length (drain s.queue)) (length e / event_numbers)) refl
  where
    go : (t : Bool) → leb (length (drain s.queue)) (length e / event_numbers) ≡ t
        → handed_out ls (drain s.queue) s.labels s.looks (rooms_of e q' o' l') ≡ handed_out ls (drain s.queue) s.labels s.looks (rooms_of e q o l)
    go true h = rw (h, handed_out) (rw (a, b, c))
    go false h = rw (h, handed_out) (rw (a, b, c))

-- an outcome, with the lines of its events put in
abbrev pub with_lines : List Line → Outcome → Outcome
with_lines ls o = outcome_of o.answer (lined ls o.answer.events o.rooms.events) o.rooms.queue o.rooms.openers o.rooms.labels

module _ (ls : List Line) where
  lined-none : (e : List ℕ) → lined ls 0 e ≡ e
  unfolding rows located numbers
  lined-none e = refl

  lined-all : (es : List Event) (room : List ℕ) → lined ls (length es) (filled (plain es) room) ≡ filled (numbers (located ls es)) room
  lined-all es room =
      (λ t. numbers (located ls (listed-numbers [] es rest t)) ++ drop (sym (plain-length es) t) (plain es ++ rest))
      ∙ ap (λ (l : List ℕ). numbers (located ls es) ++ l) (drop-append_seam (plain es) rest)
      ∙ ap (λ (k : ℕ). numbers (located ls es) ++ replicate (length room - k) 0) (plain-length es ∙ sym same)
    where
      rest : List ℕ
      rest = replicate (length room - length (plain es)) 0

      same : length (numbers (located ls es)) ≡ length es * event_numbers
      same = numbers-length (located ls es) ∙ ap (λ (k : ℕ). k * event_numbers) (located-length ls es)

  with-events : (o : Outcome) (e : List ℕ) → lined ls o.answer.events o.rooms.events ≡ e → with_lines ls o ≡ outcome_of o.answer e o.rooms.queue o.rooms.openers o.rooms.labels
  with-events o e h = ap (λ (e : List ℕ). outcome_of o.answer e o.rooms.queue o.rooms.openers o.rooms.labels) h

  pub judged-lined : (b : Option Place) (f : Bool) (s : State) (rooms : Rooms) → with_lines ls (judged [] b f s rooms) ≡ judged ls b f s rooms
  unfolding judged handed_out
  judged-lined (Some p) f s rooms = with-events (refuses 7 p.0 (cleared rooms)) _ (lined-none (cleared rooms).events)
  judged-lined None false s rooms = with-events (refuses 8 0 (cleared rooms)) _ (lined-none (cleared rooms).events)
  judged-lined None true s rooms = go (leb (length (drain s.queue)) (length rooms.events / event_numbers)) refl
    where
      go : (t : Bool) → leb (length (drain s.queue)) (length rooms.events / event_numbers) ≡ t
          → with_lines ls (handed_out [] (drain s.queue) s.labels s.looks rooms) ≡ handed_out ls (drain s.queue) s.labels s.looks rooms
      go true h = rw (h, handed_out) (with-events (outcome_of (acceptance (length (drain s.queue)) (length s.labels) s.looks) (filled (plain (drain s.queue)) rooms.events) (zeros rooms.queue) (zeros rooms.openers) (filled s.labels rooms.labels)) _ (lined-all (drain s.queue) rooms.events))
      go false h = rw (h, handed_out) (with-events (refuses 9 0 (cleared rooms)) _ (lined-none (cleared rooms).events))

-- spans that run forward start one behind the other
pub ordered-rising : (a : ℕ) (es : List Event) (b : ℕ) → Ordered a es b → Rising a es
unfolding Ordered Rising
ordered-rising a [] b o = tt
ordered-rising a (e ∷ es) b o = (o.0, by es (ordered-rising e.end.0 es b o.2))
  where
    by : (es : List Event) → Rising e.end.0 es → Rising e.start.0 es
    by [] r = tt
    by (d ∷ es) r = (omega (arith, o.1, r.0), r.1)

-- what the lines are put in
pub record Listed_in (o : Outcome) : Type 0 where
  pub in_bounds : o.answer.events * event_numbers ≤ length o.rooms.events
  pub rising : Rising 0 (listed o.answer.events o.rooms.events)
  pub unlined : records o.answer.events o.rooms.events ≡ located [] (listed o.answer.events o.rooms.events)

pub judged-listed : (b : Option Place) (f : Bool) (s : State) (rooms : Rooms) → (b ≡ None → f ≡ true → Rising 0 (drain s.queue)) → Listed_in (judged [] b f s rooms)
unfolding judged handed_out rows Rising located
judged-listed (Some p) f s rooms h = record { in_bounds = omega arith; rising = tt; unlined = refl }
judged-listed None false s rooms h = record { in_bounds = omega arith; rising = tt; unlined = refl }
judged-listed None true s rooms h = go (leb (length (drain s.queue)) (length rooms.events / event_numbers)) refl
  where
    es : List Event
    es = drain s.queue

    go : (t : Bool) → leb (length es) (length rooms.events / event_numbers) ≡ t → Listed_in (handed_out [] es s.labels s.looks rooms)
    go true e =
        rw (e, handed_out)
        record {
          in_bounds = omega (arith, plain-length es, length-append (plain es) (replicate (length rooms.events - length (plain es)) 0));
          rising = subst (Rising 0) (sym (listed-numbers [] es (replicate (length rooms.events - length (plain es)) 0))) (h refl refl);
          unlined = ap (λ (n : ℕ). records n (filled (plain es) rooms.events)) (sym (located-length [] es))
              ∙ records-numbers (located [] es) (replicate (length rooms.events - length (plain es)) 0)
              ∙ ap (located []) (sym (listed-numbers [] es (replicate (length rooms.events - length (plain es)) 0)));
        }
    go false e = rw (e, handed_out) record { in_bounds = omega arith; rising = tt; unlined = refl }

-- a parser that stands for the reading of lines that passed has its counts in its rooms
pub parsed : (text : List ℕ) (ls : List Line) (reading : ℕ) (q o l : List ℕ) → Passed text ls q o → (p : Status) (q' o' l' : List ℕ)
    → StandsFor p q' o' l' (read (sheet text ls reading (label_room l)) ls) → p.labels < 2 ^ 32 → length q' ≡ length q
    → Parsed p q' l'
parsed text ls reading q o l w p q' o' l' s b k =
    let n : p.events ≡ length (read (sheet text ls reading (label_room l)) ls).queue =
    sym (rows-length event_at p.events q') ∙ ap (λ (z : State). length z.queue) s.same in
    let t : total ls ≤ length text = omega (arith, rising-total text 0 ls (omega arith) (rising text 0 ls w.fed.inside w.fed.apart)) in
    record {
      queued = omega (arith, n, (end-room (sheet text ls reading (label_room l)) ls w.fed).0, w.room, k);
      few =
          λ r.
          let m = room (sheet text ls reading (label_room l)) ls w.fed (sym (ap (λ (z : State). z.refused) s.same) ∙ r) in
          let d : length (drain (events p.events q')) ≡ length (drain (read (sheet text ls reading (label_room l)) ls).queue) = ap (λ (z : State). length (drain z.queue)) s.same in
          omega (arith, d, m, t, w.small);
      labels = s.labels;
      bytes = b;
    }

-- and its events start one behind the other
pub parsed-listed : (text : List ℕ) (ls : List Line) (reading : ℕ) (q o l : List ℕ) → Passed text ls q o → (p : Status) (q' o' l' : List ℕ)
    → StandsFor p q' o' l' (read (sheet text ls reading (label_room l)) ls) → (rooms : Rooms) → Listed_in (judged [] p.refused p.fits (stands p q' o' l') rooms)
parsed-listed text ls reading q o l w p q' o' l' s rooms =
    judged-listed p.refused p.fits (stands p q' o' l') rooms
    (λ r f.
    subst (λ (z : State). Rising 0 (drain z.queue)) (sym s.same)
    (ordered-rising 0 _ (end_of ls 0) (ordered (sheet text ls reading (label_room l)) ls w.fed (sym (ap (λ (z : State). z.refused) s.same) ∙ r))))
