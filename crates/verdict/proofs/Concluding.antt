-- Questions 10 and 11, step by step: the first link, the output room, the answer.
use Rattle.std.specs.Prelude.{ℕ, ◌+◌, ◌*◌, ◌/◌, ◌^◌, ◌≤◌, ◌<◌, ◌≡◌, List, [], ◌∷◌, ◌++◌, true, false, length, take, drop, Option, Some, None, Result, Ok, Err}
use Rattle.std.proofs.Common.{arith, sym, ap, ◌∙◌, append-nil, eq-eqb, ne_eqb, subst}
use native.Mathlib.Numerals.{add-one}
use lib.Seq.{length-take-le}
use Rattle.reading.specs.declared.Answer.{Answer}
use Rattle.reading.specs.declared.Event.{Event}
use Rattle.reading.specs.declared.Located.{Located}
use Rattle.reading.specs.declared.Place.{Place}
use Rattle.reading.specs.Events.{event_numbers}
use Rattle.reading.specs.Questions.{Rooms, Outcome, numbers, zeros, cleared}
use Rattle.outcome.specs.Outcomes.{kept}
use Rattle.listing.specs.Listing.{event_at, listed, records}
use Rattle.listing.proofs.Listed.{listed_next, listed-end, listed-records, events_of, records-numbers, numbers-records, numbers-length}
use Rattle.markup.specs.Markup.{fragment}
use Rattle.verdict.specs.declared.Refusal.{Refusal}
use Rattle.verdict.specs.Fragments.{barred, first_barred, Fragmented, refusal, acceptance, judged, behind, fragmented_of}
use Rattle.verdict.specs.Judging.{answer_of, shown, shown_as, Listed}

-- the events from place i on, of which none before was barred
module _ (events : List ℕ) (n i : ℕ) (r : Option Place) (x : first_barred (drop i (listed n events)) ≡ r) where
  module _ (h : i < n) (e : Event) (is : e ≡ event_at events i) where
    next : first_barred (e ∷ drop (i + 1) (listed n events)) ≡ r
    next = ap first_barred (λ t. is t ∷ drop (add-one i t) (listed n events)) ∙ ap first_barred (sym (listed_next events n i h)) ∙ x

    pub barred-here : barred e.kind ≡ true → Some e.start ≡ r
    unfolding first_barred
    barred-here b = rw (b, first_barred) at next

    pub barred-later : barred e.kind ≡ false → first_barred (drop (i + 1) (listed n events)) ≡ r
    unfolding first_barred
    barred-later b = rw (b, first_barred) at next

  pub barred-none : n ≤ i → None ≡ r
  unfolding first_barred
  barred-none h = ap first_barred (sym (listed-end events n i h)) ∙ x

-- the first n records of a room are a room of n events
pub handed : (n : ℕ) (room : List ℕ) → n * event_numbers ≤ length room
    → listed (length (take (n * event_numbers) room) / event_numbers) (take (n * event_numbers) room) ≡ listed n room
handed n room h =
    ap (λ (k : ℕ). listed k front) count
    ∙ listed-records n front
    ∙ ap events_of (ap (records n) (sym (numbers-records n room h) ∙ sym (append-nil (numbers rs))) ∙ ap (λ (k : ℕ). records k (numbers rs ++ [])) (sym many) ∙ records-numbers rs [])
    ∙ sym (listed-records n room)
  where
    front : List ℕ
    front = take (n * event_numbers) room

    rs : List Located
    rs = records n room

    count : length front / event_numbers ≡ n
    count = omega (arith, length-take-le (n * event_numbers) room h)

    many : length rs ≡ n
    many = omega (arith, length-take-le (n * event_numbers) room h, numbers-length rs, ap length (numbers-records n room h))

-- 10 and 11, by what is shown
judged-ok : (b : Option Place) (f out out' : List ℕ) (n : ℕ) (rooms : Rooms) (a : Answer) → length out' ≡ length out → n ≤ length out
    → shown (Ok n) out' ≡ shown_as b f (length out)
    → (fragmented_of (acceptance a n) rooms (kept n out') ≡ judged b f rooms (record { answer = a; rooms = rooms }) out) × (n ≡ length f)
unfolding shown shown_as judged
judged-ok (Some p) f out out' n rooms a z w s = grind (arith, length-take-le)
judged-ok None f out out' n rooms a z w s = grind (arith, length-take-le)

judged-err : (b : Option Place) (f out out' : List ℕ) (r : Refusal) (rooms : Rooms) (o : Outcome) → length out' ≡ length out
    → shown (Err r) out' ≡ shown_as b f (length out) → fragmented_of (answer_of r) (cleared rooms) (zeros out') ≡ judged b f rooms o out
unfolding shown shown_as judged
judged-err (Some p) f out out' r rooms o z s = grind (arith, length-take-le)
judged-err None f out out' r rooms o z s = grind (arith, length-take-le)

-- what comes of the reader's answer
module _ (text events : List ℕ) (a : Answer) (rooms : Rooms) (out : List ℕ) where
  abbrev es : List Event
  es = listed a.events events

  abbrev comes : Fragmented
  comes = behind text es rooms (record { answer = a; rooms = rooms }) out

  pub concluded-early : (a.code ≡ 0 → ⊥) → fragmented_of (refusal a.code a.place) rooms (zeros out) ≡ comes
  unfolding behind
  concluded-early n = grind (arith, ne_eqb)

  module _ (x : Listed a text events) (z : a.code ≡ 0) (those : List Event) (are : those ≡ es) (out' : List ℕ)
      (size : length out' ≡ length out) where
    abbrev Asked : Result ℕ Refusal → List Event → Type 0
    Asked r l = shown r out' ≡ shown_as (first_barred l) (fragment text l) (length out)

    pub concluded-ok : (n : ℕ) → n ≤ length out → Asked (Ok n) those
        → ((out₂ : List ℕ) → out₂ ≡ kept n out' → fragmented_of (acceptance a n) rooms out₂ ≡ comes) × (n < 2 ^ 32)
    unfolding behind
    concluded-ok n w s =
        let j = judged-ok (first_barred es) (fragment text es) out out' n rooms a size w (subst (Asked (Ok n)) are s) in
        (λ out₂ k. ap (λ (o : List ℕ). fragmented_of (acceptance a n) rooms o) k ∙ grind (arith, eq-eqb, j.0), omega (arith, j.1, x.few z))

    pub concluded-err : (r : Refusal) → Asked (Err r) those → fragmented_of (answer_of r) (cleared rooms) (zeros out') ≡ comes
    unfolding behind
    concluded-err r s =
        let j = judged-err (first_barred es) (fragment text es) out out' r rooms (record { answer = a; rooms = rooms }) size (subst (Asked (Err r)) are s) in
        grind (arith, eq-eqb, j)
