-- The call: what is asked of the reader's answer, the definition's outcome, and what is claimed of it.
use Rattle.std.specs.Prelude.{None, Option, Some}
use Rattle.reading.specs.declared.Place.{Place}
use Prim.Native.Nat.{ℕ, ◌+◌, ◌-◌, ◌*◌, ◌/◌, ◌^◌, ◌≤◌, ◌<◌}
use mathlib.Core.Path.{◌≡◌, refl, sym, ap, ◌∙◌, subst}
use mathlib.Core.List.{List}
use mathlib.Core.Bool.{Bool}
use native.Mathlib.Omega.{arith}
use borrow.Author.Tests.{leb-true, leb-false, eqb-true, eqb-false}
use lib.Dec.{leb, eqb}
use lib.ListN.{length, replicate, length-append}
use Rattle.reading.specs.declared.Line.{Line}
use Rattle.reading.specs.declared.Event.{Event}
use Rattle.reading.specs.declared.Answer.{Answer}
use Rattle.reading.specs.Events.{event_numbers}
use Rattle.reading.specs.Machine.{Sheet, State}
use Rattle.reading.specs.Reading.{sheet, read, end_of}
use Rattle.reading.specs.Located.{located}
use Rattle.reading.proofs.Locating.{located-length}
use Rattle.reading.specs.Questions.{Rooms, Outcome, total, label_room, numbers, filled, cleared, handed_out, outcome, judged as judged-reader}
use Rattle.reading.specs.Walked.{Whole, AcceptedHomes, events}
use Rattle.reading.proofs.Choose.{choose, choose₂}
use Rattle.reading.proofs.Answers.{asks, accepted, homed, never-nine, short}
use Rattle.outcome.specs.Outcomes.{rooms_of, outcome_of}
use Rattle.listing.specs.Listing.{listed}
use Rattle.listing.proofs.Listed.{listed-numbers, numbers-length}
use Rattle.markup.specs.Markup.{fragment}
use Rattle.markup.proofs.Lengths.{fragment-short}
use Rattle.markup.proofs.Faithful.{faithful}
use Rattle.verdict.specs.Fragments.{first_barred, Fragmented, acceptance, refuses, judged, enough, behind, fragmented, read_of, Shows}
use Rattle.verdict.specs.Judging.{Listed}

abbrev Few : Outcome → Type 0
Few o = o.answer.code ≤ 9

few-judged : (ls : List Line) (r : Option Place) (b : Bool) (s : State) (rooms : Rooms) → Few (judged-reader ls r b s rooms)
unfolding judged-reader handed_out
few-judged ls r b s rooms = grind arith

-- 10 and 11 zero the rooms, whatever they hold
judged-cleared : (b : Option Place) (f : List ℕ) (rooms rooms' : Rooms) (o : Outcome) (out : List ℕ) → cleared rooms ≡ cleared rooms'
    → judged b f rooms o out ≡ judged b f rooms' o out
unfolding judged
judged-cleared b f rooms rooms' o out e = grind (arith, e)

-- what holds of both refusals and of a fragment that is written
by-room : (P : Fragmented → Type 0) (b : Option Place) (f : List ℕ) (rooms : Rooms) (o : Outcome) (out : List ℕ)
    → ((at : ℕ) → P (refuses 10 at (cleared rooms) out)) → (length out < length f → P (refuses 11 0 (cleared rooms) out))
    → (length f ≤ length out → P (record { answer = acceptance o.answer (length f); rooms = o.rooms; out = filled f out })) → P (judged b f rooms o out)
unfolding judged
by-room P (Some p) f rooms o out ten eleven none = ten p.0
by-room P None f rooms o out ten eleven none =
    choose P (leb (length f) (length out)) _ _ (λ t. none (leb-true (length f) (length out) t)) (λ t. eleven (leb-false (length f) (length out) t))

module _ (text : List ℕ) (ls : List Line) (reading : ℕ) (rooms : Rooms) where
  abbrev x : Sheet
  x = sheet text ls reading (label_room rooms.labels)

  abbrev es : List Event
  es = events x ls

  abbrev o : Outcome
  o = outcome text ls reading rooms

  -- how long its fragment can get
  module _ (read-it : o.answer.code ≡ 0) where
    all : Whole x ls
    all = (accepted text ls reading rooms read-it).whole

    bounded : length (fragment text es) ≤ enough ls
    bounded = omega (arith, fragment-short text ls (end_of ls 0) es all.ordered (λ i s. (all.shown i s).0), all.room)

    fits : length (fragment text es) < 2 ^ 32
    fits = omega (arith, bounded, short text ls reading rooms read-it)

  -- the reader has no code behind 9
  few-codes : o.answer.code ≤ 9
  few-codes = asks text ls reading rooms Few (λ code at l u. omega (arith, u)) (λ f. few-judged ls (read x ls).refused (read x ls).fits (read x ls) rooms)

  -- the events of an accepted sheet stand in their room
  module _ (a : Answer) (e q p l : List ℕ) (is : outcome_of a e q p l ≡ o) where
    code_is : a.code ≡ o.answer.code
    code_is = ap (λ (z : Outcome). z.answer.code) is

    module _ (read-it : a.code ≡ 0) where
      read-so : o.answer.code ≡ 0
      read-so = sym code_is ∙ read-it

      count-is : a.events ≡ length es
      count-is = ap (λ (z : Outcome). z.answer.events) is ∙ (accepted text ls reading rooms read-so).count

      room-is : e ≡ filled (numbers (located ls es)) rooms.events
      room-is = ap (λ (z : Outcome). z.rooms.events) is ∙ (accepted text ls reading rooms read-so).handed

      listed-es : listed a.events e ≡ es
      listed-es = (λ t. listed (count-is t) (room-is t)) ∙ listed-numbers ls es (replicate (length rooms.events - length (numbers (located ls es))) 0)

      room-holds : a.events * event_numbers ≤ length e
      room-holds =
          omega (
            arith,
            ap (λ (k : ℕ). k * event_numbers) count-is,
            ap length room-is,
            length-append (numbers (located ls es)) (replicate (length rooms.events - length (numbers (located ls es))) 0),
            numbers-length (located ls es),
            located-length ls es,
          )

    -- what is asked of the reader's answer
    pub listed-asked : Listed a text e
    listed-asked =
        record {
          room = room-holds;
          few = λ c. subst (λ (l : List Event). length (fragment text l) < 2 ^ 32) (sym (listed-es c)) (fits (read-so c));
        }

    -- the rooms are those that were lent, so that they are zeroed alike
    module _ (out : List ℕ) (f : Fragmented) (same : cleared (rooms_of e q p l) ≡ cleared rooms) where
      comes-to : f ≡ behind text (listed a.events e) (rooms_of e q p l) (outcome_of a e q p l) out → f ≡ fragmented text ls reading rooms out
      unfolding behind
      comes-to h =
          h
          ∙ choose₂ (λ (u w : Fragmented). u ≡ w) (eqb a.code 0) _ _ _ _
          (λ c. let z = eqb-true a.code 0 c in
          ap (λ (v : List Event). judged (first_barred v) (fragment text v) (rooms_of e q p l) (outcome_of a e q p l) out) (listed-es z)
          ∙ judged-cleared (first_barred es) (fragment text es) (rooms_of e q p l) rooms (outcome_of a e q p l) out same)
          (λ c. refl)
          ∙ ap (λ (z : Outcome). behind text es rooms z out) is

  -- what holds of a refusal and of a fragment that is written holds of the outcome
  by_answer : (out : List ℕ) (P : Fragmented → Type 0) → ((o.answer.code ≡ 0 → ⊥) → P (refuses o.answer.code o.answer.place o.rooms out))
      → (o.answer.code ≡ 0 → P (judged (first_barred es) (fragment text es) rooms o out)) → P (fragmented text ls reading rooms out)
  unfolding behind
  by_answer out P early late =
      choose P (eqb o.answer.code 0) _ _ (λ c. late (eqb-true o.answer.code 0 c)) (λ c. early (eqb-false o.answer.code 0 c))

  -- what holds of a fragment that is written holds of every call that is answered 0
  by-accepted : (out : List ℕ) (P : Fragmented → Type 0)
      → (o.answer.code ≡ 0 → P (record { answer = acceptance o.answer (length (fragment text es)); rooms = o.rooms; out = filled (fragment text es) out }))
      → (f : Fragmented) → f ≡ fragmented text ls reading rooms out → f.answer.code ≡ 0 → P f
  by-accepted out P written f is = subst Claim (sym is) (by_answer out Claim (λ n e. absurd (n e)) (λ z. by-room Claim (first_barred es) (fragment text es) rooms o out (λ at e. absurd (omega (arith, e))) (λ l e. absurd (omega (arith, e))) (λ l e. written z)))
    where
      Claim : Fragmented → Type 0
      Claim f = f.answer.code ≡ 0 → P f

  -- demand 3, and a fragment that is faithful
  shows : (out : List ℕ) (f : Fragmented) → f ≡ fragmented text ls reading rooms out → f.answer.code ≡ 0 → Shows text ls reading rooms f
  shows out = by-accepted out (Shows text ls reading rooms)
      (λ z. let k = accepted text ls reading rooms z in
      record { accepted = record { whole = k.whole; count = k.count; handed = k.handed; search = omega arith }; faithful = faithful text es k.whole.walked })

  -- and each event has the home and the link number that its kind has
  homed-so : (out : List ℕ) (f : Fragmented) → f ≡ fragmented text ls reading rooms out → f.answer.code ≡ 0
      → AcceptedHomes text ls reading rooms (read_of f)
  homed-so out = by-accepted out (λ f. AcceptedHomes text ls reading rooms (read_of f)) (λ z. record { homes = (homed text ls reading rooms z).homes })

  -- whoever lends N + 1 event records is never refused for event room
  no_nine : (out : List ℕ) (f : Fragmented) → f ≡ fragmented text ls reading rooms out → total ls + 1 ≤ length rooms.events / event_numbers → f.answer.code ≡ 9 → ⊥
  no_nine out f is lends = subst Other (sym is) (by_answer out Other (λ n e. never-nine text ls reading rooms lends e) (λ z. by-room Other (first_barred es) (fragment text es) rooms o out (λ at e. omega (arith, e)) (λ l e. omega (arith, e)) (λ l e. omega (arith, e))))
    where
      Other : Fragmented → Type 0
      Other f = f.answer.code ≡ 9 → ⊥

  -- nor whoever lends so many bytes for output room
  no-eleven : (out : List ℕ) (f : Fragmented) → f ≡ fragmented text ls reading rooms out → enough ls ≤ length out → f.answer.code ≡ 11 → ⊥
  no-eleven out f is lends = subst Other (sym is) (by_answer out Other (λ n e. omega (arith, e, few-codes)) (λ z. by-room Other (first_barred es) (fragment text es) rooms o out (λ at e. omega (arith, e)) (λ l e. omega (arith, l, lends, bounded z)) (λ l e. omega (arith, e))))
    where
      Other : Fragmented → Type 0
      Other f = f.answer.code ≡ 11 → ⊥

-- rooms of the same sizes are zeroed alike
cleared-alike : (e q p l e' q' p' l' : List ℕ) → length e' ≡ length e → length q' ≡ length q → length p' ≡ length p → length l' ≡ length l
    → cleared (rooms_of e' q' p' l') ≡ cleared (rooms_of e q p l)
cleared-alike e q p l e' q' p' l' a b c d = λ t. rooms_of (replicate (a t) 0) (replicate (b t) 0) (replicate (c t) 0) (replicate (d t) 0)

-- a call, of any rooms: what comes of the reader's answer is the definition's outcome, and all that is claimed of it holds
module _ (text : List ℕ) (ls : List Line) (reading : ℕ) (e q p l : List ℕ) (a : Answer) (e' q' p' l' : List ℕ)
    (is : outcome_of a e' q' p' l' ≡ outcome text ls reading (rooms_of e q p l))
    (sizes : (length e' ≡ length e) × (length q' ≡ length q) × (length p' ≡ length p) × (length l' ≡ length l)) where
  pub called : (out : List ℕ) (f : Fragmented) → f ≡ behind text (listed a.events e') (rooms_of e' q' p' l') (outcome_of a e' q' p' l') out
      → (f ≡ fragmented text ls reading (rooms_of e q p l) out)
      × ((f.answer.code ≡ 0 → Shows text ls reading (rooms_of e q p l) f)
      × ((f.answer.code ≡ 0 → AcceptedHomes text ls reading (rooms_of e q p l) (read_of f))
      × ((total ls + 1 ≤ length e / event_numbers → f.answer.code ≡ 9 → ⊥)
      × (enough ls ≤ length out → f.answer.code ≡ 11 → ⊥))))
  called out f h =
      let same = cleared-alike e q p l e' q' p' l' sizes.0 sizes.1 sizes.2 sizes.3 in
      let so = comes-to text ls reading (rooms_of e q p l) a e' q' p' l' is out f same h in
      (so, (shows text ls reading (rooms_of e q p l) out f so, (homed-so text ls reading (rooms_of e q p l) out f so, (no_nine text ls reading (rooms_of e q p l) out f so, no-eleven text ls reading (rooms_of e q p l) out f so))))
