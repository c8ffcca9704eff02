-- The laws of `listed`: the events from a place on, and that the numbers of some events list them.
use Prim.Native.Nat.{ℕ, zero, suc, ◌+◌, ◌*◌, ◌≤◌, ◌<◌}
use mathlib.Core.Path.{◌≡◌, refl, sym, ap, ◌∙◌}
use mathlib.Core.List.{List, [], ◌∷◌, ◌++◌, append_assoc}
use native.Mathlib.Nat.{add-zero, zero-add}
use native.Mathlib.Omega.{arith}
use lib.ListN.{length, get_or, take, drop, length-append, length-drop, drop_of_length-le}
use lib.Seq.{sets, sets-eq, drop-cons, get_or-drop, take-add, take-append_seam, take-append-add, drop-append-add}
use mathlib.Core.List.{map}
use Rattle.reading.specs.declared.Event.{Event}
use Rattle.reading.specs.declared.Line.{Line}
use Rattle.reading.specs.declared.Located.{Located}
use Rattle.reading.specs.Events.{place, link, event_numbers}
use Rattle.reading.specs.Located.{located_of, located}
use Rattle.reading.proofs.Locating.{located-length}
use Rattle.reading.specs.Questions.{record_of, numbers, numbers_of}
use Rattle.rooms.specs.Rows.{rows}
use Rattle.rooms.proofs.Rows.{rows-length, rows_at, rows_more, sets-before, sets-at}
use Rattle.listing.specs.Listing.{event_at, listed, record_at, records}

module _ {R : Type 0} (read : List ℕ → ℕ → R) (room : List ℕ) (n i : ℕ) where
  pub rows_next : i < n → drop i (rows read n room) ≡ read room i ∷ drop (suc i) (rows read n room)
  rows_next h =
      drop-cons (rows read n room) i (read room i) (omega (arith, rows-length read n room))
      ∙ ap (λ (e : R). e ∷ drop (suc i) (rows read n room)) (rows_at read n room i (read room i) h)

  pub rows-end : n ≤ i → drop i (rows read n room) ≡ []
  rows-end h = drop_of_length-le (rows read n room) {i = i} (omega (arith, rows-length read n room))

pub listed_next : (room : List ℕ) (n i : ℕ) → i < n → drop i (listed n room) ≡ event_at room i ∷ drop (suc i) (listed n room)
listed_next = rows_next event_at

pub listed-end : (room : List ℕ) (n i : ℕ) → n ≤ i → drop i (listed n room) ≡ []
listed-end = rows-end event_at

-- two records are the same if their numbers are
same-record : (a b : List ℕ) (i j : ℕ) → ((k : ℕ) → k < event_numbers → get_or a (i * event_numbers + k) 0 ≡ get_or b (j * event_numbers + k) 0) → record_at a i ≡ record_at b j
same-record a b i j h =
    λ t.
    record {
      event = record {
        kind = rw (add-zero (i * event_numbers), add-zero (j * event_numbers)) at (h 0 (omega arith)) t;
        start = place (h 1 (omega arith) t);
        end = place (h 2 (omega arith) t);
        home = h 3 (omega arith) t;
        home_start = place (h 4 (omega arith) t);
        home_end = place (h 5 (omega arith) t);
        link = link (h 6 (omega arith) t);
      };
      line = h 7 (omega arith) t;
    }

-- behind the first record the places are one less
shifted : (room : List ℕ) (i : ℕ) → record_at (drop event_numbers room) i ≡ record_at room (suc i)
shifted room i =
    same-record (drop event_numbers room) room i (suc i) (λ k h. get_or-drop event_numbers room (i * event_numbers + k) 0 ∙ ap (λ (j : ℕ). get_or room j 0) (next k))
  where
    next : (k : ℕ) → event_numbers + (i * event_numbers + k) ≡ suc i * event_numbers + k
    next k = omega arith

records_suc : (n : ℕ) (room : List ℕ) → records (suc n) room ≡ record_at room 0 ∷ records n (drop event_numbers room)
unfolding rows
records_suc zero room = refl
records_suc (suc n) room =
    ap (λ (rs : List Located). rs ++ (record_at room (suc n) ∷ [])) (records_suc n room)
    ∙ ap (λ (r : Located). record_at room 0 ∷ (records n (drop event_numbers room) ++ (r ∷ []))) (sym (shifted room n))

-- the numbers of some records list them, whatever stands behind
pub records-numbers : (rs : List Located) (rest : List ℕ) → records (length rs) (numbers rs ++ rest) ≡ rs
unfolding rows numbers
records-numbers [] rest = refl
records-numbers (r ∷ rs) rest =
    records_suc (length rs) (numbers (r ∷ rs) ++ rest) ∙ ap (λ (l : List Located). r ∷ l) (records-numbers rs rest)

pub numbers-length : (rs : List Located) → length (numbers rs) ≡ length rs * event_numbers
unfolding numbers
numbers-length [] = refl
numbers-length (r ∷ rs) = omega (arith, length-append (numbers_of r) (numbers rs), numbers-length rs)

-- the events of some records
abbrev pub events_of : List Located → List Event
events_of rs = map (λ (r : Located). r.event) rs

pub listed-records : (n : ℕ) (room : List ℕ) → listed n room ≡ events_of (records n room)
unfolding rows
listed-records zero room = refl
listed-records (suc n) room = ap (λ (es : List Event). es ++ (event_at room n ∷ [])) (listed-records n room) ∙ sym (map-append (records n room))
  where
    map-append : (rs : List Located) → events_of (rs ++ (record_at room n ∷ [])) ≡ events_of rs ++ (event_at room n ∷ [])
    map-append [] = refl
    map-append (r ∷ rs) = ap (λ (es : List Event). r.event ∷ es) (map-append rs)

events-located : (ls : List Line) (es : List Event) → events_of (located ls es) ≡ es
unfolding located
events-located ls [] = refl
events-located ls (e ∷ es) = ap (λ (l : List Event). e ∷ l) (events-located ls es)

-- and so their events
pub listed-numbers : (ls : List Line) (es : List Event) (rest : List ℕ) → listed (length es) (numbers (located ls es) ++ rest) ≡ es
listed-numbers ls es rest =
    listed-records (length es) (numbers (located ls es) ++ rest)
    ∙ ap (λ (n : ℕ). events_of (records n (numbers (located ls es) ++ rest))) (sym (located-length ls es))
    ∙ ap events_of (records-numbers (located ls es) rest)
    ∙ events-located ls es

pub numbers-append : (a b : List Located) → numbers (a ++ b) ≡ numbers a ++ numbers b
unfolding numbers
numbers-append [] b = refl
numbers-append (r ∷ a) b = ap (λ (l : List ℕ). numbers_of r ++ l) (numbers-append a b) ∙ sym (append_assoc (numbers_of r) (numbers a) (numbers b))

pub located-append : (ls : List Line) (a b : List Event) → located ls (a ++ b) ≡ located ls a ++ located ls b
unfolding located
located-append ls [] b = refl
located-append ls (e ∷ a) b = ap (λ (rs : List Located). located_of ls e ∷ rs) (located-append ls a b)

-- the event at place i stands at the front of what is behind i records
pub event-front : (room : List ℕ) (i : ℕ) → event_at (drop (i * event_numbers) room) 0 ≡ event_at room i
event-front room i =
    ap (λ (r : Located). r.event) (same-record (drop (i * event_numbers) room) room 0 i (λ k h. get_or-drop (i * event_numbers) room (0 * event_numbers + k) 0 ∙ ap (λ (j : ℕ). get_or room j 0) (next k)))
  where
    next : (k : ℕ) → i * event_numbers + (0 * event_numbers + k) ≡ i * event_numbers + k
    next k = omega arith

-- stores over the front of what lies behind a part of the room
pub sets-seam : (pre post vs : List ℕ) → length vs ≤ length post → sets (pre ++ post) (length pre) vs ≡ pre ++ vs ++ drop (length vs) post
sets-seam pre post vs h =
    sets-eq vs (pre ++ post) (length pre) (omega (arith, length-append pre post))
    ∙ rw (take-append_seam pre post, drop-append-add pre post (length vs))

-- a record that is stored behind the first i is listed behind them
module _ (room : List ℕ) (i : ℕ) (r : Located) (fits : i * event_numbers + event_numbers ≤ length room) where
  abbrev stored : List ℕ
  stored = sets room (i * event_numbers) (numbers (r ∷ []))

  there : record_at stored i ≡ r
  unfolding numbers
  there =
      same-record stored (numbers (r ∷ [])) i 0
      (λ k h. sets-at room (i * event_numbers) (numbers (r ∷ [])) k h fits ∙ ap (λ (j : ℕ). get_or (numbers (r ∷ [])) j 0) (sym (zero-add k)))

  pub records-stored : records (suc i) stored ≡ records i room ++ (r ∷ [])
  records-stored =
      rows_more record_at i room stored (λ j h. same-record stored room j j (λ k l. sets-before room (i * event_numbers) (numbers (r ∷ [])) (j * event_numbers + k) (omega arith)))
      ∙ ap (λ (x : Located). records i room ++ (x ∷ [])) there

-- and the records of a room are its numbers
first-record : (room : List ℕ) → event_numbers ≤ length room → numbers_of (record_at room 0) ≡ take event_numbers room
first-record [] h = absurd (omega arith)
first-record (a ∷ []) h = absurd (omega arith)
first-record (a ∷ b ∷ []) h = absurd (omega arith)
first-record (a ∷ b ∷ c ∷ []) h = absurd (omega arith)
first-record (a ∷ b ∷ c ∷ d ∷ []) h = absurd (omega arith)
first-record (a ∷ b ∷ c ∷ d ∷ e ∷ []) h = absurd (omega arith)
first-record (a ∷ b ∷ c ∷ d ∷ e ∷ f ∷ []) h = absurd (omega arith)
first-record (a ∷ b ∷ c ∷ d ∷ e ∷ f ∷ g ∷ []) h = absurd (omega arith)
first-record (a ∷ b ∷ c ∷ d ∷ e ∷ f ∷ g ∷ l ∷ room) h = refl

pub numbers-records : (n : ℕ) (room : List ℕ) → n * event_numbers ≤ length room → numbers (records n room) ≡ take (n * event_numbers) room
unfolding rows numbers
numbers-records zero room h = refl
numbers-records (suc n) room h =
    let next : event_numbers + n * event_numbers ≡ suc n * event_numbers = omega arith in
    ap numbers (records_suc n room)
    ∙ (λ t. first-record room (omega arith) t ++ numbers-records n (drop event_numbers room) (omega (arith, length-drop event_numbers room)) t)
    ∙ sym (take-add event_numbers (n * event_numbers) room)
    ∙ ap (λ (k : ℕ). take k room) next

-- a line that is put into the record at the front of what lies behind a part of the room
first-seven : (room : List ℕ) → event_numbers ≤ length room → take 7 room ≡ record_of (event_at room 0)
first-seven [] h = absurd (omega arith)
first-seven (a ∷ []) h = absurd (omega arith)
first-seven (a ∷ b ∷ []) h = absurd (omega arith)
first-seven (a ∷ b ∷ c ∷ []) h = absurd (omega arith)
first-seven (a ∷ b ∷ c ∷ d ∷ []) h = absurd (omega arith)
first-seven (a ∷ b ∷ c ∷ d ∷ e ∷ []) h = absurd (omega arith)
first-seven (a ∷ b ∷ c ∷ d ∷ e ∷ f ∷ []) h = absurd (omega arith)
first-seven (a ∷ b ∷ c ∷ d ∷ e ∷ f ∷ g ∷ room) h = refl

pub line-seam : (pre post : List ℕ) (e : Event) (line : ℕ) → event_numbers ≤ length post → e ≡ event_at post 0
    → sets (pre ++ post) (length pre + 7) (line ∷ []) ≡ pre ++ numbers (record { event = e; line = line } ∷ []) ++ drop event_numbers post
unfolding numbers
line-seam pre post e line h is =
    sets-eq (line ∷ []) (pre ++ post) (length pre + 7) (omega (arith, length-append pre post))
    ∙ ap (λ (k : ℕ). take (length pre + 7) (pre ++ post) ++ (line ∷ []) ++ drop k (pre ++ post)) one
    ∙ (λ t. take-append-add pre post 7 t ++ (line ∷ []) ++ drop-append-add pre post event_numbers t)
    ∙ ap (λ (l : List ℕ). l ++ drop event_numbers post) (append_assoc pre (take 7 post) (line ∷ []) ∙ ap (λ (l : List ℕ). pre ++ (l ++ (line ∷ []))) (first-seven post h ∙ ap record_of (sym is)))
  where
    one : length pre + 7 + 1 ≡ length pre + event_numbers
    one = omega arith
