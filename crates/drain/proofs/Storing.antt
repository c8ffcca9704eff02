-- Events put into a room one by one come to `answered` and `handed`.
use Rattle.std.specs.Prelude.{None, Some}
use Prim.Native.Nat.{ℕ, suc, ◌+◌, ◌-◌, ◌*◌, ◌/◌, ◌≤◌, ◌<◌}
use mathlib.Core.Path.{◌≡◌, refl, sym, ap, ◌∙◌}
use mathlib.Core.List.{List, [], ◌∷◌, ◌++◌, append_assoc}
use native.Mathlib.Nat.{add-zero, zero-add, lt-div-mul-add, div-mul-le_self, div-eq_of_lt, div-eq-sub-div, le-div_iff_mul-le}
use native.Mathlib.Decide.{dec_lt}
use native.Mathlib.Numerals.{add-one}
use native.Mathlib.Omega.{arith}
use borrow.Author.Tests.{lt-ltb, le-ltb, le-leb, lt-leb}
use lib.ListN.{length, take, drop, length-append, length-drop}
use lib.Seq.{sets, length-sets, take-nil, drop-drop}
use Rattle.reading.specs.declared.Event.{Event}
use Rattle.reading.specs.Events.{event_numbers}
use Rattle.reading.specs.Located.{located_of, located}
use Rattle.reading.specs.Questions.{numbers, numbers_of}
use Rattle.listing.proofs.Listed.{numbers-length, sets-seam}
use Rattle.reading.proofs.Locating.{located-length}
use Rattle.drain.specs.Handing.{answered, plain, handed}
use Rattle.drain.specs.Storing.{out, put, put_all}

-- a full room stays as it is
pub put_all_full : (es : List Event) (room : List ℕ) → put_all es (out None room) ≡ out None room
unfolding put_all put
put_all_full [] room = refl
put_all_full (e ∷ es) room = put_all_full es room

-- one event, where the room holds it and where not
module _ (e : Event) (k : ℕ) (room : List ℕ) where
  pub put_in : k < length room / event_numbers → put e (Some k) room ≡ out (Some (suc k)) (sets room (k * event_numbers) (plain (e ∷ [])))
  unfolding put
  put_in h = rw (lt-ltb k (length room / event_numbers) h, put)

  pub put-out : length room / event_numbers ≤ k → put e (Some k) room ≡ out None room
  unfolding put
  put-out h = rw (le-ltb k (length room / event_numbers) h, put)

-- the event at place k lies in the room
place_in : (k n : ℕ) → k < n / event_numbers → k * event_numbers + event_numbers ≤ n
place_in k n h = omega (arith, div-mul-le_self n event_numbers)

handed-none : (room : List ℕ) → handed [] room ≡ room
unfolding handed numbers located
handed-none room = rw take-nil

-- a room for no event
handed-full : (es : List Event) (room : List ℕ) → length room < event_numbers → handed es room ≡ room
unfolding handed numbers located
handed-full es room h = rw (div-eq_of_lt {n = length room} {m = event_numbers} h)

pub plain-length : (es : List Event) → length (plain es) ≡ length es * event_numbers
plain-length es = numbers-length (located [] es) ∙ ap (λ (n : ℕ). n * event_numbers) (located-length [] es)

-- the room behind the numbers of an event and more
drop-record : (e : Event) (es : List Event) (room : List ℕ)
    → drop (length (plain (e ∷ es))) room ≡ drop (length (plain es)) (drop event_numbers room)
unfolding numbers located
drop-record e es room =
    ap (λ (k : ℕ). drop k room) (length-append (numbers_of (located_of [] e)) (plain es)) ∙ sym (drop-drop (length (plain es)) event_numbers room)

handed-more : (e : Event) (es : List Event) (room : List ℕ) → event_numbers ≤ length room
    → handed (e ∷ es) room ≡ plain (e ∷ []) ++ handed es (drop event_numbers room)
unfolding handed numbers located
handed-more e es room h =
    ap (λ (q : ℕ). let o = plain (take q (e ∷ es)) in o ++ drop (length o) room) fewer
    ∙ ap (λ (l : List ℕ). plain (e ∷ []) ++ (plain (take (length (drop event_numbers room) / event_numbers) es) ++ l)) (drop-record e (take (length (drop event_numbers room) / event_numbers) es) room)
  where
    fewer : length room / event_numbers ≡ suc (length (drop event_numbers room) / event_numbers)
    fewer = rw (length-drop event_numbers room) (div-eq-sub-div {m = event_numbers} {n = length room} (omega arith) h ∙ add-one ((length room - event_numbers) / event_numbers))

answered-all : (k cap : ℕ) → k ≤ cap → answered k cap ≡ Some k
unfolding answered
answered-all k cap h = rw (le-leb k cap h, answered)

answered-full : (k cap : ℕ) → cap < k → answered k cap ≡ None
unfolding answered
answered-full k cap h = rw (lt-leb k cap h, answered)

abbrev PutAll : List Event → ℕ → List ℕ → List ℕ → Type 0
PutAll es k pre post =
    put_all es (out (Some k) (pre ++ post)) ≡ out (answered (k + length es) (length (pre ++ post) / event_numbers)) (pre ++ handed es post)

-- behind k events, which take up the part of the room before the rest
module _ (k : ℕ) (pre post : List ℕ) (l : length pre ≡ k * event_numbers) where
  put-all-none : PutAll [] k pre post
  unfolding put_all
  put-all-none = rw (handed-none post, add-zero, answered-all k (length (pre ++ post) / event_numbers) here)
    where
      here : k ≤ length (pre ++ post) / event_numbers
      here = (le-div_iff_mul-le {k = event_numbers} {x = k} {y = length (pre ++ post)} (omega arith)).1 (omega (arith, length-append pre post))

  module _ (e : Event) (es : List Event) where
    put-all-out : length (pre ++ post) / event_numbers ≤ k → PutAll (e ∷ es) k pre post
    unfolding put_all
    put-all-out h =
        rw (put-out e k (pre ++ post) h, put_all_full es (pre ++ post), answered-full (k + suc (length es)) (length (pre ++ post) / event_numbers) (omega arith))
        (λ t. out None (pre ++ sym (handed-full (e ∷ es) post short) t))
      where
        short : length post < event_numbers
        short = omega (arith, length-append pre post, lt-div-mul-add {a = length (pre ++ post)} {b = event_numbers} (omega arith))

    put-all-in : k < length (pre ++ post) / event_numbers → PutAll es (suc k) (pre ++ plain (e ∷ [])) (drop event_numbers post) → PutAll (e ∷ es) k pre post
    unfolding put_all
    put-all-in h ih =
        rw (put_in e k (pre ++ post) h)
        (ap (λ (room : List ℕ). put_all es (out (Some (suc k)) room)) stored
        ∙ ih
        ∙ (λ t. out (answered (counted t) (longer t / event_numbers)) (whole t)))
      where
        more : event_numbers ≤ length post
        more = omega (arith, length-append pre post, place_in k (length (pre ++ post)) h)

        stored : sets (pre ++ post) (k * event_numbers) (plain (e ∷ [])) ≡ pre ++ plain (e ∷ []) ++ drop event_numbers post
        stored =
            ap (λ (i : ℕ). sets (pre ++ post) i (plain (e ∷ []))) (sym l)
            ∙ sets-seam pre post (plain (e ∷ [])) (omega (arith, plain-length (e ∷ []), more))
            ∙ ap (λ (n : ℕ). pre ++ plain (e ∷ []) ++ drop n post) (plain-length (e ∷ []))

        counted : suc k + length es ≡ k + suc (length es)
        counted = omega arith

        longer : length (pre ++ plain (e ∷ []) ++ drop event_numbers post) ≡ length (pre ++ post)
        longer = ap length (sym stored) ∙ length-sets (pre ++ post) (k * event_numbers) (plain (e ∷ []))

        whole : pre ++ plain (e ∷ []) ++ handed es (drop event_numbers post) ≡ pre ++ handed (e ∷ es) post
        whole = append_assoc pre (plain (e ∷ [])) (handed es (drop event_numbers post)) ∙ ap (λ (r : List ℕ). pre ++ r) (sym (handed-more e es post more))

all-put : (es : List Event) (k : ℕ) (pre post : List ℕ) → length pre ≡ k * event_numbers → PutAll es k pre post
all-put [] k pre post l = put-all-none k pre post l
all-put (e ∷ es) k pre post l =
    go (dec_lt k (length (pre ++ post) / event_numbers))
    (all-put es (suc k) (pre ++ plain (e ∷ [])) (drop event_numbers post) (omega (arith, length-append pre (plain (e ∷ [])), plain-length (e ∷ []))))
  where
    go : Dec (k < length (pre ++ post) / event_numbers) → PutAll es (suc k) (pre ++ plain (e ∷ [])) (drop event_numbers post) → PutAll (e ∷ es) k pre post
    go (yes h) ih = put-all-in k pre post l e es h ih
    go (no h) ih = put-all-out k pre post l e es (omega arith)

-- all of them, from the room's front
pub put-all-room : (es : List Event) (room : List ℕ) → put_all es (out (Some 0) room) ≡ out (answered (length es) (length room / event_numbers)) (handed es room)
put-all-room es room = rw zero-add at (all-put es 0 [] room refl)
