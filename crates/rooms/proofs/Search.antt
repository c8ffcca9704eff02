-- The laws of openers: after a push, and a search from the newest back.
use Rattle.std.specs.Prelude.{Option, None, Some, Bool, true, false}
use Prim.Native.Nat.{ℕ, zero, suc, ◌+◌, ◌-◌, ◌*◌, ◌≤◌, ◌<◌}
use mathlib.Core.Path.{◌≡◌, refl, sym, ap, ◌∙◌}
use mathlib.Core.List.{List, [], ◌∷◌}
use native.Mathlib.Nat.{add-zero}
use native.Mathlib.Omega.{arith}
use lib.ListN.{length, get_or}
use lib.Seq.{sets}
use Rattle.reading.specs.declared.Closer.{Closer}
use Rattle.reading.specs.declared.Opener.{Opener}
use Rattle.reading.specs.Closers.{same}
use Rattle.reading.specs.Tokens.{closed_by}
use Rattle.reading.specs.Containers.{seek, seek_mark}
use Rattle.reading.proofs.Ends.{seek-none}
use Rattle.reading.proofs.Sameness.{same-equal, equal-same, unequal, differ}
use Rattle.reading.specs.Sorts.{number, sort_at}
use Rattle.reading.proofs.Sorts.{sort-number}
use Rattle.rooms.specs.Rows.{stack}
use Rattle.rooms.specs.Records.{opener_at, opens, place}
use Rattle.rooms.proofs.Rows.{stack_same, stack-length, sets-before, sets-at}

-- an opener as it lies in a room
abbrev encode_opener : Opener → List ℕ
encode_opener o = number o.sort ∷ o.event ∷ o.span ∷ []

-- one more opener
module _ (room : List ℕ) (n : ℕ) (o : Opener) (fits : n * 4 + 4 ≤ length room) where
  pub opened : opens (suc n) (sets room (n * 4) (encode_opener o)) ≡ o ∷ opens n room
  unfolding stack
  opened = λ t. ◌∷◌ (stored t) (below t)
    where
      at : (k : ℕ) → k < 3 → get_or (sets room (n * 4) (encode_opener o)) (n * 4 + k) 0 ≡ get_or (encode_opener o) k 0
      at k h = sets-at room (n * 4) (encode_opener o) k h (omega (arith, fits))

      first : get_or (sets room (n * 4) (encode_opener o)) (n * 4) 0 ≡ number o.sort
      first = rw add-zero at (at 0 (omega arith))

      sorted : sort_at (get_or (sets room (n * 4) (encode_opener o)) (n * 4) 0) ≡ o.sort
      sorted = ap sort_at first ∙ sort-number o.sort

      stored : opener_at (sets room (n * 4) (encode_opener o)) n ≡ o
      stored = λ t. record { sort = sorted t; event = at 1 (omega arith) t; span = at 2 (omega arith) t }

      old : (k : ℕ) → k < n * 4 → get_or (sets room (n * 4) (encode_opener o)) k 0 ≡ get_or room k 0
      old k h = sets-before room (n * 4) (encode_opener o) k h

      below : opens n (sets room (n * 4) (encode_opener o)) ≡ opens n room
      below =
          stack_same opener_at n (sets room (n * 4) (encode_opener o)) room
          (λ i l. λ t. record { sort = sort_at (old (i * 4) (omega arith) t); event = old (i * 4 + 1) (omega arith) t; span = old (i * 4 + 2) (omega arith) t })

module _ (room : List ℕ) (mark : Closer) where
  -- the newest opener is closed by the mark
  seek_hit : (i : ℕ) → closed_by (sort_at (get_or room (i * 4) 0)) ≡ mark → seek_mark mark (opens (suc i) room) ≡ opener_at room i ∷ opens i room
  unfolding stack seek_mark
  seek_hit i e = rw (equal-same _ _ e, seek_mark)

  -- the newest opener is closed by another
  seek-skip : (i : ℕ) → (closed_by (sort_at (get_or room (i * 4) 0)) ≡ mark → ⊥) → seek_mark mark (opens (suc i) room) ≡ seek_mark mark (opens i room)
  unfolding stack seek_mark
  seek-skip i ne = rw (unequal _ _ ne, seek_mark)

  place_at : (i : ℕ) → place (opener_at room i ∷ opens i room) ≡ Some i
  unfolding place
  place_at i = ap Some (stack-length opener_at i room)

  place-hit : (i : ℕ) → closed_by (sort_at (get_or room (i * 4) 0)) ≡ mark → place (seek_mark mark (opens (suc i) room)) ≡ Some i
  place-hit i e = rw (seek_hit i e) (place_at i)

  -- the answer `Some i` names an opener within, and those below it
  found_mark : (n i : ℕ) → place (seek_mark mark (opens n room)) ≡ Some i
      → (i < n) × (seek_mark mark (opens n room) ≡ opener_at room i ∷ opens i room)
  unfolding stack seek_mark place
  found_mark zero i e = let z : ◌≡◌ {A = ℕ} 0 1 = cc in absurd (omega arith)
  found_mark (suc n) i e = go (same (closed_by (sort_at (get_or room (n * 4) 0))) mark) refl (found_mark n i)
    where
      go : (t : Bool) → same (closed_by (sort_at (get_or room (n * 4) 0))) mark ≡ t
          → (place (seek_mark mark (opens n room)) ≡ Some i → (i < n) × (seek_mark mark (opens n room) ≡ opener_at room i ∷ opens i room))
          → (i < suc n) × (seek_mark mark (opens (suc n) room) ≡ opener_at room i ∷ opens i room)
      go true t ih = let q = same-equal _ _ t in let p = place-hit n q in let z : n ≡ i = cc in (omega arith, rw (← z) (seek_hit n q))
      go false t ih = let ne = differ _ _ t in let r = ih (ap place (sym (seek-skip n ne)) ∙ e) in (omega (arith, r.0), seek-skip n ne ∙ r.1)

-- no answer: no opener is closed by the mark
pub place_none : (l : List Opener) → place l ≡ None → l ≡ []
unfolding place
place_none [] e = refl
place_none (o ∷ os) e = let z : ◌≡◌ {A = ℕ} 0 1 = cc in absurd (omega arith)

pub found-none : (room : List ℕ) (closes : Option Closer) (n : ℕ) → closes ≡ None → None ≡ place (seek closes (opens n room))
unfolding place
found-none room closes n e = rw (e, seek-none (opens n room))

-- the answer `Some i` names an opener within, and those below it
pub found_at : (room : List ℕ) (closes : Option Closer) (n i : ℕ) → place (seek closes (opens n room)) ≡ Some i
    → (i < n) × (seek closes (opens n room) ≡ opener_at room i ∷ opens i room)
unfolding seek place
found_at room None n i e = let z : ◌≡◌ {A = ℕ} 0 1 = cc in absurd (omega arith)
found_at room (Some mark) n i e = found_mark room mark n i e

-- i openers are left to search, and the answer is that of all n
module _ (room : List ℕ) (mark : Closer) (n i : ℕ) (inv : seek_mark mark (opens i room) ≡ seek_mark mark (opens n room)) where
  pub found_nothing : i ≡ 0 → None ≡ place (seek_mark mark (opens n room))
  unfolding stack seek_mark place
  found_nothing e = rw (← inv, e)

  -- one turn: the newest of them is closed by the mark, or is not
  pub found_here : (0 < i) → closed_by (sort_at (get_or room ((i - 1) * 4) 0)) ≡ mark → Some (i - 1) ≡ place (seek_mark mark (opens n room))
  found_here h e = let z : i ≡ suc (i - 1) = omega arith in sym (place-hit room mark (i - 1) e) ∙ rw (← z, inv)

  pub found_below : (0 < i) → (closed_by (sort_at (get_or room ((i - 1) * 4) 0)) ≡ mark → ⊥) → seek_mark mark (opens (i - 1) room) ≡ seek_mark mark (opens n room)
  found_below h ne = let z : i ≡ suc (i - 1) = omega arith in sym (seek-skip room mark (i - 1) ne) ∙ rw (← z, inv)

-- the answer of the mark is that of what closes
pub sought : (room : List ℕ) (closes : Option Closer) (n : ℕ) (mark : Closer) (r : Option ℕ) → closes ≡ Some mark
    → r ≡ place (seek_mark mark (opens n room)) → r ≡ place (seek closes (opens n room))
unfolding seek
sought room closes n mark r e h = rw e h
