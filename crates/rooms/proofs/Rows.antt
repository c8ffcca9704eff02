-- The laws of `rows` and `stack`, for any kind of record: their length, one of their records, fewer of them, and what two rooms share.
-- And of `sets`, a run of stores: what it leaves before its start, and what it leaves where it stored.
use Prim.Native.Nat.{ℕ, zero, suc, ◌+◌, ◌≤◌, ◌<◌}
use mathlib.Core.Path.{◌≡◌, refl, sym, ap, ◌∙◌}
use mathlib.Core.List.{List, [], ◌∷◌, ◌++◌}
use mathlib.Core.Logic.{⊎_elim}
use native.Mathlib.Nat.{eq-or-lt_of_le, le_of_suc-le-suc, add-zero, add-suc, suc-add}
use native.Mathlib.Omega.{arith}
use lib.ListN.{length, get_or, take, set, length-append, length-set, get_or-append}
use lib.Seq.{sets, get_or-set_same, get_or-set_other, get_or_at, take-append-le, take_all}
use Rattle.rooms.specs.Rows.{rows, stack}

module _ {R : Type 0} (read : List ℕ → ℕ → R) where
  pub rows-length : (n : ℕ) (room : List ℕ) → length (rows read n room) ≡ n
  unfolding rows
  rows-length zero room = refl
  rows-length (suc n) room = length-append (rows read n room) _ ∙ omega (arith, rows-length n room)

  pub stack-length : (n : ℕ) (room : List ℕ) → length (stack read n room) ≡ n
  unfolding stack
  stack-length zero room = refl
  stack-length (suc n) room = ap suc (stack-length n room)

  -- two rooms with the same n records
  pub rows_same : (n : ℕ) (a b : List ℕ) → ((i : ℕ) → i < n → read a i ≡ read b i) → rows read n a ≡ rows read n b
  unfolding rows
  rows_same zero a b h = refl
  rows_same (suc n) a b h = rw (rows_same n a b (λ i l. h i (omega arith)), h n (omega arith))

  pub stack_same : (n : ℕ) (a b : List ℕ) → ((i : ℕ) → i < n → read a i ≡ read b i) → stack read n a ≡ stack read n b
  unfolding stack
  stack_same zero a b h = refl
  stack_same (suc n) a b h = rw (stack_same n a b (λ i l. h i (omega arith)), h n (omega arith))

  -- one of the records
  pub rows_at : (n : ℕ) (room : List ℕ) (i : ℕ) (d : R) → i < n → get_or (rows read n room) i d ≡ read room i
  unfolding rows
  rows_at zero room i d h = absurd (omega arith)
  rows_at (suc n) room i d h =
      ⊎_elim
      (λ (e : i ≡ n). rw e (get_or_at (rows read n room) (read room n) [] d n (rows-length n room)))
      (λ (l : i < n). get_or-append (rows read n room) _ d i (omega (arith, rows-length n room)) ∙ rows_at n room i d l)
      (eq-or-lt_of_le (le_of_suc-le-suc h))

  -- one more record
  pub rows_more : (n : ℕ) (a b : List ℕ) → ((i : ℕ) → i < n → read b i ≡ read a i) → rows read (suc n) b ≡ rows read n a ++ (read b n ∷ [])
  unfolding rows
  rows_more n a b h = rw (rows_same n b a h)

  -- fewer records
  pub rows_cut : (m n : ℕ) (room : List ℕ) → m ≤ n → rows read m room ≡ take m (rows read n room)
  unfolding rows
  rows_cut m zero room h = let e : m ≡ 0 = omega arith in rw e
  rows_cut m (suc n) room h =
      ⊎_elim
      (λ (e : m ≡ suc n). rw e (sym (take_all (suc n) (rows read (suc n) room) (omega (arith, rows-length (suc n) room)))))
      (λ (l : m < suc n).
      rows_cut m n room (omega arith)
      ∙ sym (take-append-le m (rows read n room) _ (omega (arith, rows-length n room))))
      (eq-or-lt_of_le h)

-- what stands before the start stays
pub sets-before : (l : List ℕ) (i : ℕ) (vs : List ℕ) (k : ℕ) → k < i → get_or (sets l i vs) k 0 ≡ get_or l k 0
sets-before l i [] k h = refl
sets-before l i (v ∷ vs) k h = sets-before (set l i v) (suc i) vs k (omega arith) ∙ get_or-set_other l i k v 0 (omega arith)

-- and so does what stands past the end
pub sets-after : (l : List ℕ) (i : ℕ) (vs : List ℕ) (k : ℕ) → i + length vs ≤ k → get_or (sets l i vs) k 0 ≡ get_or l k 0
sets-after l i [] k h = refl
sets-after l i (v ∷ vs) k h = sets-after (set l i v) (suc i) vs k (omega arith) ∙ get_or-set_other l i k v 0 (omega arith)

-- the kth number that was stored
pub sets-at : (l : List ℕ) (i : ℕ) (vs : List ℕ) (k : ℕ) → k < length vs → i + length vs ≤ length l → get_or (sets l i vs) (i + k) 0 ≡ get_or vs k 0
sets-at l i [] k h r = absurd (omega arith)
sets-at l i (v ∷ vs) zero h r = rw add-zero (sets-before (set l i v) (suc i) vs i (omega arith) ∙ get_or-set_same l i v 0 (omega arith))
sets-at l i (v ∷ vs) (suc k) h r =
    rw (add-suc, ← suc-add) (sets-at (set l i v) (suc i) vs k (omega arith) (omega (arith, length-set l i v)))
