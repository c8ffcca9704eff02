-- The rule of a table, from one test that is computed over all of its entries; and the flags of a class.
use Prim.Native.Nat.{ℕ, zero, suc, ◌+◌, ◌/◌, ◌%◌, ◌≤◌, ◌<◌}
use mathlib.Core.Path.{◌≡◌}
use mathlib.Core.List.{List, [], ◌∷◌}
use mathlib.Core.Bool.{Bool, true, false, ◌&&◌, and-eq-true_iff}
use native.Mathlib.Nat.{add-zero, zero-add, add-suc, suc-add}
use native.Mathlib.Omega.{arith}
use borrow.Author.Tests.{eqb-true}
use lib.Dec.{eqb}
use lib.ListN.{length, get_or}
use Rattle.classes.specs.Classes.{special, blank, punctuation, alphanumeric, bit, flagged, class_of, Ruled}

-- each entry is the rule's value at its place, counted from i
unfoldable pub ruled_from : (ℕ → ℕ) → ℕ → List ℕ → Bool
ruled_from rule i [] = true
ruled_from rule i (x ∷ xs) = eqb x (rule i) && ruled_from rule (suc i) xs

ruled-from : (rule : ℕ → ℕ) (xs : List ℕ) (i : ℕ) → ruled_from rule i xs ≡ true → (k : ℕ) → k < length xs → get_or xs k 0 ≡ rule (i + k)
unfolding ruled_from
ruled-from rule [] i t k h = absurd (omega arith)
ruled-from rule (x ∷ xs) i t zero h = rw add-zero (eqb-true x (rule i) ((and-eq-true_iff (eqb x (rule i)) (ruled_from rule (suc i) xs)).0 t).0)
ruled-from rule (x ∷ xs) i t (suc k) h =
    rw (add-suc, ← suc-add) (ruled-from rule xs (suc i) ((and-eq-true_iff (eqb x (rule i)) (ruled_from rule (suc i) xs)).0 t).1 k (omega arith))

-- the test, carried to each entry
pub ruled : (table : List ℕ) → length table ≡ 256 → ruled_from class_of 0 table ≡ true → Ruled table
ruled table n t = record { size = n; rule = λ b h. rw zero-add at (ruled-from class_of table 0 t b h) }

bit-small : (b : Bool) → bit b ≤ 1
bit-small true = omega arith
bit-small false = omega arith

bit-read : (n : ℕ) (b : Bool) → n ≡ bit b → eqb n 1 ≡ b
bit-read n true e = rw e
bit-read n false e = rw e

-- each flag is read back from the number
module _ (b : ℕ) where
  bits : (bit (special b) ≤ 1) × (bit (blank b) ≤ 1) × (bit (punctuation b) ≤ 1) × (bit (alphanumeric b) ≤ 1)
  bits = (bit-small _, bit-small _, bit-small _, bit-small _)

  pub special_flag : flagged 1 b ≡ special b
  unfolding class_of
  special_flag = bit-read (class_of b / 1 % 2) (special b) (omega (arith, bits))

  pub blank_flag : flagged 2 b ≡ blank b
  unfolding class_of
  blank_flag = bit-read (class_of b / 2 % 2) (blank b) (omega (arith, bits))

  pub punctuation_flag : flagged 4 b ≡ punctuation b
  unfolding class_of
  punctuation_flag = bit-read (class_of b / 4 % 2) (punctuation b) (omega (arith, bits))

  pub alphanumeric_flag : flagged 8 b ≡ alphanumeric b
  unfolding class_of
  alphanumeric_flag = bit-read (class_of b / 8 % 2) (alphanumeric b) (omega (arith, bits))
