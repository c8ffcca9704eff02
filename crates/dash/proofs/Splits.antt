-- The fewest en dashes, the split of a run in each case of the rule, the six cases by six, and that a split is of the whole run.
use Prim.Native.Nat.{ℕ, zero, suc, ◌+◌, ◌*◌, ◌-◌, ◌/◌, ◌%◌, ◌≤◌, ◌<◌}
use mathlib.Core.Path.{◌≡◌, ap, ◌∙◌}
use mathlib.Core.Bool.{true, false, and-eq-true_iff}
use native.Mathlib.Decide.{ℕ_discrete}
use native.Mathlib.Omega.{arith}
use borrow.Author.Tests.{le-leb, lt-ltb, le-ltb, eq-eqb, ne_eqb}
use lib.Dec.{leb, eqb}
use Rattle.dash.specs.Dashes.{comes_out, first_from, fewest, dashes, dashes_of, dots_of}
use Rattle.dash.specs.BySix.{six_cases, by_six}

module _ (n : ℕ) where
  comes : (k : ℕ) → 2 * k ≤ n → (n - 2 * k) % 3 ≡ 0 → comes_out n k ≡ true
  unfolding comes_out
  comes k h e = (and-eq-true_iff (leb (2 * k) n) (eqb ((n - 2 * k) % 3) 0)).1 (le-leb _ _ h, eq-eqb _ _ e)

  not-comes : (k : ℕ) → 2 * k ≤ n → ((n - 2 * k) % 3 ≡ 0 → ⊥) → comes_out n k ≡ false
  unfolding comes_out
  not-comes k h e = rw (le-leb _ _ h, ne_eqb _ _ e)

  first-here : (k more : ℕ) → comes_out n k ≡ true → first_from n k (suc more) ≡ k
  unfolding first_from
  first-here k more e = rw (e, first_from)

  first-later : (k more : ℕ) → comes_out n k ≡ false → first_from n k (suc more) ≡ first_from n (suc k) more
  unfolding first_from
  first-later k more e = rw (e, first_from)

  module _ (h : 2 ≤ n) where
    tries : (n ≡ suc (n - 1)) × (n - 1 ≡ suc (n - 2))
    tries = (omega arith, omega arith)

    one : n % 3 ≡ 2 → fewest n ≡ 1
    unfolding fewest
    one e = ap (first_from n 1) tries.0 ∙ first-here 1 (n - 1) (comes 1 (omega arith) (omega arith))

    two : n % 3 ≡ 1 → (n % 2 ≡ 0 → ⊥) → fewest n ≡ 2
    unfolding fewest
    two e o =
        ap (first_from n 1) tries.0
        ∙ first-later 1 (n - 1) (not-comes 1 (omega arith) (omega arith))
        ∙ ap (first_from n 2) tries.1
        ∙ first-here 2 (n - 2) (comes 2 (omega arith) (omega arith))

    -- the cases of a split
    split-em : n % 3 ≡ 0 → dashes (n / 3) 0 ≡ dashes_of n
    unfolding dashes_of
    split-em e = rw (le-ltb _ _ h, eq-eqb _ _ e, dashes_of)

    module _ (e : n % 3 ≡ 0 → ⊥) where
      split-en : n % 2 ≡ 0 → dashes 0 (n / 2) ≡ dashes_of n
      unfolding dashes_of
      split-en o = rw (le-ltb _ _ h, ne_eqb _ _ e, eq-eqb _ _ o, dashes_of)

      both : (n % 2 ≡ 0 → ⊥) → (k : ℕ) → fewest n ≡ k → dashes ((n - 2 * k) / 3) k ≡ dashes_of n
      unfolding dashes_of
      both o k f = rw (le-ltb _ _ h, ne_eqb _ _ e, ne_eqb _ _ o, f, dashes_of)

      split_one : (n % 2 ≡ 0 → ⊥) → n % 3 ≡ 2 → dashes ((n - 2) / 3) 1 ≡ dashes_of n
      split_one o m = both o 1 (one m)

      split-two : (n % 2 ≡ 0 → ⊥) → (n % 3 ≡ 2 → ⊥) → dashes ((n - 4) / 3) 2 ≡ dashes_of n
      split-two o m = both o 2 (two (omega arith) o)

    -- the six cases are the rule, at each length from 2 up
    pub by-six : (r : ℕ) → n % 6 ≡ r → by_six n r ≡ dashes_of n
    unfolding six_cases by_six
    by-six zero e = split-em (omega arith)
    by-six (suc zero) e = split-two (omega arith) (omega arith) (omega arith)
    by-six (suc (suc zero)) e = split-en (omega arith) (omega arith)
    by-six (suc (suc (suc zero))) e = split-em (omega arith)
    by-six (suc (suc (suc (suc zero)))) e = split-en (omega arith) (omega arith)
    by-six (suc (suc (suc (suc (suc zero))))) e = split_one (omega arith) (omega arith) (omega arith)
    by-six (suc (suc (suc (suc (suc (suc r)))))) e = absurd (omega arith)

  pub split-none : n < 2 → dashes 0 0 ≡ dashes_of n
  unfolding dashes_of
  split-none h = rw (lt-ltb _ _ h, dashes_of)

-- a split is of the whole run
pub dashes-whole : (n : ℕ) → 2 ≤ n → 3 * (dashes_of n).em + 2 * (dashes_of n).en ≡ n
dashes-whole n h = go (ℕ_discrete (n % 3) 0) (ℕ_discrete (n % 2) 0) (ℕ_discrete (n % 3) 2)
  where
    go : Dec (n % 3 ≡ 0) → Dec (n % 2 ≡ 0) → Dec (n % 3 ≡ 2) → 3 * (dashes_of n).em + 2 * (dashes_of n).en ≡ n
    go (yes e) o m = rw (← split-em n h e) (omega arith)
    go (no e) (yes o) m = rw (← split-en n h e o) (omega arith)
    go (no e) (no o) (yes m) = rw (← split_one n h e o m) (omega arith)
    go (no e) (no o) (no m) = rw (← split-two n h e o m) (omega arith)

pub dots-whole : (n : ℕ) → (3 * (dots_of n).ellipses + (dots_of n).rest ≡ n) × ((dots_of n).rest < 3)
dots-whole n = (omega arith, omega arith)
