-- The byte that closes a scan, and a raw format.
use Rattle.std.specs.Prelude.{None, Some}
use Prim.Native.Nat.{ℕ, ◌<◌}
use mathlib.Core.Path.{◌≡◌, refl, sym, ◌∙◌}
use mathlib.Core.List.{List}
use mathlib.Core.Bool.{Bool, true, false}
use native.Mathlib.Omega.{arith}
use borrow.Author.Tests.{eq-eqb, ne_eqb, eqb-true, eqb-false}
use lib.Dec.{eqb}
use lib.ListN.{length, get_or}
use Rattle.classes.specs.declared.Set.TheVariants.{Format}
use Rattle.classes.specs.Sets.{in_set, run}
use Rattle.classes.proofs.Parts.{stands}
use Rattle.scan.specs.Scans.{closed_at, upto_of, raw_format_of}

module _ (s : List ℕ) (n close : ℕ) where
  pub closed-hit : get_or s n 0 ≡ close → Some n ≡ closed_at s n close
  unfolding closed_at
  closed-hit e = rw (eq-eqb _ _ e, closed_at)

  pub closed-miss : (get_or s n 0 ≡ close → ⊥) → None ≡ closed_at s n close
  unfolding closed_at
  closed-miss e = rw (ne_eqb _ _ e, closed_at)

  -- an accepted scan: its length, and the byte behind it, which lies within
  pub closed_some : 0 < close → (k : ℕ) → closed_at s n close ≡ Some k → (k ≡ n) × (n < length s) × (get_or s n 0 ≡ close)
  closed_some h k q = go (eqb (get_or s n 0) close) refl
    where
      go : (x : Bool) → eqb (get_or s n 0) close ≡ x → (k ≡ n) × (n < length s) × (get_or s n 0 ≡ close)
      go true e =
          let same = closed-hit (eqb-true _ _ e) in
          (cc, stands s n close (eqb-true _ _ e) h, eqb-true _ _ e)
      go false e = let none = closed-miss (eqb-false _ _ e) in let z : ◌≡◌ {A = ℕ} 0 1 = cc in absurd (omega arith)

-- a raw format of n bytes
module _ (s : List ℕ) (n : ℕ) (en : n ≡ run (in_set Format) s) where
  pub raw-none : n ≡ 0 → None ≡ raw_format_of s
  unfolding raw_format_of
  raw-none z = rw (eq-eqb _ _ (sym en ∙ z), raw_format_of)

  pub raw-some : (n ≡ 0 → ⊥) → closed_at s n 125 ≡ raw_format_of s
  unfolding raw_format_of upto_of
  raw-some z = rw (ne_eqb _ _ (λ e. z (en ∙ e)), en, raw_format_of)
