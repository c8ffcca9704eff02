-- The laws of the scans that their callers cite: what is accepted ends before the line does, at the byte that closes.
use Rattle.std.specs.Prelude.{None, Option, Some}
use Prim.Native.Nat.{ℕ, ◌≤◌, ◌<◌}
use mathlib.Core.Path.{◌≡◌, refl, sym, ap, ◌∙◌}
use mathlib.Core.List.{List}
use mathlib.Core.Bool.{Bool, true, false}
use native.Mathlib.Decide.{ℕ_discrete}
use native.Mathlib.Omega.{arith}
use borrow.Author.Tests.{eqb-false}
use lib.Dec.{eqb}
use lib.ListN.{length, take, get_or}
use Rattle.classes.specs.declared.Set.{Set}
use Rattle.classes.specs.declared.Set.TheVariants.{Address, Name, Label, Format}
use Rattle.classes.specs.Sets.{in_set, run}
use Rattle.scan.specs.Scans.{upto_of, marked, autolink_of, symbol_of, footnote_of, raw_format_of}
use Rattle.scan.proofs.Closing.{closed_some}

-- n bytes of a set, and what closes them
pub record Accepted (set : Set) (close : ℕ) (s : List ℕ) (n : ℕ) : Type 0 where
  pub long : n ≡ run (in_set set) s
  pub within : n < length s
  pub closes : get_or s n 0 ≡ close

-- a scan that is tried, or not
tried : (x : Bool) (a : Option ℕ) (n : ℕ) → (elim x as (λ _. Option ℕ) [ true ↦ a | false ↦ None ]) ≡ Some n → a ≡ Some n
tried true a n e = e
tried false a n e = cc

module _ (s : List ℕ) (n : ℕ) where
  upto-some : (set : Set) (close : ℕ) → 0 < close → upto_of set close s ≡ Some n → Accepted set close s n
  unfolding upto_of
  upto-some set close h e =
      let r = closed_some s (run (in_set set) s) close h n e in
      record {
        long = r.0;
        within = omega (arith, r.0, r.1);
        closes = ap (λ (k : ℕ). get_or s k 0) r.0 ∙ r.2;
      }

  pub autolink-some : autolink_of s ≡ Some n → Accepted Address 62 s n
  unfolding autolink_of
  autolink-some e = upto-some Address 62 (omega arith) (tried (marked (take (run (in_set Address) s) s)) (upto_of Address 62 s) n e)

  -- an address has a `:` or `@`
  pub autolink-long : autolink_of s ≡ Some n → 1 ≤ n
  unfolding autolink_of marked
  autolink-long e = go (ℕ_discrete n 0)
    where
      go : Dec (n ≡ 0) → 1 ≤ n
      go (no h) = omega arith
      go (yes h) =
          let z : run (in_set Address) s ≡ 0 = sym (autolink-some e).long ∙ h in
          let none = rw (z, autolink_of) at e in
          let z : ◌≡◌ {A = ℕ} 0 1 = cc in absurd (omega arith)

  pub symbol-some : symbol_of s ≡ Some n → Accepted Name 58 s n
  unfolding symbol_of
  symbol-some e = upto-some Name 58 (omega arith) e

  pub footnote-some : footnote_of s ≡ Some n → Accepted Label 93 s n
  unfolding footnote_of
  footnote-some e = upto-some Label 93 (omega arith) e

  -- a raw format is at least one byte
  pub raw-format-some : raw_format_of s ≡ Some n → Accepted Format 125 s n × (1 ≤ n)
  unfolding raw_format_of
  raw-format-some e = go (eqb (run (in_set Format) s) 0) refl
    where
      go : (x : Bool) → eqb (run (in_set Format) s) 0 ≡ x → Accepted Format 125 s n × (1 ≤ n)
      go true q = let none = rw (q, raw_format_of) at e in let z : ◌≡◌ {A = ℕ} 0 1 = cc in absurd (omega arith)
      go false q =
          let a = upto-some Format 125 (omega arith) (rw (q, raw_format_of) at e) in
          (a, omega (arith, a.long, eqb-false (run (in_set Format) s) 0 q))
