-- A token is at least one byte and never passes the end.
use Rattle.std.specs.Prelude.{None, Some}
use Prim.Native.Nat.{ℕ, suc, ◌<◌}
use Prim.Native.Char.{code}
use mathlib.Core.Path.{◌≡◌, refl, sym, ap, ◌∙◌}
use mathlib.Core.List.{List, [], ◌∷◌}
use mathlib.Core.Bool.{Bool, true, false, not, ◌&&◌, ◌||◌, and-eq-true_iff}
use native.Mathlib.Decide.{dec_lt}
use native.Mathlib.Omega.{arith}
use borrow.Author.Tests.{eqb-true, leb-true, ltb-true, ltb-false, eq-eqb}
use lib.Dec.{eqb, leb, ltb}
use lib.ListN.{length, get_or, get_or-eq_default}
use Rattle.classes.specs.Classes.{blank, punctuation}
use Rattle.classes.specs.declared.Set.TheVariants.{Plain, SpaceTab}
use Rattle.classes.specs.Sets.{in_set, run}
use Rattle.classes.proofs.Runs.{run_more, run-within}
use Rattle.classes.proofs.Parts.{stands}
use Rattle.lex.specs.declared.lex.Token.{Token}
use Rattle.lex.specs.declared.lex.Kind.{Kind}
use Rattle.lex.specs.declared.lex.Kind.TheVariants.{Text, Open, Close, Sym}
use Rattle.lex.specs.declared.lex.Delimiter.TheVariants.{Brace}
use Rattle.lex.specs.declared.lex.Symbol.TheVariants.{ExclaimBracket}
use Rattle.lex.specs.declared.lex.Start.{Start}
use Rattle.lex.specs.declared.lex.Start.TheVariants as start
pub use Rattle.lex.specs.Sound.{Sized}
use Rattle.lex.specs.Lexer.{token, lookup, start_of, ch_of, braces, hyphens_of, begun_by, begun_of, escaped_of, lexed}
use Rattle.lex.proofs.Tables.{rows, lookup-all, marks, marks-special, own, own-start}

-- a run whose first byte is in it
run-some : (p : ℕ → Bool) (s : List ℕ) → 0 < length s → p (get_or s 0 0) ≡ true → Sized (run p s) s
run-some p [] h e = absurd (omega arith)
run-some p (b ∷ bs) h e = record { some = rw (run_more p b bs e) (omega arith); within = run-within p (b ∷ bs) }

module _ (s : List ℕ) (h : 0 < length s) where
  one : Sized 1 s
  one = record { some = omega arith; within = omega arith }

  -- a second byte that is not 0
  two : (k : ℕ) → get_or s 1 0 ≡ suc k → Sized 2 s
  two k e = record { some = omega arith; within = omega (arith, stands s 1 (suc k) e (omega arith)) }

  -- a token of two bytes if the second is a certain one, else of one
  pair : (k : ℕ) (a b : Kind) → Sized (elim (eqb (get_or s 1 0) (suc k)) as (λ _. Token) [ true ↦ token a 2 | false ↦ token b 1 ]).len s
  pair k a b = go (eqb (get_or s 1 0) (suc k)) refl
    where
      go : (x : Bool) → eqb (get_or s 1 0) (suc k) ≡ x → Sized (elim x as (λ _. Token) [ true ↦ token a 2 | false ↦ token b 1 ]).len s
      go true e = two k (eqb-true _ _ e)
      go false e = one

  -- an opening brace, with what follows it
  brace : Sized (begun_by start.Brace s).len s
  unfolding begun_by lookup braces rows
  brace = go (dec_lt 1 (length s))
    where
      small : ℕ → Token → Bool
      small b t = leb 1 t.len && leb t.len 2

      sizes : (leb 1 (begun_by start.Brace s).len ≡ true) × (leb (begun_by start.Brace s).len 2 ≡ true)
      sizes = (and-eq-true_iff _ _).0 (lookup-all (token (Open Brace) 1) small braces refl (λ _. refl) (get_or s 1 0))

      go : Dec (1 < length s) → Sized (begun_by start.Brace s).len s
      go (yes l) = record { some = leb-true _ _ sizes.0; within = omega (arith, leb-true (begun_by start.Brace s).len 2 sizes.1) }
      go (no n) = rw (get_or-eq_default s 0 {n = 1} (omega arith)) one

  hyphens : get_or s 0 0 ≡ code "-" → Sized (begun_by start.Hyphen s).len s
  unfolding begun_by hyphens_of
  hyphens e = go (eqb (get_or s n 0) (code "}")) refl (ltb n 2) refl
    where
      n : ℕ
      n = run (eqb (code "-")) s

      some : Sized n s
      some = run-some (eqb (code "-")) s h (eq-eqb _ _ (sym e))

      go : (x : Bool) → eqb (get_or s n 0) (code "}") ≡ x → (y : Bool) → ltb n 2 ≡ y → Sized (begun_by start.Hyphen s).len s
      go false e y f = rw (e, hyphens_of) some
      go true e true f =
          let one : n ≡ 1 = omega (arith, ltb-true n 2 f, some.some) in
          rw (e, f, hyphens_of) (two 124 (ap (λ (k : ℕ). get_or s k 0) (sym one) ∙ eqb-true (get_or s n 0) 125 e))
      go true e false f =
          rw (e, f, hyphens_of)
          record { some = omega (arith, ltb-false n 2 f); within = omega (arith, some.within) }

  begun_sized : (st : Start) → start_of (get_or s 0 0) ≡ st → Sized (begun_by st s).len s
  unfolding begun_by in_set
  begun_sized start.Text e =
      run-some (in_set Plain) s h
      (ap not (sym (marks-special (get_or s 0 0)) ∙ ap marks e))
  begun_sized (start.Sole k) e = one
  begun_sized (start.Closing k d) e = pair 124 (Close d) k
  begun_sized start.Brace e = brace
  begun_sized start.Backslash e = go (blank (get_or s 1 0) || punctuation (get_or s 1 0)) refl
    where
      go : (x : Bool) → (blank (get_or s 1 0) || punctuation (get_or s 1 0)) ≡ x → Sized (begun_by start.Backslash s).len s
      go true q = rw (q, begun_by) one
      go false q = rw (q, begun_by) one
  begun_sized start.Hyphen e = hyphens (eqb-true (get_or s 0 0) (code "-") (sym (ap (own (get_or s 0 0)) e) ∙ own-start (get_or s 0 0)))
  begun_sized start.Exclaim e = pair 90 (Sym ExclaimBracket) Text
  begun_sized (start.Run q) e =
      run-some (eqb (ch_of q)) s h
      (eq-eqb (ch_of q) (get_or s 0 0) (sym (eqb-true (get_or s 0 0) (ch_of q) (sym (ap (own (get_or s 0 0)) e) ∙ own-start (get_or s 0 0)))))

  escaped-sized : Sized (escaped_of s).len s
  unfolding escaped_of
  escaped-sized = first (eqb (get_or s 0 0) 10) refl (ltb 0 n && eqb (get_or s n 0) 10) refl (eqb (get_or s 0 0) 32) refl
    where
      n : ℕ
      n = run (in_set SpaceTab) s

      first : (x : Bool) → eqb (get_or s 0 0) 10 ≡ x → (y : Bool) → (ltb 0 n && eqb (get_or s n 0) 10) ≡ y → (z : Bool) → eqb (get_or s 0 0) 32 ≡ z
          → Sized (escaped_of s).len s
      first true p y q z r = rw (p, escaped_of) one
      first false p true q z r =
          rw (p, q, escaped_of)
          record { some = omega arith; within = omega (arith, stands s n 10 (eqb-true _ _ ((and-eq-true_iff (ltb 0 n) (eqb (get_or s n 0) 10)).0 q).1) (omega arith)) }
      first false p false q true r = rw (p, q, r, escaped_of) one
      first false p false q false r = rw (p, q, r, escaped_of) one

-- a token that is lexed
pub lexed-sized : (e : Bool) (s : List ℕ) (t : Token) → lexed e s ≡ Some t → Sized t.len s
unfolding lexed
lexed-sized e [] t q = let z : ◌≡◌ {A = ℕ} 0 1 = cc in absurd (omega arith)
lexed-sized true (b ∷ bs) t q =
    let same : escaped_of (b ∷ bs) ≡ t = cc in rw (← same) (escaped-sized (b ∷ bs) (omega arith))
lexed-sized false (b ∷ bs) t q =
    let same : begun_of (b ∷ bs) ≡ t = cc in rw (← same) (begun_sized (b ∷ bs) (omega arith) (start_of b) refl)

-- only at the end is there none
pub lexed-end : (e : Bool) (s : List ℕ) → lexed e s ≡ None → length s ≡ 0
unfolding lexed
lexed-end e [] q = refl
lexed-end true (b ∷ bs) q = cc
lexed-end false (b ∷ bs) q = cc
