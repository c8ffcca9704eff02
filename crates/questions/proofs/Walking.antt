-- The walk over the lines asks questions 3 and 4 of the definition.
use Rattle.std.specs.Prelude.{None, Option, Some, Result, Ok, Err, IfOk}
use Prim.Native.Nat.{ℕ, suc, ◌+◌, ◌-◌, ◌*◌, ◌^◌, ◌≤◌, ◌<◌}
use mathlib.Core.Path.{◌≡◌, refl, sym, ap, ◌∙◌, subst}
use mathlib.Core.List.{List, [], ◌∷◌}
use mathlib.Core.Bool.{Bool, true, false, ◌&&◌}
use native.Mathlib.Nat.{zero-add}
use native.Mathlib.Numerals.{add-one}
use native.Mathlib.Omega.{arith}
use borrow.Author.Tests.{ltb-true, ltb-false, leb-true, leb-false, lt-ltb, le-ltb}
use lib.Dec.{leb, ltb}
use lib.ListN.{length, get_or, drop, drop_of_length-le}
use lib.Seq.{drop-cons}
use Rattle.reading.specs.declared.Line.{Line}
use Rattle.reading.specs.Questions.{total, first_outside, first_early}
use Rattle.inline.specs.Lines.{none}
use Rattle.inline.proofs.Begins.{rising-total}
use Rattle.reading.proofs.Theorems.{rising}
use Rattle.reading.specs.declared.refusal.Refusal.{Refusal}
use Rattle.reading.specs.declared.refusal.Refusal.TheVariants as refusal
use Rattle.questions.specs.declared.LineWalk.{LineWalk}
use Rattle.questions.specs.Asking.{checked_lines, early_of, onward, line_of}

-- what is found of lines: their bytes, or a refusal
abbrev Found : Type 0
Found = Result ℕ Refusal

abbrev outside : ℕ → Found
outside i = Err (refusal.Outside i)

abbrev early : ℕ → Found
early i = Err (refusal.Early i)

abbrev fed : ℕ → Found
fed n = Ok n

abbrev ended_of : Option ℕ → ℕ → Found
ended_of (Some k) t = early k
ended_of None t = fed t

-- of the lines that are left, from line i on
unfoldable pub rest : ℕ → ℕ → LineWalk → List Line → Found
rest n i w [] = ended_of w.early w.total
rest n i w (l ∷ ls) =
    elim (leb l.start l.end && leb l.end n) [ true ↦ rest n (suc i) (onward w i l) ls | false ↦ outside i ]

ltb-suc : (a b : ℕ) → ltb (suc a) (suc b) ≡ ltb a b
ltb-suc a b = go (ltb a b) refl
  where
    go : (t : Bool) → ltb a b ≡ t → ltb (suc a) (suc b) ≡ t
    go true e = lt-ltb (suc a) (suc b) (omega (arith, ltb-true a b e))
    go false e = le-ltb (suc a) (suc b) (omega (arith, ltb-false a b e))

-- no line starts early before one is found
early-leb : (i a b : ℕ) → early_of None i a b ≡ elim (leb b a) [ true ↦ None | false ↦ Some i ]
early-leb i a b = go (leb b a) refl
  where
    go : (t : Bool) → leb b a ≡ t → early_of None i a b ≡ elim t [ true ↦ None | false ↦ Some i ]
    go true e = rw (le-ltb a b (leb-true b a e), early_of)
    go false e = rw (lt-ltb a b (leb-false b a e), early_of)

module _ (text : List ℕ) where
  abbrev walk : ℕ → ℕ → Option ℕ → LineWalk
  walk a t e = record { end = a; total = t; early = e }

  -- the first line outside the text, if there is one
  abbrev out : Bool → ℕ → Found → Found
  out t m d = elim t [ true ↦ outside m | false ↦ d ]

  abbrev next : Bool → ℕ → ℕ
  next t m = elim t [ true ↦ suc m | false ↦ 0 ]

  out-next : (i m k : ℕ) (d : Found) → out (ltb m k) (suc i + m) d ≡ out (ltb (suc m) (suc k)) (i + suc m) d
  out-next i m k d =
      let e : suc i + m ≡ i + suc m = omega arith in
      ap (λ (z : ℕ). out (ltb m k) z d) e ∙ ap (λ (t : Bool). out t (i + suc m) d) (sym (ltb-suc m k))

  out-here : (i k : ℕ) (d : Found) → outside i ≡ out (ltb 0 (suc k)) (i + 0) d
  out-here i k d =
      let e : i ≡ i + 0 = omega arith in
      ap (λ (z : ℕ). outside z) e ∙ ap (λ (t : Bool). out t (i + 0) d) (sym (lt-ltb 0 (suc k) (omega arith)))

  -- behind an early line only one outside the text is looked for
  late : (ls : List Line) (i k a t : ℕ)
      → rest (length text) i (walk a t (Some k)) ls ≡ out (ltb (first_outside text ls) (length ls)) (i + first_outside text ls) (early k)
  unfolding rest first_outside
  late [] i k a t = refl
  late (l ∷ ls) i k a t =
      go (leb l.start l.end && leb l.end (length text)) (late ls (suc i) k l.end (t + (l.end - l.start)))
    where
      go : (b : Bool) → rest (length text) (suc i) (walk l.end (t + (l.end - l.start)) (Some k)) ls ≡ out (ltb (first_outside text ls) (length ls)) (suc i + first_outside text ls) (early k)
          → ◌≡◌ {A = Found} (elim b [ true ↦ rest (length text) (suc i) (walk l.end (t + (l.end - l.start)) (Some k)) ls | false ↦ outside i ])
          (out (ltb (next b (first_outside text ls)) (suc (length ls))) (i + next b (first_outside text ls)) (early k))
      go true h = h ∙ out-next i (first_outside text ls) (length ls) (early k)
      go false h = out-here i (length ls) (early k)

  -- and before one also the first early line
  abbrev soon : Bool → ℕ → ℕ → Found
  soon t k m = elim t [ true ↦ early k | false ↦ fed m ]

  on-time : (ls : List Line) (i a t : ℕ)
      → rest (length text) i (walk a t None) ls
      ≡ out (ltb (first_outside text ls) (length ls)) (i + first_outside text ls) (soon (ltb (first_early a ls) (length ls)) (i + first_early a ls) (t + total ls))
  unfolding rest first_outside first_early total
  on-time [] i a t = let e : t ≡ t + 0 = omega arith in ap (λ (z : ℕ). fed z) e
  on-time (l ∷ ls) i a t =
      go (leb l.start l.end && leb l.end (length text)) (leb a l.start) refl (on-time ls (suc i) l.end (t + (l.end - l.start)))
    where
      step : (e : Bool) → leb a l.start ≡ e
          → rest (length text) (suc i) (walk l.end (t + (l.end - l.start)) None) ls ≡ out (ltb (first_outside text ls) (length ls)) (suc i + first_outside text ls) (soon (ltb (first_early l.end ls) (length ls)) (suc i + first_early l.end ls) ((t + (l.end - l.start)) + total ls))
          → rest (length text) (suc i) (walk l.end (t + (l.end - l.start)) (early_of None i l.start a)) ls
          ≡ out (ltb (suc (first_outside text ls)) (suc (length ls))) (i + suc (first_outside text ls)) (soon (ltb (next e (first_early l.end ls)) (suc (length ls))) (i + next e (first_early l.end ls)) (t + ((l.end - l.start) + total ls)))
      step true e h =
          ap (λ (y : Option ℕ). rest (length text) (suc i) (walk l.end (t + (l.end - l.start)) y) ls) (early-leb i l.start a ∙ rw e)
          ∙ h
          ∙ out-next i (first_outside text ls) (length ls) _
          ∙ ap (λ (d : Found). out (ltb (suc (first_outside text ls)) (suc (length ls))) (i + suc (first_outside text ls)) d) later
        where
          later : soon (ltb (first_early l.end ls) (length ls)) (suc i + (first_early l.end ls)) ((t + (l.end - l.start)) + total ls) ≡ soon (ltb (suc (first_early l.end ls)) (suc (length ls))) (i + suc (first_early l.end ls)) (t + ((l.end - l.start) + total ls))
          later =
              let e₁ : suc i + (first_early l.end ls) ≡ i + suc (first_early l.end ls) = omega arith in
              let e₂ : (t + (l.end - l.start)) + total ls ≡ t + ((l.end - l.start) + total ls) = omega arith in
              ap (λ (b' : Bool). soon b' (suc i + (first_early l.end ls)) ((t + (l.end - l.start)) + total ls)) (sym (ltb-suc (first_early l.end ls) (length ls)))
              ∙ ap (λ (z : ℕ). soon (ltb (suc (first_early l.end ls)) (suc (length ls))) z ((t + (l.end - l.start)) + total ls)) e₁
              ∙ ap (λ (z : ℕ). soon (ltb (suc (first_early l.end ls)) (suc (length ls))) (i + suc (first_early l.end ls)) z) e₂
      step false e h =
          ap (λ (y : Option ℕ). rest (length text) (suc i) (walk l.end (t + (l.end - l.start)) y) ls) (early-leb i l.start a ∙ rw e)
          ∙ late ls (suc i) i l.end (t + (l.end - l.start))
          ∙ out-next i (first_outside text ls) (length ls) _
          ∙ ap (λ (d : Found). out (ltb (suc (first_outside text ls)) (suc (length ls))) (i + suc (first_outside text ls)) d) now
        where
          now : early i ≡ soon (ltb 0 (suc (length ls))) (i + 0) (t + ((l.end - l.start) + total ls))
          now =
              let e₁ : i ≡ i + 0 = omega arith in
              ap (λ (z : ℕ). early z) e₁
              ∙ ap (λ (b' : Bool). soon b' (i + 0) (t + ((l.end - l.start) + total ls))) (sym (lt-ltb 0 (suc (length ls)) (omega arith)))

      go : (b e : Bool) → leb a l.start ≡ e
          → rest (length text) (suc i) (walk l.end (t + (l.end - l.start)) None) ls ≡ out (ltb (first_outside text ls) (length ls)) (suc i + first_outside text ls) (soon (ltb (first_early l.end ls) (length ls)) (suc i + first_early l.end ls) ((t + (l.end - l.start)) + total ls))
          → ◌≡◌ {A = Found} (elim b [ true ↦ rest (length text) (suc i) (walk l.end (t + (l.end - l.start)) (early_of None i l.start a)) ls | false ↦ outside i ])
          (out (ltb (next b (first_outside text ls)) (suc (length ls))) (i + next b (first_outside text ls)) (soon (ltb (next e (first_early l.end ls)) (suc (length ls))) (i + next e (first_early l.end ls)) (t + ((l.end - l.start) + total ls))))
      go true e h f = step e h f
      go false e h f = out-here i (length ls) _

  -- the whole walk
  pub rest-checked : (ls : List Line) → rest (length text) 0 (walk 0 0 None) ls ≡ checked_lines text ls
  unfolding checked_lines
  rest-checked ls = rw (zero-add (first_outside text ls), zero-add (first_early 0 ls), zero-add (total ls)) at (on-time ls 0 0 0)

-- the loop's invariant, behind i lines
pub record Going (text : List ℕ) (ls : List Line) (w : LineWalk) (i : ℕ) : Type 0 where
  pub same : rest (length text) i w (drop i ls) ≡ checked_lines text ls
  pub low : w.total ≤ i * 1048576

module _ {text : List ℕ} {ls : List Line} where
  pub going_first : Going text ls (record { end = 0; total = 0; early = None }) 0
  going_first = record { same = rest-checked text ls; low = omega arith }

module _ {text : List ℕ} {ls : List Line} {i : ℕ} {w : LineWalk} (g : Going text ls w i) where
  -- a line is left
  module _ (some : i < length ls) {l : Line} (is : l ≡ get_or ls i none) {d : Result LineWalk Refusal} (walks : d ≡ line_of (length text) w i l) where
    here : rest (length text) i w (l ∷ drop (suc i) ls) ≡ checked_lines text ls
    here = ap (λ (ms : List Line). rest (length text) i w ms) (sym (drop-cons ls i none some ∙ ap (λ (x : Line). x ∷ drop (suc i) ls) (sym is))) ∙ g.same

    pub going_on : length text ≤ 1048576 → {next : LineWalk} → d ≡ Ok next → Going text ls next (i + 1)
    unfolding rest
    going_on small {next} e =
        subst (λ (k : ℕ). Going text ls next k) (sym (add-one i)) (go (leb l.start l.end) refl (leb l.end (length text)) refl (sym walks ∙ e))
      where
        go : (p : Bool) → leb l.start l.end ≡ p → (q : Bool) → leb l.end (length text) ≡ q
            → ◌≡◌ {A = Result LineWalk Refusal} (elim (p && q) [ true ↦ Ok (onward w i l) | false ↦ Err (refusal.Outside i) ]) (Ok next)
            → Going text ls next (suc i)
        go true p true q e =
            let z : next ≡ onward w i l = cc in
            subst (λ (v : LineWalk). Going text ls v (suc i)) (sym z)
            (record {
              same = rw (p, q, rest) at here;
              low = omega (arith, g.low, leb-true l.start l.end p, leb-true l.end (length text) q, small);
            })
        go true p false q e = cc
        go false p q r e = cc

    pub going_out : {r : Refusal} → d ≡ Err r → Err r ≡ checked_lines text ls
    unfolding rest
    going_out {r} e = go (leb l.start l.end) refl (leb l.end (length text)) refl (sym walks ∙ e)
      where
        go : (p : Bool) → leb l.start l.end ≡ p → (q : Bool) → leb l.end (length text) ≡ q
            → ◌≡◌ {A = Result LineWalk Refusal} (elim (p && q) [ true ↦ Ok (onward w i l) | false ↦ Err (refusal.Outside i) ]) (Err r)
            → ◌≡◌ {A = Found} (Err r) (checked_lines text ls)
        go true p true q e = cc
        go true p false q e = let z : r ≡ refusal.Outside i = cc in ap (λ (d : Refusal). Err d) z ∙ rw (p, q, rest) at here
        go false p q h e = let z : r ≡ refusal.Outside i = cc in ap (λ (d : Refusal). Err d) z ∙ rw (p, rest) at here

  pub going_end : length ls ≤ i → ended_of w.early w.total ≡ checked_lines text ls
  unfolding rest
  going_end h = ap (λ (ms : List Line). rest (length text) i w ms) (sym (drop_of_length-le ls h)) ∙ g.same

-- fed lines have no more bytes than the text
pub checked_small : (text : List ℕ) (ls : List Line) → length text ≤ 1048576 → (r : Found) → r ≡ checked_lines text ls → IfOk r (λ n. n ≤ 2 ^ 40)
unfolding checked_lines
checked_small text ls small r e =
    subst (λ (z : Found). IfOk z (λ n. n ≤ 2 ^ 40)) (sym e) (go (ltb (first_outside text ls) (length ls)) refl (ltb (first_early 0 ls) (length ls)) refl)
  where
    go : (p : Bool) → ltb (first_outside text ls) (length ls) ≡ p → (q : Bool) → ltb (first_early 0 ls) (length ls) ≡ q
        → IfOk (elim p [ true ↦ outside (first_outside text ls) | false ↦ elim q [ true ↦ early (first_early 0 ls) | false ↦ fed (total ls) ] ]) (λ n. n ≤ 2 ^ 40)
    go true p q r = tt
    go false p true q = tt
    go false p false q = omega (arith, rising-total text 0 ls (omega arith) (rising text 0 ls p q), small)
