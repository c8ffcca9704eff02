-- Draining keeps the walk and the cover, and makes the list no longer. And what a cover says of each byte.
use Prim.Native.Nat.{ℕ, suc, ◌+◌, ◌≤◌, ◌<◌}
use mathlib.Core.Path.{◌≡◌, refl, subst}
use mathlib.Core.List.{List, [], ◌∷◌}
use mathlib.Core.Bool.{true, ◌&&◌}
use mathlib.Core.Logic.{◌⊎◌, inl, inr}
use native.Mathlib.Nat.{zero-add}
use native.Mathlib.Decide.{dec_lt}
use native.Mathlib.Omega.{arith}
use borrow.Author.Tests.{eqb-true, eq-eqb, le-leb, lt-leb, lt-ltb, le-ltb}
use lib.Dec.{eqb, leb, ltb}
use lib.ListN.{length}
use Rattle.classes.specs.Classes.{bit}
use Rattle.reading.specs.declared.Event.{Event}
use Rattle.reading.specs.Events.{home_of, str}
use Rattle.reading.specs.Draining.{flushed, touches, drained}
use Rattle.reading.specs.Walked.{Tag, Walk, opening, closing, neither, walk_by, walk_of, Matches, Ordered, under}
use Rattle.reading.proofs.Choose.{choose}
use Rattle.reading.proofs.Spans.{Gap, Covers, gap-none, covers-before}
use Rattle.reading.proofs.Queue.{walks}

-- fewer, or as many
flushed-few : (a b : ℕ) (es : List Event) → length (flushed a b es) ≤ suc (length es)
unfolding flushed
flushed-few a b es = choose (λ (l : List Event). length l ≤ suc (length es)) (eqb a b) _ _ (λ e. omega arith) (λ e. omega arith)

flushed-none : (a : ℕ) (es : List Event) → flushed a a es ≡ es
unfolding flushed
flushed-none a es = rw (eq-eqb a a refl, flushed)

drained-few : (a b : ℕ) (es : List Event) → (length (drained a b es) ≤ suc (length es)) × (length (drained b b es) ≤ length es)
unfolding drained
drained-few a b [] = (flushed-few a b [], rw (flushed-none b []) (omega arith))
drained-few a b (e ∷ es) = (
  choose (λ (l : List Event). length l ≤ suc (suc (length es))) (eqb e.kind str) _ _
      (λ x. choose (λ (l : List Event). length l ≤ suc (suc (length es))) (touches b e) _ _
      (λ y. omega (arith, (drained-few a e.end.0 es).0))
      (λ y. omega (arith, flushed-few a b (drained e.start.0 e.end.0 es), (drained-few e.start.0 e.end.0 es).0)))
      (λ x. omega (arith, flushed-few a b (e ∷ drained e.end.0 e.end.0 es), (drained-few 0 e.end.0 es).1)),
  choose (λ (l : List Event). length l ≤ suc (length es)) (eqb e.kind str) _ _
      (λ x. choose (λ (l : List Event). length l ≤ suc (length es)) (touches b e) _ _
      (λ y. (drained-few b e.end.0 es).0)
      (λ y. rw (flushed-none b (drained e.start.0 e.end.0 es)) (drained-few e.start.0 e.end.0 es).0))
      (λ x. rw (flushed-none b (e ∷ drained e.end.0 e.end.0 es)) (omega (arith, (drained-few 0 e.end.0 es).1))),
)

-- the same matches
kept-walk : (w : Walk) (a b : List Walk) (ts : List Tag) → ((us : List Tag) → Matches a us → Matches b us) → Matches (w ∷ a) ts → Matches (w ∷ b) ts
unfolding Matches
kept-walk neither a b ts f m = f ts m
kept-walk (opening t) a b ts f m = f (t ∷ ts) m
kept-walk (closing t) a b [] f m = m
kept-walk (closing t) a b (u ∷ ts) f m = (m.0, f ts m.1)

flushed-walk : (a b : ℕ) (es : List Event) (ts : List Tag) → Matches (walks es) ts → Matches (walks (flushed a b es)) ts
unfolding flushed walk_by Matches
flushed-walk a b es ts m = choose (λ (l : List Event). Matches (walks l) ts) (eqb a b) _ _ (λ e. m) (λ e. m)

str-walk : (e : Event) (w : List Walk) (ts : List Tag) → eqb e.kind str ≡ true → Matches (walk_of e ∷ w) ts → Matches w ts
unfolding walk_by Matches
str-walk e w ts h m = subst (λ (k : ℕ). Matches (walk_by k (home_of e) ∷ w) ts) (eqb-true e.kind str h) m

pub drained-walk : (a b : ℕ) (es : List Event) (ts : List Tag) → Matches (walks es) ts → Matches (walks (drained a b es)) ts
unfolding drained
drained-walk a b [] ts m = flushed-walk a b [] ts m
drained-walk a b (e ∷ es) ts m =
    choose (λ (l : List Event). Matches (walks l) ts) (eqb e.kind str) _ _
    (λ x. choose (λ (l : List Event). Matches (walks l) ts) (touches b e) _ _
    (λ y. drained-walk a e.end.0 es ts (str-walk e (walks es) ts x m))
    (λ y. flushed-walk a b _ ts (drained-walk e.start.0 e.end.0 es ts (str-walk e (walks es) ts x m))))
    (λ x.
    flushed-walk a b _ ts
    (kept-walk (walk_of e) (walks es) (walks (drained e.end.0 e.end.0 es)) ts (λ us n. drained-walk e.end.0 e.end.0 es us n) m))

pub drain-few : (q : List Event) → length (drained 0 0 q) ≤ length q
drain-few q = (drained-few 0 0 q).1

module _ (Loose : ℕ → Type 0) where
  flushed-covers : (p a b : ℕ) (es : List Event) (c : ℕ) → Gap Loose p a → a ≤ b → Covers Loose b es c → Covers Loose p (flushed a b es) c
  unfolding flushed Covers
  flushed-covers p a b es c g l h =
      choose (λ (f : List Event). Covers Loose p f c) (eqb a b) _ _
      (λ e. covers-before Loose p b es c (subst (λ (n : ℕ). Gap Loose p n) (eqb-true a b e) g) h)
      (λ e. (g, l, h))

  pub drained-covers : (p a b : ℕ) (es : List Event) (c : ℕ) → Gap Loose p a → a ≤ b → Covers Loose b es c → Covers Loose p (drained a b es) c
  unfolding drained Covers
  drained-covers p a b [] c g l h = flushed-covers p a b [] c g l h
  drained-covers p a b (e ∷ es) c g l h =
      choose (λ (f : List Event). Covers Loose p f c) (eqb e.kind str) _ _
      (λ x. choose (λ (f : List Event). Covers Loose p f c) (touches b e) _ _
      (λ y. drained-covers p a e.end.0 es c g (omega (arith, h.0.up, h.1, l)) h.2)
      (λ y. flushed-covers p a b _ c g l (drained-covers b e.start.0 e.end.0 es c h.0 h.1 h.2)))
      (λ x.
      flushed-covers p a b _ c g l
      (h.0, h.1, drained-covers e.end.0 e.end.0 e.end.0 es c (gap-none Loose e.end.0) (omega arith) h.2))

  -- a cover is in order
  pub covers-ordered : (a : ℕ) (es : List Event) (b : ℕ) → Covers Loose a es b → Ordered a es b
  unfolding Covers Ordered
  covers-ordered a [] b c = c.up
  covers-ordered a (e ∷ es) b c = (c.0.up, c.1, covers-ordered e.end.0 es b c.2)

  -- a byte before it is under no span
  under_none : (i a : ℕ) (es : List Event) (b : ℕ) → Covers Loose a es b → i < a → under i es ≡ 0
  unfolding Covers under
  under_none i a [] b c l = refl
  under_none i a (e ∷ es) b c l =
      rw (lt-leb e.start.0 i (omega (arith, l, c.0.up)), under_none i e.end.0 es b c.2 (omega (arith, l, c.0.up, c.1)))

  -- a byte of it is under one, or loose and under none
  pub under_one : (i a : ℕ) (es : List Event) (b : ℕ) → Covers Loose a es b → a ≤ i → i < b → (under i es ≡ 1) ⊎ ((under i es ≡ 0) × Loose i)
  unfolding Covers under
  under_one i a [] b c l u = inr (refl, c.loose i l u)
  under_one i a (e ∷ es) b c l u = go (dec_lt i e.start.0) (dec_lt i e.end.0) (λ h. under_one i e.end.0 es b c.2 h u)
    where
      rest : ℕ
      rest = under i es

      go : Dec (i < e.start.0) → Dec (i < e.end.0) → (e.end.0 ≤ i → (under i es ≡ 1) ⊎ ((under i es ≡ 0) × Loose i))
          → (bit (leb e.start.0 i && ltb i e.end.0) + under i es ≡ 1) ⊎ ((bit (leb e.start.0 i && ltb i e.end.0) + under i es ≡ 0) × Loose i)
      go (yes s) t f =
          inr (rw (lt-leb e.start.0 i s, under_none i e.end.0 es b c.2 (omega (arith, s, c.1))), c.0.loose i l s)
      go (no s) (yes t) f =
          inl (rw (le-leb e.start.0 i (omega arith), lt-ltb i e.end.0 t, under_none i e.end.0 es b c.2 t))
      go (no s) (no t) f = rw (le-leb e.start.0 i (omega arith), le-ltb i e.end.0 (omega arith)) (simp zero-add (f (omega arith)))
