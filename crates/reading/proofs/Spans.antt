-- The spans of the queue run forward up to a place, and between two of them lie only bytes that need no span. Which bytes those are is a
-- parameter.
use Prim.Native.Nat.{ℕ, zero, suc, ◌+◌, ◌-◌, ◌≤◌, ◌<◌}
use mathlib.Core.Path.{◌≡◌, refl, sym, ap, subst}
use mathlib.Core.List.{List, [], ◌∷◌, ◌++◌, map}
use mathlib.Core.Logic.{◌⊎◌, inl, inr, ⊎_elim}
use native.Mathlib.Decide.{dec_lt}
use native.Mathlib.Omega.{arith}
use lib.ListN.{length, take, drop, take-append-drop}
use Rattle.reading.specs.declared.Line.{Line}
use Rattle.reading.specs.declared.Event.{Event}
use Rattle.reading.specs.declared.Home.{Home}
use Rattle.reading.specs.Events.{becomes, becomes_to, shorter}
use Rattle.reading.specs.Machine.{amend, amend_last}
use Rattle.reading.specs.Walked.{Of}
use Rattle.reading.proofs.Removed.{span_of}

-- a byte of one of two lists of lines
pub of_left : (a b : List Line) (i : ℕ) → Of a i → Of (a ++ b) i
unfolding Of
of_left (l ∷ a) b i (inl x) = inl x
of_left (l ∷ a) b i (inr x) = inr (of_left a b i x)
of_left [] b i x = absurd x

pub of_right : (a b : List Line) (i : ℕ) → Of b i → Of (a ++ b) i
unfolding Of
of_right [] b i x = x
of_right (l ∷ a) b i x = inr (of_right a b i x)

pub of_parts : (a b : List Line) (i : ℕ) → Of (a ++ b) i → Of a i ⊎ Of b i
unfolding Of
of_parts [] b i x = inr x
of_parts (l ∷ a) b i (inl x) = inl (inl x)
of_parts (l ∷ a) b i (inr x) = ⊎_elim (λ (y : Of a i). inl (inr y)) (λ (y : Of b i). inr y) (of_parts a b i x)

-- whether a byte is of some lines
pub of-dec : (ls : List Line) (i : ℕ) → Dec (Of ls i)
unfolding Of
of-dec [] i = no (λ o. o)
of-dec (l ∷ ls) i = go (of-dec ls i) (dec_lt i l.start) (dec_lt i l.end)
  where
    go : Dec (Of ls i) → Dec (i < l.start) → Dec (i < l.end) → Dec (((l.start ≤ i) × (i < l.end)) ⊎ Of ls i)
    go (yes o) a b = yes (inr o)
    go (no c) (yes a) b = no (λ o. ⊎_elim (λ (z : (l.start ≤ i) × (i < l.end)). omega (arith, a, z.0)) c o)
    go (no c) (no a) (yes b) = yes (inl (omega (arith, a), b))
    go (no c) (no a) (no b) = no (λ o. ⊎_elim (λ (z : (l.start ≤ i) × (i < l.end)). b z.1) c o)

-- where it does not matter, no byte needs a span
abbrev pub Any : ℕ → Type 0
Any i = Unit {0}

module _ (Loose : ℕ → Type 0) where
  -- from a to before b no byte needs a span
  pub record Gap (a b : ℕ) : Type 0 where
    pub up : a ≤ b
    pub loose : (i : ℕ) → a ≤ i → i < b → Loose i

  unfoldable pub Covers : ℕ → List Event → ℕ → Type 0
  Covers a [] b = Gap a b
  Covers a (e ∷ es) b = Gap a e.start.0 × (e.start.0 ≤ e.end.0) × Covers e.end.0 es b

  pub gap-none : (a : ℕ) → Gap a a
  gap-none a = record { up = omega arith; loose = λ i l h. absurd (omega arith) }

  pub gap_same : (a b : ℕ) → a ≡ b → Gap a b
  gap_same a b e = record { up = omega arith; loose = λ i l h. absurd (omega arith) }

  pub gap-join : (a b c : ℕ) → Gap a b → Gap b c → Gap a c
  gap-join a b c g h = record { up = omega (arith, g.up, h.up); loose = λ i l u. at i l u (dec_lt i b) }
    where
      at : (i : ℕ) → a ≤ i → i < c → Dec (i < b) → Loose i
      at i l u (yes s) = g.loose i l s
      at i l u (no n) = h.loose i (omega arith) u

  pub covers_up : (a : ℕ) (es : List Event) (b : ℕ) → Covers a es b → a ≤ b
  unfolding Covers
  covers_up a [] b c = c.up
  covers_up a (e ∷ es) b c = omega (arith, c.0.up, c.1, covers_up e.end.0 es b c.2)

  -- a gap before, and behind
  pub covers-before : (a b : ℕ) (es : List Event) (c : ℕ) → Gap a b → Covers b es c → Covers a es c
  unfolding Covers
  covers-before a b [] c g h = gap-join a b c g h
  covers-before a b (e ∷ es) c g h = (gap-join a b e.start.0 g h.0, h.1, h.2)

  pub covers-append : (a : ℕ) (es : List Event) (b : ℕ) (fs : List Event) (c : ℕ) → Covers a es b → Covers b fs c → Covers a (es ++ fs) c
  unfolding Covers
  covers-append a [] b fs c g h = covers-before a b fs c g h
  covers-append a (e ∷ es) b fs c g h = (g.0, g.1, covers-append e.end.0 es b fs c g.2 h)

  pub covers-after : (a : ℕ) (es : List Event) (b c : ℕ) → Covers a es b → Gap b c → Covers a es c
  unfolding Covers
  covers-after a [] b c h g = gap-join a b c h g
  covers-after a (e ∷ es) b c h g = (h.0, h.1, covers-after e.end.0 es b c h.2 g)

  pub covers_one : (e : Event) → e.start.0 ≤ e.end.0 → Covers e.start.0 (e ∷ []) e.end.0
  unfolding Covers
  covers_one e h = (gap-none _, h, gap-none _)

  -- two parts: the first up to where its last span ends
  pub record Parted (a : ℕ) (es fs : List Event) (b : ℕ) : Type 0 where
    pub mid : ℕ
    pub first : Covers a es mid
    pub second : Covers mid fs b

  pub covers-parts : (a : ℕ) (es fs : List Event) (b : ℕ) → Covers a (es ++ fs) b → Parted a es fs b
  unfolding Covers
  covers-parts a [] fs b c = record { mid = a; first = gap-none a; second = c }
  covers-parts a (e ∷ es) fs b c =
      let p = covers-parts e.end.0 es fs b c.2 in
      record { mid = p.mid; first = (c.0, c.1, p.first); second = p.second }

  -- another kind and home for one event
  pub covers-amend : (kind : ℕ) (h : Home) (i a : ℕ) (es : List Event) (b : ℕ) → Covers a es b → Covers a (amend (becomes kind h) i es) b
  unfolding Covers amend
  covers-amend kind h i a [] b c = c
  covers-amend kind h zero a (e ∷ es) b c = c
  covers-amend kind h (suc i) a (e ∷ es) b c = (c.0, c.1, covers-amend kind h i e.end.0 es b c.2)

  -- the events up to the n-th, which now goes to c
  pub covers-to : (kind : ℕ) (h : Home) (n a : ℕ) (es : List Event) (b c : ℕ) → n < length es → b ≤ c → Covers a es b
      → Covers a (take (suc n) (amend (becomes_to kind h c) n es)) c
  unfolding Covers amend
  covers-to kind h n a [] b c l u k = absurd (omega arith)
  covers-to kind h zero a (e ∷ es) b c l u k = (k.0, omega (arith, k.1, covers_up e.end.0 es b k.2), gap-none c)
  covers-to kind h (suc n) a (e ∷ es) b c l u k = (k.0, k.1, covers-to kind h n e.end.0 es b c (omega arith) u k.2)

  -- events under which every byte is loose
  pub covers-loose : (a : ℕ) (es : List Event) (b : ℕ) → Covers a es b → ((i : ℕ) → Of (map span_of es) i → Loose i) → Gap a b
  unfolding Covers Of
  covers-loose a [] b c f = c
  covers-loose a (e ∷ es) b c f =
      gap-join a e.start.0 b c.0
      (gap-join e.start.0 e.end.0 b
      (record { up = c.1; loose = λ i l u. f i (inl (l, u)) })
      (covers-loose e.end.0 es b c.2 (λ i o. f i (inr o))))

  -- and so a cut is a gap
  pub covers-cut : (n a : ℕ) (es : List Event) (b : ℕ) → Covers a es b → ((i : ℕ) → Of (map span_of (drop n es)) i → Loose i)
      → Covers a (take n es) b
  covers-cut n a es b c f =
      let p = covers-parts a (take n es) (drop n es) b (subst (λ (l : List Event). Covers a l b) (sym (take-append-drop n es)) c) in
      covers-after a (take n es) p.mid b p.first (covers-loose p.mid (drop n es) b p.second f)

  -- the last event n bytes shorter
  pub covers-same : (a : ℕ) (es : List Event) (b : ℕ) → Covers a es b → Covers a (amend_last (shorter 0) es) b
  unfolding Covers amend_last
  covers-same a [] b c = c
  covers-same a (e ∷ []) b c = let z : e.end.0 - 0 ≡ e.end.0 = omega arith in rw z c
  covers-same a (e ∷ f ∷ es) b c = (c.0, c.1, covers-same e.end.0 (f ∷ es) b c.2)

  pub covers-shorter : (n a : ℕ) (es : List Event) (e : Event) (b : ℕ) → e.start.0 + n ≤ e.end.0 → e.end.0 ≡ b
      → Covers a (es ++ e ∷ []) b → Covers a (es ++ shorter n e ∷ []) (b - n)
  unfolding Covers
  covers-shorter n a es e b w z c =
      let p = covers-parts a es (e ∷ []) b c in
      covers-append a es p.mid (shorter n e ∷ []) (b - n) p.first
      (p.second.0, omega arith, subst (λ (m : ℕ). Gap (e.end.0 - n) (m - n)) z (gap-none (e.end.0 - n)))

pub amend-last-end : (f : Event → Event) (es : List Event) (e : Event) → amend_last f (es ++ e ∷ []) ≡ es ++ f e ∷ []
unfolding amend_last
amend-last-end f [] e = refl
amend-last-end f (g ∷ []) e = refl
amend-last-end f (g ∷ h ∷ es) e = ap (λ (l : List Event). g ∷ l) (amend-last-end f (h ∷ es) e)

pub length-amend : (f : Event → Event) (i : ℕ) (es : List Event) → length (amend f i es) ≡ length es
unfolding amend
length-amend f i [] = refl
length-amend f zero (e ∷ es) = refl
length-amend f (suc i) (e ∷ es) = ap suc (length-amend f i es)

pub length-amend-last : (f : Event → Event) (es : List Event) → length (amend_last f es) ≡ length es
unfolding amend_last
length-amend-last f [] = refl
length-amend-last f (e ∷ []) = refl
length-amend-last f (e ∷ g ∷ es) = ap suc (length-amend-last f (g ∷ es))

pub take-few : (n : ℕ) (l : List Event) → length (take n l) ≤ length l
take-few zero l = omega arith
take-few (suc n) [] = omega arith
take-few (suc n) (e ∷ l) = omega (arith, take-few n l)
