-- The loops: one byte of a text after the other, and one event after the other.
use Rattle.std.specs.Prelude.{ℕ, zero, suc, ◌+◌, ◌-◌, ◌≤◌, ◌<◌, ◌≡◌, refl, List, [], ◌∷◌, ◌++◌, length, take, drop, get_or, Some, None}
use Rattle.std.proofs.Common.{arith, sym, ◌∙◌, subst, length-drop, take_all}
use Rattle.std.proofs.lemmas.List.{nil_from_length}
use native.Mathlib.Numerals.{add-one}
use Rattle.reading.specs.declared.Event.{Event}
use Rattle.output.specs.declared.Output.{Output}
use Rattle.output.specs.Written.{Adds}
use Rattle.output.proofs.Appending.{Left, left_less, left-full, left-none}
use Rattle.listing.specs.Listing.{event_at, listed}
use Rattle.listing.proofs.Listed.{listed_next, listed-end}
use Rattle.markup.specs.Markup.{entities, escape_by, escaped, written, raw_behind, unless_raw, outside_raw}

-- bytes that are written as they are, from the front of a text
as_they_are : (n : ℕ) (text : List ℕ) → n ≤ length text → ((k : ℕ) → k < n → escape_by entities (get_or text k 0) ≡ get_or text k 0 ∷ [])
    → escaped text ≡ take n text ++ escaped (drop n text)
unfolding escaped
as_they_are zero text h p = refl
as_they_are (suc n) [] h p = absurd (omega (arith, h))
as_they_are (suc n) (b ∷ bs) h p =
    λ t. p 0 (omega arith) t ++ as_they_are n bs (omega (arith, h)) (λ k l. p (suc k) (omega (arith, l))) t

module _ {o₀ : Output} {all : List ℕ} {o : Output} where
  pub plain-turn : (text : List ℕ) → Left o₀ all o (escaped text) → (n : ℕ) (o' : Output) → n ≤ length text → Adds o (take n text) (Some tt) o'
      → ((k : ℕ) → k < n → escape_by entities (get_or text k 0) ≡ get_or text k 0 ∷ []) → Left o₀ all o' (escaped (take (length text - n) (drop n text)))
  plain-turn text x n o' h a p =
      subst (λ (l : List ℕ). Left o₀ all o' (escaped l)) (sym (take_all (length text - n) (drop n text) (omega (arith, length-drop n text))))
      (left_less (take n text) (escaped (drop n text)) o' (subst (λ (l : List ℕ). Left o₀ all o l) (as_they_are n text h p) x) a)

  -- a byte of a text, and its end
  module _ (text : List ℕ) (x : Left o₀ all o (escaped text)) where
    module _ (b : ℕ) (behind : List ℕ) (e : text ≡ b ∷ behind) where
      this : Left o₀ all o (escape_by entities b ++ escaped behind)
      unfolding escaped
      this = subst (λ (l : List ℕ). Left o₀ all o (escaped l)) e x

      pub byte-turn : (o' : Output) → Adds o (escape_by entities b) (Some tt) o' → Left o₀ all o' (escaped behind)
      byte-turn o' a = left_less (escape_by entities b) (escaped behind) o' this a

      pub byte-full : (o' : Output) → Adds o (escape_by entities b) None o' → Adds o₀ all None o'
      byte-full o' a = left-full (escape_by entities b) (escaped behind) o' this a

    pub text-end : length text ≡ 0 → Adds o₀ all (Some tt) o
    unfolding escaped
    text-end e = left-none (subst (λ (l : List ℕ). Left o₀ all o (escaped l)) (nil_from_length text e) x)

-- events, from place i on
module _ (text events : List ℕ) (k raw i : ℕ) {o₀ : Output} {all : List ℕ} {o : Output} (x : Left o₀ all o (outside_raw (written text) raw (drop i (listed k events)))) where
  module _ (h : i < k) (e : Event) (is : e ≡ event_at events i) where
    abbrev after : List ℕ
    after = outside_raw (written text) (raw_behind raw e.kind) (drop (i + 1) (listed k events))

    that : Left o₀ all o (unless_raw raw (written text e) ++ after)
    unfolding outside_raw
    that =
        subst (λ (es : List Event). Left o₀ all o (outside_raw (written text) raw es))
        (listed_next events k i h ∙ (λ t. sym is t ∷ drop (sym (add-one i) t) (listed k events))) x

    -- one that is written
    pub event-turn : (o' : Output) → Adds o (unless_raw raw (written text e)) (Some tt) o' → Left o₀ all o' after
    event-turn o' a = left_less (unless_raw raw (written text e)) after o' that a

    pub event-full : (o' : Output) → Adds o (unless_raw raw (written text e)) None o' → Adds o₀ all None o'
    event-full o' a = left-full (unless_raw raw (written text e)) after o' that a

  pub events-end : k ≤ i → Adds o₀ all (Some tt) o
  unfolding outside_raw
  events-end h = left-none (subst (λ (es : List Event). Left o₀ all o (outside_raw (written text) raw es)) (listed-end events k i h) x)
