-- A step goes by few bytes: the marks that tables name, and whether another byte is of a name, is blank, or is neither. So what holds of every state
-- at twelve bytes, which is computed, holds at every byte.
use Prim.Native.Nat.{ℕ}
use mathlib.Core.Path.{◌≡◌, refl, sym, ap, ◌∙◌}
use mathlib.Core.List.{List, [], ◌∷◌}
use mathlib.Core.Bool.{Bool, true, false, not, and-eq-true_iff}
use borrow.Author.Tests.{eqb-true, not-true}
use lib.Dec.{eqb}
use Rattle.classes.specs.Classes.{bytes, among, blank, alphanumeric}
use Rattle.attr.specs.declared.attr.State.{State}
use Rattle.attr.specs.declared.attr.State.TheVariants as state
use Rattle.attr.specs.Attributes.{Row, name, by, step}
use Rattle.attr.proofs.States.{all, states, every}

-- what holds of all of some bytes holds of each
found : (f : ℕ → Bool) (ks : List ℕ) → all f ks ≡ true → (c : ℕ) → among ks c ≡ true → f c ≡ true
unfolding all among
found f [] e c h = cc
found f (k ∷ ks) e c h = go (eqb c k) refl (λ r. found f ks both.1 c r)
  where
    both : (f k ≡ true) × (all f ks ≡ true)
    both = (and-eq-true_iff (f k) (all f ks)).0 e

    go : (x : Bool) → eqb c k ≡ x → (among ks c ≡ true → f c ≡ true) → f c ≡ true
    go true q more = rw (eqb-true c k q) both.0
    go false q more = more (rw q at h)

-- the marks, and the bytes that stand for all
unfoldable pub marks : List ℕ
unfolding bytes
marks = bytes "{}.#%=\"\\\n"

unfoldable pub reps : List ℕ
unfolding bytes
reps = bytes "{}.#%=\"\\\na $"

-- two bytes that every table treats alike, of which the second is one of the twelve
pub record Alike (c d : ℕ) : Type 0 where
  pub mark : (k : ℕ) → among marks k ≡ true → eqb c k ≡ eqb d k
  pub named : name c ≡ name d
  pub blanks : blank c ≡ blank d
  pub stands : among reps d ≡ true

-- another byte is no mark
off : (c k : ℕ) → among marks c ≡ false → among marks k ≡ true → eqb c k ≡ false
off c k h m = go (eqb c k) refl
  where
    go : (x : Bool) → eqb c k ≡ x → eqb c k ≡ false
    go true q = let same = eqb-true c k q in cc
    go false q = q

-- a byte of a name is not blank
unnamed : all (λ k. not (name k)) (bytes " \t\n\u{c}\r") ≡ true
unfolding all name bytes among alphanumeric
unnamed = refl

blank-unnamed : (c : ℕ) → blank c ≡ true → name c ≡ false
unfolding blank
blank-unnamed c h = not-true (name c) (found (λ k. not (name k)) (bytes " \t\n\u{c}\r") unnamed c h)

apart : (c : ℕ) → name c ≡ true → blank c ≡ false
apart c h = go (blank c) refl
  where
    go : (x : Bool) → blank c ≡ x → blank c ≡ false
    go true q = let none = blank-unnamed c q in cc
    go false q = q

pub alike : (c : ℕ) → (d : ℕ) × Alike c d
unfolding marks reps all bytes among alphanumeric name blank
alike c = go (among marks c) refl (name c) refl (blank c) refl
  where
    other : (d : ℕ) → among marks c ≡ false → among marks d ≡ false → (k : ℕ) → among marks k ≡ true → eqb c k ≡ eqb d k
    other d h g k m = off c k h m ∙ sym (off d k g m)

    go : (m : Bool) → among marks c ≡ m → (n : Bool) → name c ≡ n → (b : Bool) → blank c ≡ b → (d : ℕ) × Alike c d
    go true m n _ b _ = (c, record { mark = λ k h. refl; named = refl; blanks = refl; stands = found (among reps) marks refl c m })
    go false m true n b _ = (97, record { mark = other 97 m refl; named = n; blanks = apart c n; stands = refl })
    go false m false n true b = (32, record { mark = other 32 m refl; named = n; blanks = b; stands = refl })
    go false m false n false b = (36, record { mark = other 36 m refl; named = n; blanks = b; stands = refl })

-- the tests of a table answer alike
abbrev Same : List Row → ℕ → ℕ → Type 0
Same [] c d = Unit
Same (r ∷ rs) c d = (r.test c ≡ r.test d) × Same rs c d

by-same : (rs : List Row) (other : State) (c d : ℕ) → Same rs c d → by rs other c ≡ by rs other d
unfolding by
by-same [] other c d h = refl
by-same (r ∷ rs) other c d h = rw (h.0, by) (ap (λ (s : State). elim (r.test d) [ true ↦ r.next | false ↦ s ]) (by-same rs other c d h.1))

-- a step of alike bytes is the same
pub same_step : (c d : ℕ) → Alike c d → (s : State) → step s c ≡ step s d
unfolding step marks bytes among
same_step c d h state.Start = by-same _ _ c d (h.mark 123 refl, tt)
same_step c d h state.Whitespace = by-same _ _ c d (h.mark 125 refl, (h.mark 46 refl, (h.mark 35 refl, (h.mark 37 refl, (h.named, (h.blanks, tt))))))
same_step c d h state.CommentFirst = by-same _ _ c d (h.mark 37 refl, (h.mark 125 refl, (h.mark 10 refl, tt)))
same_step c d h state.Comment = by-same _ _ c d (h.mark 37 refl, (h.mark 125 refl, (h.mark 10 refl, tt)))
same_step c d h state.CommentNewline = by-same _ _ c d (h.mark 37 refl, (h.mark 125 refl, (h.mark 10 refl, tt)))
same_step c d h state.ClassFirst = by-same _ _ c d (h.named, tt)
same_step c d h state.Class = by-same _ _ c d (h.named, (h.blanks, (h.mark 125 refl, tt)))
same_step c d h state.IdentifierFirst = by-same _ _ c d (h.named, tt)
same_step c d h state.Identifier = by-same _ _ c d (h.named, (h.blanks, (h.mark 125 refl, tt)))
same_step c d h state.Key = by-same _ _ c d (h.named, (h.mark 61 refl, tt))
same_step c d h state.ValueFirst = by-same _ _ c d (h.named, (h.mark 34 refl, tt))
same_step c d h state.Value = by-same _ _ c d (h.named, (h.blanks, (h.mark 125 refl, tt)))
same_step c d h state.ValueQuoted = by-same _ _ c d (h.mark 34 refl, (h.mark 10 refl, (h.mark 92 refl, tt)))
same_step c d h state.ValueEscape = by-same _ _ c d (h.mark 10 refl, tt)
same_step c d h state.ValueNewline = by-same _ _ c d (h.mark 34 refl, (h.mark 10 refl, tt))
same_step c d h state.ValueContinued = by-same _ _ c d (h.mark 34 refl, (h.mark 10 refl, tt))
same_step c d h state.Done = refl
same_step c d h state.Invalid = refl

-- what is computed of every state at the twelve bytes
pub all-steps : (f : State → ℕ → Bool) → all (λ s. all (f s) reps) states ≡ true → (s : State) (d : ℕ) → among reps d ≡ true → f s d ≡ true
all-steps f e s d h = found (f s) reps (every (λ s. all (f s) reps) e s) d h
