-- The laws of a table that is looked up, and of the table of starts.
use Prim.Native.Nat.{ℕ}
use Prim.Native.Char.{code}
use mathlib.Core.Path.{◌≡◌, refl, ap, ◌∙◌}
use mathlib.Core.List.{List, [], ◌∷◌, map}
use mathlib.Core.Bool.{Bool, true, false, ◌&&◌, and-eq-true_iff}
use borrow.Author.Tests.{eqb-true}
use lib.Dec.{eqb}
use Rattle.classes.specs.Classes.{bytes, among, special}
use Rattle.lex.specs.declared.lex.Start.{Start}
use Rattle.lex.specs.declared.lex.Start.TheVariants as start
use Rattle.lex.specs.Lexer.{lookup, starts, start_of, ch_of}

module _ {A : Type 0} (d : A) where
  -- what holds of every row, and of the default at every byte, holds of what is looked up
  module _ (P : ℕ → A → Bool) where
    unfoldable pub rows : List (ℕ × A) → Bool
    rows [] = true
    rows (r ∷ rs) = P r.0 r.1 && rows rs

    pub lookup-all : (rs : List (ℕ × A)) → rows rs ≡ true → ((b : ℕ) → P b d ≡ true) → (b : ℕ) → P b (lookup d rs b) ≡ true
    unfolding lookup rows
    lookup-all [] t p b = p b
    lookup-all (r ∷ rs) t p b = go (eqb b r.0) refl (lookup-all rs ((and-eq-true_iff (P r.0 r.1) (rows rs)).0 t).1 p b)
      where
        go : (x : Bool) → eqb b r.0 ≡ x → P b (lookup d rs b) ≡ true → P b (lookup d (r ∷ rs) b) ≡ true
        go true e ih =
            rw (e, lookup) (ap (λ (k : ℕ). P k r.1) (eqb-true b r.0 e) ∙ ((and-eq-true_iff (P r.0 r.1) (rows rs)).0 t).0)
        go false e ih = rw (e, lookup) ih

-- a byte begins something other than text exactly if it is special
abbrev pub marks : Start → Bool
marks start.Text = false
marks (start.Sole k) = true
marks (start.Closing k d) = true
marks start.Brace = true
marks start.Backslash = true
marks start.Hyphen = true
marks start.Exclaim = true
marks (start.Run q) = true

-- the keys of rows that all mark are the bytes that mark
marked : (rs : List (ℕ × Start)) → rows start.Text (λ _ v. marks v) rs ≡ true → (b : ℕ) → marks (lookup start.Text rs b) ≡ among (map (λ (r : ℕ × Start). r.0) rs) b
unfolding lookup rows among
marked [] t b = refl
marked (r ∷ rs) t b = go (eqb b r.0) refl (marked rs ((and-eq-true_iff (marks r.1) (rows start.Text (λ _ v. marks v) rs)).0 t).1 b)
  where
    go : (x : Bool) → eqb b r.0 ≡ x → marks (lookup start.Text rs b) ≡ among (map (λ (r : ℕ × Start). r.0) rs) b
        → marks (lookup start.Text (r ∷ rs) b) ≡ among (map (λ (r : ℕ × Start). r.0) (r ∷ rs)) b
    go true e ih = rw (e, lookup) ((and-eq-true_iff (marks r.1) (rows start.Text (λ _ v. marks v) rs)).0 t).0
    go false e ih = rw (e, lookup) ih

pub marks-special : (b : ℕ) → marks (start_of b) ≡ special b
unfolding starts start_of special bytes rows among
marks-special b = marked starts refl b

-- the byte at the front of a sequence is the sequence's
abbrev pub own : ℕ → Start → Bool
own b start.Text = true
own b (start.Sole k) = true
own b (start.Closing k d) = true
own b start.Brace = true
own b start.Backslash = true
own b start.Hyphen = eqb b (code "-")
own b start.Exclaim = true
own b (start.Run q) = eqb b (ch_of q)

pub own-start : (b : ℕ) → own b (start_of b) ≡ true
unfolding starts start_of rows
own-start b = lookup-all start.Text own starts refl (λ _. refl) b
