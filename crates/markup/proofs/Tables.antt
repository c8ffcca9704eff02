-- Laws of the tables: what holds of every row holds of what is found, and both tables of elements have the same containers.
use Prim.Native.Nat.{ℕ}
use mathlib.Core.Path.{◌≡◌, refl, sym, ◌∙◌}
use mathlib.Core.List.{List, [], ◌∷◌}
use mathlib.Core.Bool.{Bool, true, false}
use Rattle.std.proofs.Common.{arith, rules}
use borrow.Author.Tests.{eqb-true, eqb-false}
use lib.Dec.{eqb}
use Rattle.classes.specs.Classes.{bytes}
use Rattle.markup.specs.Markup.{Row, find, opening, closing}

pub equal : (a b : ℕ) → Dec (a ≡ b)
equal a b = go (eqb a b) refl
  where
    go : (t : Bool) → eqb a b ≡ t → Dec (a ≡ b)
    go true e = yes (eqb-true a b e)
    go false e = no (eqb-false a b e)

unfoldable pub All : (Row → Type 0) → List Row → Type 0
All P [] = Unit {0}
All P (r ∷ rs) = P r × All P rs

-- what is found is a row's, or nothing
pub found : (Q : List ℕ → Type 0) (n : ℕ) (rs : List Row) → All (λ (r : Row). n ≡ r.number → Q r.bytes) rs → Q [] → Q (find n rs)
unfolding All find
found Q n [] all none = none
found Q n (r ∷ rs) all none = go (eqb n r.number) refl (found Q n rs all.1 none)
  where
    go : (t : Bool) → eqb n r.number ≡ t → Q (find n rs) → Q (elim t [ true ↦ r.bytes | false ↦ find n rs ])
    go true e q = all.0 (eqb-true n r.number e)
    go false e q = q

-- of any property of rows
pub every : (P Q : Row → Type 0) (rs : List Row) → All P rs → ((r : Row) → P r → Q r) → All Q rs
unfolding All
every P Q [] all f = tt
every P Q (r ∷ rs) all f = (f r all.0, every P Q rs all.1 f)

-- something, if there is any byte
unfoldable pub if_any : {A : Type 0} → List ℕ → A → List A
if_any [] a = []
if_any (b ∷ bs) a = a ∷ []

unfoldable pub among : ℕ → List Row → Bool
among n [] = false
among n (r ∷ rs) = elim (eqb n r.number) [ true ↦ true | false ↦ among n rs ]

unfoldable Some : List ℕ → Type 0
Some [] = ⊥
Some (b ∷ bs) = Unit {0}

unfoldable chosen : {A : Type 0} → Bool → A → List A
chosen true a = a ∷ []
chosen false a = []

any_found : {A : Type 0} (a : A) (n : ℕ) (rs : List Row) → All (λ (r : Row). Some r.bytes) rs → if_any (find n rs) a ≡ chosen (among n rs) a
unfolding All find among if_any Some chosen
any_found a n [] all = refl
any_found a n (r ∷ rs) all = grind (arith, any_found a n rs all.1, all.0)

-- a container that is opened by a tag is closed by one, and no other is
pub same-containers : {A : Type 0} (a : A) (k : ℕ) → if_any (find k closing) a ≡ if_any (find k opening) a
unfolding All Some among bytes opening closing
same-containers a k =
    any_found a k closing (search rules)
    ∙ sym (any_found a k opening (search rules))
