-- What holds of both branches holds of a choice: the rules are decided by tests, and their proofs go by the same tests without writing them again.
use mathlib.Core.Path.{◌≡◌, refl}
use mathlib.Core.Bool.{Bool, true, false}

pub choose : {A : Type 0} (P : A → Type 0) (b : Bool) (x y : A) → (b ≡ true → P x) → (b ≡ false → P y) → P (elim b [ true ↦ x | false ↦ y ])
choose P true x y f g = f refl
choose P false x y f g = g refl

-- two choices by one test
pub choose₂ : {A B : Type 0} (P : A → B → Type 0) (b : Bool) (x y : A) (u w : B) → (b ≡ true → P x u) → (b ≡ false → P y w)
    → P (elim b [ true ↦ x | false ↦ y ]) (elim b [ true ↦ u | false ↦ w ])
choose₂ P true x y u w f g = f refl
choose₂ P false x y u w f g = g refl
