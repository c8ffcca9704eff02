-- The laws of closing marks: two are the same if and only if they are equal.
use Rattle.std.proofs.Common.{ℕ, ◌-◌, ◌≡◌, refl, ap, sym, ◌∙◌, List, [], ◌∷◌, true, false, get_or}
use borrow.Author.Tests.{eq-eqb, ne_eqb, eqb-true}
use Rattle.std.proofs.lemmas.Bool.{true≢false}
use Rattle.reading.specs.declared.Closer.{Closer}
use Rattle.reading.specs.declared.Closer.TheVariants as closer
use Rattle.reading.specs.Closers.{number, same}

marks : List Closer
marks =
    closer.Bracket
    ∷ closer.Paren
    ∷ closer.Asterisk
    ∷ closer.BraceAsterisk
    ∷ closer.Underscore
    ∷ closer.BraceUnderscore
    ∷ closer.Caret
    ∷ closer.BraceCaret
    ∷ closer.Tilde
    ∷ closer.BraceTilde
    ∷ closer.BraceEqual
    ∷ closer.BraceHyphen
    ∷ closer.BracePlus
    ∷ closer.Quote1
    ∷ closer.Quote2
    ∷ []

mark_at : ℕ → Closer
mark_at n = get_or marks (n - 1) closer.Bracket

mark-number : (c : Closer) → mark_at (number c) ≡ c
unfolding number marks mark_at
mark-number closer.Bracket = refl
mark-number closer.Paren = refl
mark-number closer.Asterisk = refl
mark-number closer.BraceAsterisk = refl
mark-number closer.Underscore = refl
mark-number closer.BraceUnderscore = refl
mark-number closer.Caret = refl
mark-number closer.BraceCaret = refl
mark-number closer.Tilde = refl
mark-number closer.BraceTilde = refl
mark-number closer.BraceEqual = refl
mark-number closer.BraceHyphen = refl
mark-number closer.BracePlus = refl
mark-number closer.Quote1 = refl
mark-number closer.Quote2 = refl

equal : (c d : Closer) → number c ≡ number d → c ≡ d
equal c d e = sym (mark-number c) ∙ ap mark_at e ∙ mark-number d

pub same-equal : (c d : Closer) → same c d ≡ true → c ≡ d
same-equal c d e = equal c d (eqb-true (number c) (number d) e)

pub equal-same : (c d : Closer) → c ≡ d → same c d ≡ true
equal-same c d e = eq-eqb _ _ (ap number e)

pub unequal : (c d : Closer) → (c ≡ d → ⊥) → same c d ≡ false
unequal c d n = ne_eqb _ _ (λ e. n (equal c d e))

pub differ : (c d : Closer) → same c d ≡ false → c ≡ d → ⊥
differ c d f e = let z : true ≡ false = sym (equal-same c d e) ∙ f in absurd (true≢false z)
