-- The lines of two lists of numbers: how many there are, and the one at a place.
use Rattle.std.proofs.Common.{◌≡◌, ℕ, zero, suc, ◌<◌, ◌≤◌, max, List, [], ◌∷◌, length, get_or, refl, arith}
use Rattle.inline.specs.Lines.{lines_of, unpaired, none}

-- as many as the longer list has
pub lines_many : (ss es : List ℕ) → max (length ss) (length es) ≡ length (lines_of ss es)
unfolding lines_of
lines_many [] [] = refl
lines_many [] (b ∷ es) = omega (arith, lines_many [] es)
lines_many (a ∷ ss) [] = omega (arith, lines_many ss [])
lines_many (a ∷ ss) (b ∷ es) = omega (arith, lines_many ss es)

-- a start and an end
pub line_paired : (ss es : List ℕ) (i : ℕ) → i < length ss → i < length es
    → record { start = get_or ss i 0; end = get_or es i 0 } ≡ get_or (lines_of ss es) i none
unfolding lines_of
line_paired [] es i h l = absurd (omega arith)
line_paired (a ∷ ss) [] i h l = absurd (omega arith)
line_paired (a ∷ ss) (b ∷ es) zero h l = refl
line_paired (a ∷ ss) (b ∷ es) (suc i) h l = line_paired ss es i (omega arith) (omega arith)

-- one without the other
pub line_unpaired : (ss es : List ℕ) (i : ℕ) → i < length (lines_of ss es) → (i < length ss → length es ≤ i)
    → unpaired ≡ get_or (lines_of ss es) i none
unfolding lines_of
line_unpaired [] [] i h l = absurd (omega arith)
line_unpaired [] (b ∷ es) zero h l = refl
line_unpaired [] (b ∷ es) (suc i) h l = line_unpaired [] es i (omega arith) (λ z. absurd (omega arith))
line_unpaired (a ∷ ss) [] zero h l = refl
line_unpaired (a ∷ ss) [] (suc i) h l = line_unpaired ss [] i (omega arith) (λ z. omega arith)
line_unpaired (a ∷ ss) (b ∷ es) zero h l = absurd (omega (arith, l (omega arith)))
line_unpaired (a ∷ ss) (b ∷ es) (suc i) h l = line_unpaired ss es i (omega arith) (λ z. omega (arith, l (omega arith)))
