-- Decimal numbers of a sample, with one byte behind the digits of each.
use Rattle.std.specs.Prelude.{ℕ, zero, suc, ◌+◌, ◌*◌, ◌%◌, List, [], ◌∷◌, true, false, drop}
use Rattle.std.specs.Char.{is_ascii_digit}

-- a number, and the place behind it
pub record Number : Type 0 where
  pub value : ℕ
  pub next : ℕ

-- the number that goes on at a place, with the value of its digits before it; of more than 19 digits the last 19 count
unfoldable pub digits : ℕ → ℕ → List ℕ → Number
digits value at [] = record { value = value; next = at }
digits value at (b ∷ bs) =
    elim (is_ascii_digit b) [
      | true ↦ digits (value % 1000000000000000000 * 10 + b % 16) (suc at) bs
      | false ↦ record { value = value; next = suc at }
    ]

unfoldable pub number_at : List ℕ → ℕ → Number
number_at s from = digits 0 from (drop from s)

-- so many numbers from a place on, and the place behind them
unfoldable pub numbers : ℕ → List ℕ → ℕ → List ℕ
numbers zero s at = []
numbers (suc n) s at = (number_at s at).value ∷ numbers n s (number_at s at).next

unfoldable pub behind : ℕ → List ℕ → ℕ → ℕ
behind zero s at = at
behind (suc n) s at = behind n s (number_at s at).next
