-- Dashes and dots (document 01, "Dashes and dots"; Djot's rule on smart punctuation).
use Rattle.std.specs.Prelude.{ℕ, zero, suc, ◌*◌, ◌-◌, ◌/◌, ◌%◌, Bool, true, false, ◌&&◌, leb, ltb, eqb}
use Rattle.dash.specs.declared.Dashes.{Dashes}
use Rattle.dash.specs.declared.Dots.{Dots}

-- a run of n hyphens comes out with k en dashes where the rest is em dashes
unfoldable pub comes_out : ℕ → ℕ → Bool
comes_out n k = leb (2 * k) n && eqb ((n - 2 * k) % 3) 0

-- the first of the `more` numbers from k on with which a run of n comes out
unfoldable pub first_from : ℕ → ℕ → ℕ → ℕ
first_from n k zero = k
first_from n k (suc more) = elim (comes_out n k) [ true ↦ k | false ↦ first_from n (suc k) more ]

-- the fewest en dashes that make a run of n come out: one of the numbers from 1 to n
unfoldable pub fewest : ℕ → ℕ
fewest n = first_from n 1 n

abbrev pub dashes : ℕ → ℕ → Dashes
dashes em en = record { em = em; en = en }

-- a run of two and more: all em if 3 divides it; else all en if 2 divides it; else em first and then the fewest en that make it come out.
-- (Djot: one kind of dash where one will do, and em before en.) Fewer than two hyphens are no dash
unfoldable pub dashes_of : ℕ → Dashes
dashes_of n =
    elim (ltb n 2) [
      | true ↦ dashes 0 0
      | false ↦ elim (eqb (n % 3) 0) [
        | true ↦ dashes (n / 3) 0
        | false ↦ elim (eqb (n % 2) 0) [
          | true ↦ dashes 0 (n / 2)
          | false ↦ let k = fewest n in dashes ((n - 2 * k) / 3) k
        ]
      ]
    ]

-- each three periods are an ellipsis; the rest is text, even of no bytes
abbrev pub dots_of : ℕ → Dots
dots_of n = record { ellipses = n / 3; rest = n % 3 }
