-- The six cases of a run's length by six (document 02, L3), as the `match` of `split_hyphens` has them. They are the rule of `Dashes`, by the law
-- `by-six`.
use Rattle.std.specs.Prelude.{ℕ, ◌-◌, ◌/◌, List, [], ◌∷◌, get_or}
use Rattle.dash.specs.declared.Dashes.{Dashes}
use Rattle.dash.specs.Dashes.{dashes}

-- a run of n hyphens, two and more, by what is left of n by six
unfoldable pub six_cases : ℕ → List Dashes
six_cases n =
    -- 0: em only
    dashes (n / 3) 0
    -- 1: two en
    ∷ dashes ((n - 4) / 3) 2
    -- 2: en only
    ∷ dashes 0 (n / 2)
    -- 3: em only
    ∷ dashes (n / 3) 0
    -- 4: en only
    ∷ dashes 0 (n / 2)
    -- 5: one en
    ∷ dashes ((n - 2) / 3) 1
    ∷ []

-- the case in which r is left
unfoldable pub by_six : ℕ → ℕ → Dashes
by_six n r = get_or (six_cases n) r (dashes 0 0)
