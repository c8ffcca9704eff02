-- What the contracts of the replay cite.
use Rattle.std.specs.Prelude.{ℕ, List, [], ◌∷◌, Bool, true, false, ◌&&◌, ◌==◌, nat_lt, length, take, drop}
use Rattle.std.specs.List.{list_all}
use Rattle.stored.specs.Numbers.{number_at}

-- whether numbers are as the stored ones, and the place behind these
pub record Compared : Type 0 where
  pub same : Bool
  pub next : ℕ

abbrev pub both : Bool → Compared → Compared
both t c = record { same = t && c.same; next = c.next }

-- numbers beside the stored ones from a place on
unfoldable pub same_as : List ℕ → List ℕ → ℕ → Compared
same_as [] s at = record { same = true; next = at }
same_as (x ∷ xs) s at = both (x == (number_at s at).value) (same_as xs s (number_at s at).next)

-- a room has so many stored numbers from the front, and zero behind them
unfoldable pub holds : ℕ → List ℕ → List ℕ → ℕ → Compared
holds count room s at =
    elim (nat_lt (length room) count) [
      | true ↦ record { same = false; next = at }
      | false ↦ both (list_all (λ n. n == 0) (drop count room)) (same_as (take count room) s at)
    ]
