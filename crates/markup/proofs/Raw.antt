-- How many raw parts are open behind an event.
use Prim.Native.Nat.{ℕ, ◌+◌, ◌≤◌}
use native.Mathlib.Omega.{arith}
use Rattle.markup.specs.Markup.{raw_behind}

module _ (n kind : ℕ) where
  pub raw-few : (i : ℕ) → n ≤ i → raw_behind n kind ≤ i + 1
  unfolding raw_behind
  raw-few i h = grind arith
