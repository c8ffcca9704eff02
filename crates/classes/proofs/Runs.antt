-- The laws of runs.
use Prim.Native.Nat.{ℕ, suc, ◌≤◌}
use mathlib.Core.Path.{◌≡◌, refl}
use mathlib.Core.List.{List, [], ◌∷◌}
use mathlib.Core.Bool.{Bool, true, false}
use native.Mathlib.Nat.{zero-add, suc-add}
use native.Mathlib.Omega.{arith}
use lib.ListN.{length}
use Rattle.classes.specs.Sets.{run}

module _ (p : ℕ → Bool) where
  -- no byte
  pub run-none : run p [] ≡ 0
  unfolding run
  run-none = refl

  -- one byte at the front
  pub run-stop : (b : ℕ) (bs : List ℕ) → p b ≡ false → run p (b ∷ bs) ≡ 0
  unfolding run
  run-stop b bs e = rw e refl

  pub run_more : (b : ℕ) (bs : List ℕ) → p b ≡ true → run p (b ∷ bs) ≡ suc (run p bs)
  unfolding run
  run_more b bs e = rw (e, suc-add, zero-add) refl

  -- a run lies within the bytes
  pub run-within : (s : List ℕ) → run p s ≤ length s
  run-within [] = rw run-none (omega arith)
  run-within (b ∷ bs) = go (p b) refl (run-within bs)
    where
      go : (t : Bool) → p b ≡ t → run p bs ≤ length bs → run p (b ∷ bs) ≤ suc (length bs)
      go true e ih = rw (run_more b bs e) (omega arith)
      go false e ih = rw (run-stop b bs e) (omega arith)
