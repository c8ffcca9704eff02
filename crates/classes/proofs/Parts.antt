-- What a slice's part and its bytes say of its length.
use Prim.Native.Nat.{ℕ, ◌-◌, ◌<◌}
use mathlib.Core.Path.{◌≡◌, sym, ◌∙◌}
use mathlib.Core.List.{List}
use native.Mathlib.Decide.{dec_lt}
use native.Mathlib.Omega.{arith}
use lib.ListN.{length, get_or, take, drop, length-drop, get_or-eq_default}
use lib.Seq.{take_all}

-- a part that goes to the end is what is left from its start on
pub part-from : (s : List ℕ) (from : ℕ) → take (length s - from) (drop from s) ≡ drop from s
part-from s from = take_all (length s - from) (drop from s) (omega (arith, length-drop from s))

-- a byte that is not 0 stands within
pub stands : (s : List ℕ) (n k : ℕ) → get_or s n 0 ≡ k → 0 < k → n < length s
stands s n k e h = go (dec_lt n (length s))
  where
    go : Dec (n < length s) → n < length s
    go (yes l) = l
    go (no l) = absurd (omega (arith, sym e ∙ get_or-eq_default s 0 {n = n} (omega arith)))
