-- What the small functions answer: rules, dollars, kinds, and the token ahead.
use Prim.Native.Nat.{ℕ}
use mathlib.Core.Path.{◌≡◌, refl}
use mathlib.Core.List.{List}
use mathlib.Core.Bool.{false, ◌&&◌}
use native.Mathlib.Omega.{arith}
use Rattle.std.specs.List.{list_all}
use Rattle.std.proofs.lemmas.List.Recursion.{same_from_clauses}
use lib.ListN.{length, take}
use lib.Seq.{take_all}
use Rattle.classes.specs.Classes.{blank}
use Rattle.reading.specs.declared.Event.{Event}
use Rattle.reading.specs.declared.Verbatim.{Verbatim}
use Rattle.reading.specs.Verbatim.{kept, all_blank}

-- how many events are kept
pub kept-all : (w : Verbatim) (q : List Event) (n : ℕ) → length q ≡ n → w.run ≡ false → take n q ≡ kept w q
unfolding kept
kept-all w q n l e = rw (e, kept) (take_all n q (omega (arith, l)))

-- whether all bytes are blank, told by the library's test of a list
pub all_blank_is : (s : List ℕ) → list_all blank s ≡ all_blank s
unfolding all_blank
all_blank_is s = same_from_clauses (list_all blank) all_blank (λ b r. blank b && r) refl (λ b bs. refl) (λ b bs. refl) s
