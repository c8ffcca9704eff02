-- Numbers that stand in some bytes, one behind another. Numbers that were spelled stand there, and
-- what stands there is their spelling.
use Rattle.std.proofs.lemmas.Bool.Decides.{nat_tests}
use Rattle.std.specs.Prelude.{Ok, Err}
use Prim.Native.Nat.{ℕ, ◌+◌, ◌≤◌}
use mathlib.Core.Path.{◌≡◌, refl, sym, ap, ◌∙◌, subst}
use mathlib.Core.List.{List, [], ◌∷◌, ◌++◌, append_assoc}
use mathlib.Core.Bool.{Bool, true, false}
use native.Mathlib.Omega.{arith}
use lib.ListN.{length, drop, length-append, take-append-drop}
use lib.Seq.{drop_at, drop-drop, get_or-drop}
use Rattle.groups.specs.declared.NumberError.TheVariants.{Cut, Longer, TooLarge}
use Rattle.groups.specs.Groups.{spelled, spelled_all, Front, front, placed}
use Rattle.groups.proofs.Numbers.{Bytes, limit, front-groups, front-begins}
use Rattle.packing.specs.Packed.{largest, given}
use Rattle.packing.specs.Unpacked.{Got, Reads, number_as, a_number, optional}

-- two ways to say what was read
pub same-got : {A : Type 0} (a b : A) (m n : ℕ) → ◌≡◌ {A = Got A} (Ok (a, m)) (Ok (b, n)) → (a ≡ b) × (m ≡ n)
same-got {A} a b m n e = let pair : ◌≡◌ {A = A × ℕ} (a, m) (b, n) = cc in (ap (λ (p : A × ℕ). p.0) pair, ap (λ (p : A × ℕ). p.1) pair)

-- from a place to another
unfoldable pub Stands : List ℕ → ℕ → List ℕ → ℕ → Type 0
Stands bytes at [] to = at ≡ to
Stands bytes at (n ∷ ns) to = (m : ℕ) × (a_number bytes at ≡ Ok (n, m)) × Stands bytes m ns to

-- numbers that can be written
unfoldable pub Small : List ℕ → Type 0
Small [] = Unit {0}
Small (n ∷ ns) = (n ≤ largest) × Small ns

-- spelled numbers stand there
number-stands : (a b : List ℕ) (n : ℕ) → n ≤ largest → a_number (a ++ (spelled n ++ b)) (length a) ≡ Ok (n, length a + length (spelled n))
unfolding number_as placed limit
number-stands a b n h =
    ap (λ (bs : List ℕ). number_as (length (a ++ (spelled n ++ b))) (length a) (placed (length a) (front 4 bs))) (drop_at a (spelled n ++ b) (length a) refl)
    ∙ ap (λ (f : Front). number_as (length (a ++ (spelled n ++ b))) (length a) (placed (length a) f)) (front-groups 4 n b (omega (arith, h)))

pub spelled-stands : (a b ns : List ℕ) → Small ns → Stands (a ++ (spelled_all ns ++ b)) (length a) ns (length a + length (spelled_all ns))
unfolding Stands Small spelled_all
spelled-stands a b [] s = omega arith
spelled-stands a b (n ∷ ns) s =
    let rest = spelled_all ns in
    let here : length a + length (spelled n) ≡ length (a ++ spelled n) = sym (length-append a (spelled n)) in
    let there : length (a ++ spelled n) + length rest ≡ length a + length (spelled n ++ rest) = omega (arith, length-append a (spelled n), length-append (spelled n) rest) in (
      length (a ++ spelled n),
      subst (λ (bs : List ℕ). a_number (a ++ bs) (length a) ≡ Ok (n, length (a ++ spelled n))) (sym (append_assoc (spelled n) rest b))
          (number-stands a (rest ++ b) n s.0 ∙ ap (λ (k : ℕ). Ok (n, k)) here),
      subst (λ (bs : List ℕ). Stands bs (length (a ++ spelled n)) ns (length a + length (spelled n ++ rest)))
          (append_assoc a (spelled n) (rest ++ b) ∙ ap (λ (bs : List ℕ). a ++ bs) (sym (append_assoc (spelled n) rest b)))
          (subst (Stands ((a ++ spelled n) ++ (rest ++ b)) (length (a ++ spelled n)) ns) there (spelled-stands (a ++ spelled n) b ns s.1)),
    )

-- what stands there is spelled there
number_spelled : (bytes : List ℕ) (at n to : ℕ) → Bytes bytes → a_number bytes at ≡ Ok (n, to) → (drop at bytes ≡ spelled n ++ drop to bytes) × (n ≤ largest)
unfolding number_as placed limit
number_spelled bytes at n to y e = by (front 4 (drop at bytes)) refl e
  where
    by : (f : Front) → front 4 (drop at bytes) ≡ f → number_as (length bytes) at (placed at f) ≡ Ok (n, to) → (drop at bytes ≡ spelled n ++ drop to bytes) × (n ≤ largest)
    by (Ok (m, size)) f e =
        let same = same-got m n (at + size) to e in
        let is : m ≡ n = same.0 in
        let g = front-begins 4 (drop at bytes) m size (λ i. rw (get_or-drop at bytes i 0) (y (at + i))) f in (
          sym (take-append-drop size (drop at bytes)) ∙ (λ i. (g.spelled ∙ ap spelled is) i ++ (drop-drop size at bytes ∙ ap (λ (k : ℕ). drop k bytes) same.1) i),
          omega (arith, g.small, is),
        )
    by (Err Cut) f e = cc
    by (Err Longer) f e = cc
    by (Err TooLarge) f e = cc

pub stands-spelled : (bytes : List ℕ) (at : ℕ) (ns : List ℕ) (to : ℕ) → Bytes bytes → Stands bytes at ns to
    → (drop at bytes ≡ spelled_all ns ++ drop to bytes) × Small ns
unfolding Stands Small spelled_all
stands-spelled bytes at [] to y s = grind (arith, nat_tests)
stands-spelled bytes at (n ∷ ns) to y s =
    let one = number_spelled bytes at n s.0 y s.1 in
    let rest = stands-spelled bytes s.0 ns to y s.2 in
    (one.0 ∙ ap (λ (bs : List ℕ). spelled n ++ bs) rest.0 ∙ sym (append_assoc (spelled n) (spelled_all ns) (drop to bytes)), (one.1, rest.1))

-- some numbers behind others
pub stands-append : (bytes : List ℕ) (at : ℕ) (ns ms : List ℕ) (mid to : ℕ) → Stands bytes at ns mid → Stands bytes mid ms to → Stands bytes at (ns ++ ms) to
unfolding Stands
stands-append bytes at [] ms mid to x y = subst (λ (k : ℕ). Stands bytes k ms to) (sym x) y
stands-append bytes at (n ∷ ns) ms mid to x y = (x.0, x.1, stands-append bytes x.0 ns ms mid to x.2 y)

pub stands_parts : (bytes : List ℕ) (at : ℕ) (ns ms : List ℕ) (to : ℕ) → Stands bytes at (ns ++ ms) to → (mid : ℕ) × Stands bytes at ns mid × Stands bytes mid ms to
unfolding Stands
stands_parts bytes at [] ms to x = (at, refl, x)
stands_parts bytes at (n ∷ ns) ms to x =
    let r = stands_parts bytes x.0 ns ms to x.2 in
    (r.0, (x.0, x.1, r.1), r.2)

pub small-append : (ns ms : List ℕ) → Small ns → Small ms → Small (ns ++ ms)
unfolding Small
small-append [] ms x y = y
small-append (n ∷ ns) ms x y = (x.0, small-append ns ms x.1 y)

pub small-parts : (ns ms : List ℕ) → Small (ns ++ ms) → Small ns × Small ms
unfolding Small
small-parts [] ms x = (tt, x)
small-parts (n ∷ ns) ms x = let r = small-parts ns ms x.1 in ((x.0, r.0), r.1)

-- a number that may stand there, and what p makes of it
module _ (bytes : List ℕ) (at : ℕ) (p : Reads ℕ) (n v : ℕ) (ns : List ℕ) (to : ℕ) where
  pub given-read : (b : Bool) → (b ≡ false → v ≡ 0) → ((m : ℕ) → a_number bytes at ≡ Ok (n, m) → p at ≡ Ok (v, m))
      → Stands bytes at (given b n ns) to → (m : ℕ) × (optional b p at ≡ Ok (v, m)) × Stands bytes m ns to
  unfolding Stands given optional
  given-read true z f s = (s.0, f s.0 s.1, s.2)
  given-read false z f s = (at, ap (λ (k : ℕ). Ok (k, at)) (sym (z refl)), s)

  pub read-given : (b : Bool) (m : ℕ) → (p at ≡ Ok (v, m) → a_number bytes at ≡ Ok (n, m)) → optional b p at ≡ Ok (v, m) → Stands bytes m ns to
      → Stands bytes at (given b n ns) to
  unfolding Stands given optional
  read-given true m f e s = (m, f e, s)
  read-given false m f e s = subst (λ (k : ℕ). Stands bytes k ns to) (sym (same-got 0 v at m e).1) s

-- where none stands it is 0
pub read_none : (p : Reads ℕ) (at v m : ℕ) (b : Bool) → b ≡ false → optional b p at ≡ Ok (v, m) → v ≡ 0
unfolding optional
read_none p at v m true f e = cc
read_none p at v m false f e = sym (same-got 0 v at m e).0
