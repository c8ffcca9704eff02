-- The line of a place: it is one of the lines, rises with the place, and is found going forward.
use Prim.Native.Nat.{ℕ, zero, suc, ◌+◌, ◌≤◌, ◌<◌}
use mathlib.Core.Path.{◌≡◌, refl, ap}
use mathlib.Core.List.{List, [], ◌∷◌}
use mathlib.Core.Bool.{Bool, true, false}
use native.Mathlib.Omega.{arith}
use borrow.Author.Tests.{lt-ltb, le-ltb}
use lib.Dec.{ltb}
use lib.ListN.{length, get_or}
use Rattle.std.proofs.lemmas.Bool.Decides.{nat_tests}
use Rattle.reading.specs.declared.Line.{Line}
use Rattle.reading.specs.declared.Event.{Event}
use Rattle.reading.specs.Located.{line_of, located}
use Rattle.reading.specs.Walked.{Ordered, Lined}

pub line-within : (ls : List Line) (at : ℕ) → 1 ≤ length ls → line_of ls at < length ls
unfolding line_of
line-within [] at h = absurd (omega arith)
line-within (l ∷ []) at h = omega arith
line-within (l ∷ m ∷ ls) at h = grind (arith, nat_tests, line-within (m ∷ ls) at (omega arith))

pub line-most : (ls : List Line) (at : ℕ) → line_of ls at ≤ length ls
unfolding line_of
line-most [] at = omega arith
line-most (l ∷ ls) at = omega (arith, line-within (l ∷ ls) at (omega arith))

-- behind the last line there is none
pub line-last : (ls : List Line) (k at : ℕ) → length ls ≤ k + 1 → line_of ls at ≤ k
unfolding line_of
line-last [] k at h = omega arith
line-last (l ∷ ls) k at h = omega (arith, line-within (l ∷ ls) at (omega arith))

pub line-rises : (ls : List Line) (a b : ℕ) → a ≤ b → line_of ls a ≤ line_of ls b
unfolding line_of
line-rises [] a b h = omega arith
line-rises (l ∷ []) a b h = omega arith
line-rises (l ∷ m ∷ ls) a b h = grind (arith, nat_tests, line-rises (m ∷ ls) a b h)

-- a place before the end of a line is on that line or one before it
pub line-here : (ls : List Line) (k at : ℕ) (d : Line) → k < length ls → at < (get_or ls k d).end → line_of ls at ≤ k
unfolding line_of
line-here [] k at d h e = absurd (omega arith)
line-here (l ∷ []) k at d h e = omega arith
line-here (l ∷ m ∷ ls) zero at d h e = rw (lt-ltb at l.end e, line_of) (omega arith)
line-here (l ∷ m ∷ ls) (suc k) at d h e = grind (arith, nat_tests, line-here (m ∷ ls) k at d (omega arith) e)

-- one at or behind it is on a later line, if there is one and it is on none before
pub line-on : (ls : List Line) (k at : ℕ) (d : Line) → k ≤ line_of ls at → k + 1 < length ls → (get_or ls k d).end ≤ at → k + 1 ≤ line_of ls at
unfolding line_of
line-on [] k at d b h e = absurd (omega arith)
line-on (l ∷ []) k at d b h e = absurd (omega arith)
line-on (l ∷ m ∷ ls) zero at d b h e = rw (le-ltb at l.end e, line_of) (omega arith)
line-on (l ∷ m ∷ ls) (suc k) at d b h e = go (ltb at l.end) b (λ c. line-on (m ∷ ls) k at d c (omega arith) e)
  where
    go : (t : Bool) → suc k ≤ elim t [ true ↦ 0 | false ↦ suc (line_of (m ∷ ls) at) ] → (k ≤ line_of (m ∷ ls) at → k + 1 ≤ line_of (m ∷ ls) at)
        → suc k + 1 ≤ elim t [ true ↦ 0 | false ↦ suc (line_of (m ∷ ls) at) ]
    go true b f = absurd (omega (arith, b))
    go false b f = omega (arith, f (omega (arith, b)))

-- the lines of events that run forward
pub ordered_lined : (ls : List Line) → 1 ≤ length ls → (n a : ℕ) (es : List Event) (b : ℕ) → n ≤ line_of ls a → Ordered a es b → Lined n (length ls) (located ls es)
unfolding Ordered Lined located
ordered_lined ls some n a [] b h o = tt
ordered_lined ls some n a (e ∷ es) b h o = (
  omega (arith, h, line-rises ls a e.start.0 o.0),
  line-within ls e.start.0 some,
  ordered_lined ls some (line_of ls e.start.0) e.end.0 es b (line-rises ls e.start.0 e.end.0 o.1) o.2,
)

pub located-length : (ls : List Line) (es : List Event) → length (located ls es) ≡ length es
unfolding located
located-length ls [] = refl
located-length ls (e ∷ es) = ap suc (located-length ls es)
