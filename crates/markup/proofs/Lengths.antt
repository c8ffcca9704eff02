-- How long a fragment can get: five bytes for each byte of the fed lines, and 29 for each event.
use Prim.Native.Nat.{ℕ, zero, suc, ◌+◌, ◌-◌, ◌*◌, ◌≤◌, ◌<◌}
use mathlib.Core.Path.{◌≡◌, refl, ap, subst}
use mathlib.Core.List.{List, [], ◌∷◌}
use mathlib.Core.Bool.{Bool, true, false, ◌||◌}
use mathlib.Core.Logic.{inl, inr}
use native.Mathlib.Nat.{add-zero}
use native.Mathlib.Omega.{arith}
use lib.Dec.{eqb}
use lib.ListN.{length, drop, length-append, length-take}
use Rattle.classes.specs.Classes.{bytes}
use Rattle.reading.specs.declared.Line.{Line}
use Rattle.reading.specs.declared.Event.{Event}
use Rattle.reading.specs.Events.{enter_from, exit_from, str, symbol}
use Rattle.reading.specs.Labels.{part}
use Rattle.reading.specs.Questions.{total}
use Rattle.reading.specs.Walked.{Ordered, Of, Shown, link_exit}
use Rattle.markup.specs.Markup.{Row, find, opening, closing, breaking, atoms, tag, characters, entities, escape_by, escaped, written}
use Rattle.markup.specs.Markup.{raw_behind, unless_raw, outside_raw, fragment}
use Rattle.markup.proofs.Tables.{All, found, every}

abbrev Short : ℕ → Row → Type 0
Short n r = length r.bytes ≤ n

find-short : (m n : ℕ) (rs : List Row) → All (Short m) rs → length (find n rs) ≤ m
find-short m n rs all = found (λ (bs : List ℕ). length bs ≤ m) n rs (every (Short m) (λ (r : Row). n ≡ r.number → length r.bytes ≤ m) rs all (λ r s e. s)) (omega arith)

opening-short : All (Short 29) opening
unfolding All opening bytes
opening-short = search arith

closing-short : All (Short 29) closing
unfolding All closing bytes
closing-short = search arith

breaking-short : All (Short 4) breaking
unfolding All breaking bytes
breaking-short = search arith

atoms-short : All (Short 3) atoms
unfolding All atoms
atoms-short = search arith

entity-short : (b : ℕ) → length (escape_by entities b) ≤ 5
unfolding escape_by entities bytes
entity-short b = grind arith

escaped-short : (cs : List ℕ) → length (escaped cs) ≤ 5 * length cs
unfolding escaped
escaped-short [] = omega arith
escaped-short (c ∷ cs) = omega (arith, length-append (escape_by entities c) (escaped cs), entity-short c, escaped-short cs)

-- how many bytes of some lines stand at a place or behind it
unfoldable from_on : ℕ → List Line → ℕ
from_on a [] = 0
from_on a (l ∷ ls) = (l.end - l.start) - (a - l.start) + from_on a ls

from_all : (ls : List Line) → from_on 0 ls ≡ total ls
unfolding from_on total
from_all [] = refl
from_all (l ∷ ls) = omega (arith, from_all ls)

from_less : (a b : ℕ) (ls : List Line) → a ≤ b → from_on b ls ≤ from_on a ls
unfolding from_on
from_less a b [] h = omega arith
from_less a b (l ∷ ls) h = omega (arith, from_less a b ls h)

-- a byte of them is one of these
from_one : (i : ℕ) (ls : List Line) → Of ls i → suc (from_on (suc i) ls) ≤ from_on i ls
unfolding from_on Of
from_one i [] o = absurd o
from_one i (l ∷ ls) (inl y) = omega (arith, y.0, y.1, from_less i (suc i) ls (omega arith))
from_one i (l ∷ ls) (inr y) = omega (arith, from_one i ls y)

-- so are those of a span
from-span : (ls : List Line) (w a : ℕ) → ((i : ℕ) → a ≤ i → i < a + w → Of ls i) → w + from_on (a + w) ls ≤ from_on a ls
from-span ls zero a h = omega (arith, ap (λ (k : ℕ). from_on k ls) (add-zero a))
from-span ls (suc w) a h =
    let next : suc a + w ≡ a + suc w = omega arith in
    omega (
      arith,
      from-span ls w (suc a) (λ i l u. h i (omega (arith, l)) (omega (arith, u))),
      from_one a ls (h a (omega arith) (omega arith)),
      ap (λ (k : ℕ). from_on k ls) next,
    )

-- the bytes of the text that an event writes
abbrev copies : Event → Bool
copies e = eqb e.kind str || eqb e.kind symbol

unfoldable width : Bool → Event → ℕ
width true e = e.end.0 - e.start.0
width false e = 0

-- what an event writes
module _ (text : List ℕ) (e : Event) where
  written-short : length (written text e) ≤ 5 * width (copies e) e + 29
  unfolding tag characters escaped width
  written-short =
      grind (
        arith,
        length-append (tag e.kind) (escaped (characters text e)),
        length-take (e.end.0 - e.start.0) (drop e.start.0 text),
        escaped-short (part text e.start.0 e.end.0),
        escaped-short (find e.kind atoms),
        find-short 4 e.kind breaking breaking-short,
        find-short 3 e.kind atoms atoms-short,
        find-short 29 (e.kind - enter_from) opening opening-short,
        find-short 29 (e.kind - exit_from) closing closing-short,
      )

-- it is no exit of a link, so that what is under its span is shown
no-link : (kind : ℕ) → (eqb kind str || eqb kind symbol) ≡ true → link_exit kind ≡ false
unfolding link_exit
no-link kind h = grind arith

-- the bytes that it writes are of the lines, if what is shown is
span-within : (ls : List Line) (e : Event) (es : List Event) → e.start.0 ≤ e.end.0 → ((i : ℕ) → Shown i (e ∷ es) → Of ls i)
    → width (copies e) e + from_on e.end.0 ls ≤ from_on e.start.0 ls
unfolding width Shown
span-within ls e es o h = go (copies e) refl
  where
    go : (t : Bool) → copies e ≡ t → width t e + from_on e.end.0 ls ≤ from_on e.start.0 ls
    go true c =
        let end : e.start.0 + (e.end.0 - e.start.0) ≡ e.end.0 = omega (arith, o) in
        subst (λ (k : ℕ). (e.end.0 - e.start.0) + from_on k ls ≤ from_on e.start.0 ls) end
        (from-span ls (e.end.0 - e.start.0) e.start.0 (λ i l u. h i (inl (no-link e.kind c, l, omega (arith, u, end)))))
    go false c = omega (arith, from_less e.start.0 e.end.0 ls o)

unless-short : (n : ℕ) (bs : List ℕ) → length (unless_raw n bs) ≤ length bs
unfolding unless_raw
unless-short zero bs = omega arith
unless-short (suc n) bs = omega arith

outside-short : (text : List ℕ) (ls : List Line) (n a b : ℕ) (es : List Event) → Ordered a es b → ((i : ℕ) → Shown i es → Of ls i)
    → length (outside_raw (written text) n es) ≤ 5 * from_on a ls + 29 * length es
unfolding outside_raw Ordered Shown
outside-short text ls n a b [] o h = omega arith
outside-short text ls n a b (e ∷ es) o h =
    omega (
      arith,
      from_less a e.start.0 ls o.0,
      span-within ls e es o.1 h,
      length-append (unless_raw n (written text e)) (outside_raw (written text) (raw_behind n e.kind) es),
      unless-short n (written text e),
      written-short text e,
      outside-short text ls (raw_behind n e.kind) e.end.0 b es o.2 (λ i s. h i (inr s)),
    )

-- of events whose spans run forward, and show bytes of the lines alone
pub fragment-short : (text : List ℕ) (ls : List Line) (b : ℕ) (es : List Event) → Ordered 0 es b → ((i : ℕ) → Shown i es → Of ls i)
    → length (fragment text es) ≤ 5 * total ls + 29 * length es
fragment-short text ls b es o h = omega (arith, outside-short text ls 0 0 b es o h, from_all ls)
