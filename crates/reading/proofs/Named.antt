-- Openers name events of the queue: in every state that the invariant holds of.
use Rattle.std.specs.Prelude.{None, Option, Some}
use Prim.Native.Nat.{ℕ, ◌≤◌, ◌<◌}
use mathlib.Core.Path.{ap, ◌∙◌, subst}
use mathlib.Core.List.{List, [], ◌∷◌, ◌++◌}
use native.Mathlib.Omega.{arith}
use lib.ListN.{length, length-append, length-map}
use Rattle.reading.specs.Closers.{same}
use Rattle.reading.specs.declared.Closer.{Closer}
use Rattle.reading.specs.declared.Event.{Event}
use Rattle.reading.specs.declared.Opener.{Opener}
use Rattle.reading.specs.declared.Verbatim.{Verbatim}
use Rattle.reading.specs.declared.DelimEventKind.{DelimEventKind}
use Rattle.reading.specs.declared.DelimEventKind.TheVariants as makes
use Rattle.reading.specs.Machine.{State}
use Rattle.reading.specs.Tokens.{closed_by, closing_of}
use Rattle.reading.specs.Containers.{seek, seek_mark}
use Rattle.reading.specs.Naming.{Names, Named}
use Rattle.reading.specs.Walked.{Walk, neither, walk_of}
use Rattle.reading.proofs.Choose.{choose}
use Rattle.reading.proofs.Matching.{Top, TopBy, Parts}
use Rattle.reading.proofs.Queue.{walks, Inner, inner-within}
use Rattle.reading.proofs.Good.{GoodBy}

-- more events
names_more : (d : DelimEventKind) (o : Opener) (n m : ℕ) → n ≤ m → Names d o n → Names d o m
unfolding Names
names_more (makes.Pair p) o n m l h = omega arith
names_more (makes.Span i) o n m l h = omega arith
names_more (makes.Link t) o n m l h = (h.0, omega (arith, h.1))

named_more : (os : List Opener) (n m : ℕ) → n ≤ m → Named os n → Named os m
unfolding Named
named_more [] n m l h = tt
named_more (o ∷ os) n m l h = (names_more (closing_of o.sort) o n m l h.0, named_more os n m l h.1)

-- fewer openers
named-seek_mark : (c : Closer) (os : List Opener) (n : ℕ) → Named os n → Named (seek_mark c os) n
unfolding seek_mark Named
named-seek_mark c [] n h = h
named-seek_mark c (o ∷ os) n h =
    choose (λ (l : List Opener). Named l n) (same (closed_by o.sort) c) _ _ (λ e. h) (λ e. named-seek_mark c os n h.1)

pub named-seek : (c : Option Closer) (os : List Opener) (n : ℕ) → Named os n → Named (seek c os) n
unfolding seek Named
named-seek None os n h = tt
named-seek (Some c) os n h = named-seek_mark c os n h

-- where the queue parts at each opener
top-named : (w : List Walk) (os : List Opener) → Parts w os → Named os (length w)
unfolding Parts TopBy Names Named
top-named w [] p = tt
top-named w (o ∷ os) p = go (closing_of o.sort) p (λ v q. top-named v os q)
  where
    single : Top (λ (v : List Walk). Parts v os) w o.event → ((v : List Walk) → Parts v os → Named os (length v))
        → (o.event < length w) × Named os (length w)
    single t below =
        let long = ap (λ (x : List Walk). length x) t.parted ∙ length-append t.pre (neither ∷ t.post) in
        (omega (arith, long, t.place), named_more os (length t.pre) (length w) (omega (arith, long)) (below t.pre t.rest))

    go : (d : DelimEventKind) → TopBy d (λ (v : List Walk). Parts v os) w o → ((v : List Walk) → Parts v os → Named os (length v))
        → Names d o (length w) × Named os (length w)
    go (makes.Pair q) t below = single t below
    go (makes.Span i) t below = single t below
    go (makes.Link l) t below =
        let long = ap (λ (x : List Walk). length x) t.parted ∙ length-append t.pre (neither ∷ (t.mid ++ neither ∷ neither ∷ t.post)) in
        let more = length-append t.mid (neither ∷ neither ∷ t.post) in (
          (omega (arith, t.first, t.second), omega (arith, long, more, t.second)),
          named_more os (length t.pre) (length w) (omega (arith, long)) (below t.pre t.rest),
        )

parts-named : (q : List Event) (os : List Opener) → Parts (walks q) os → Named os (length q)
parts-named q os p = subst (λ (n : ℕ). Named os n) (length-map q walk_of) (top-named (walks q) os p)

-- inside a verbatim they name events before its enter
inner-named : (w : Verbatim) (q : List Event) (os : List Opener) → Inner w q os → Named os (length q)
inner-named w q os h =
    named_more os (length h.pre) (length q) (omega (arith, inner-within w q os h, h.place)) (parts-named h.pre os h.rest)

pub good-named : (Loose : ℕ → Type 0) (text : List ℕ) (w : Option Verbatim) (at n : ℕ) (s : State) → GoodBy Loose text w at n s
    → Named s.openers (length s.queue)
unfolding GoodBy
good-named Loose text None at n s g = parts-named s.queue s.openers g.parts
good-named Loose text (Some w) at n s g = inner-named w s.queue s.openers g.inner
