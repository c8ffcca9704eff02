-- The invariant of a reading, outside and inside verbatim, and what each change of the state makes of it. `at` is the place up to which the
-- queue's spans go, and n bounds the bytes of the lines up to there.
use Rattle.std.specs.Prelude.{None, Option, Some}
use Prim.Native.Nat.{ℕ, suc, ◌+◌, ◌-◌, ◌≤◌, ◌<◌}
use mathlib.Core.Path.{◌≡◌, refl, sym, subst}
use mathlib.Core.List.{List, [], ◌∷◌, ◌++◌, map, map-append}
use mathlib.Core.Bool.{true, false, ◌&&◌, and-eq-true_iff}
use mathlib.Core.Logic.{◌⊎◌, inr}
use native.Mathlib.Omega.{arith}
use borrow.Author.Tests.{eqb-true, ltb-true, lt-ltb}
use lib.Dec.{eqb, ltb}
use lib.ListN.{length, get_or, drop, length-append}
use Rattle.classes.specs.Classes.{blank}
use Rattle.reading.specs.declared.Event.{Event}
use Rattle.reading.specs.declared.Opener.{Opener}
use Rattle.reading.specs.declared.Last.{Last}
use Rattle.reading.specs.declared.Verbatim.{Verbatim}
use Rattle.reading.specs.declared.Home.{Home}
use Rattle.reading.specs.Events.{event, str}
use Rattle.reading.specs.Machine.{View, State, dollar, dollars_of, last_of, puts, put, with_openers, looking}
use Rattle.reading.specs.Walked.{neither, walk_by, link_exit, Of, walk_of}
use Rattle.reading.proofs.Removed.{span_of}
use Rattle.reading.proofs.Choose.{choose}
use Rattle.reading.proofs.Matching.{Still, still-nil, still-neither, Parts, parts-append}
use Rattle.reading.proofs.Spans.{Covers, covers-append, covers_one}
use Rattle.reading.proofs.Queue.{walks, Inner}

-- the dollars of a Str lie within it
pub dollars-within : (v : View) (i j : ℕ) → i ≤ j → i + dollars_of v i j ≤ j
unfolding dollars_of
dollars-within v i j h =
    choose (λ (n : ℕ). i + n ≤ j) (ltb i j && dollar v j) _ _
    (λ e. choose (λ (n : ℕ). i + n ≤ j) (ltb (suc i) j && dollar v (j - 1)) _ _
    (λ f. omega (arith, ltb-true (suc i) j ((and-eq-true_iff (ltb (suc i) j) (dollar v (j - 1))).0 f).0))
    (λ f. omega (arith, ltb-true i j ((and-eq-true_iff (ltb i j) (dollar v j)).0 e).0)))
    (λ e. omega arith)

-- the last event ends at a place, and n bytes of it may be taken
pub record Ends (n at : ℕ) (q : List Event) : Type 0 where
  pub front : List Event
  pub it : Event
  pub parted : q ≡ front ++ it ∷ []
  pub wide : it.start.0 + n ≤ it.end.0
  pub ends : it.end.0 ≡ at
  pub shown : link_exit it.kind ≡ false

-- no dollars are noted, or they are of the last event
abbrev pub LastOk : Option Last → List Event → Type 0
LastOk None q = Unit {0}
LastOk (Some l) q = (l.dollars ≡ 0) ⊎ Ends l.dollars l.end.0 q

-- what is noted is of the last event
abbrev pub LastIs : Option Last → List Event → Type 0
LastIs None q = Unit {0}
LastIs (Some l) q = Ends l.dollars l.end.0 q

pub last-is : (v : View) (kind i j : ℕ) (q : List Event) → i ≤ j → LastIs (last_of v kind i j) (q ++ event kind (v.base + i) (v.base + j) ∷ [])
unfolding last_of link_exit
last-is v kind i j q h =
    choose (λ (l : Option Last). LastIs l (q ++ event kind (v.base + i) (v.base + j) ∷ [])) (eqb kind str) _ _
    (λ e.
    record {
      front = q;
      it = event kind (v.base + i) (v.base + j);
      parted = refl;
      wide = omega (arith, dollars-within v i j h);
      ends = refl;
      shown = subst (λ (k : ℕ). link_exit k ≡ false) (sym (eqb-true kind str e)) refl;
    })
    (λ e. tt)

pub is-ok : (l : Option Last) (q : List Event) → LastIs l q → LastOk l q
is-ok None q e = tt
is-ok (Some l) q e = inr e

pub last-put : (v : View) (kind i j : ℕ) (q : List Event) → i ≤ j → LastOk (last_of v kind i j) (q ++ event kind (v.base + i) (v.base + j) ∷ [])
last-put v kind i j q h = is-ok (last_of v kind i j) _ (last-is v kind i j q h)

-- every byte under some events is blank
abbrev pub Blank : List ℕ → List Event → Type 0
Blank text es = (i : ℕ) → Of (map span_of es) i → blank (get_or text i 0) ≡ true

module _ (Loose : ℕ → Type 0) (text : List ℕ) where
  pub record Out (at n : ℕ) (s : State) : Type 0 where
    pub covers : Covers Loose 0 s.queue at
    pub parts : Parts (walks s.queue) s.openers
    pub few : length s.queue ≤ n
    pub opens : length s.openers ≤ n
    pub last : LastOk s.last s.queue

  pub record In (w : Verbatim) (at n : ℕ) (s : State) : Type 0 where
    pub covers : Covers Loose 0 s.queue at
    pub inner : Inner w s.queue s.openers
    pub few : length s.queue ≤ n
    pub opens : length s.openers ≤ n
    pub low : w.event < w.keep
    pub high : w.keep ≤ length s.queue
    pub blanks : Blank text (drop w.keep s.queue)

  unfoldable pub GoodBy : Option Verbatim → ℕ → ℕ → State → Type 0
  GoodBy None at n s = Out at n s
  GoodBy (Some w) at n s = In w at n s

  abbrev pub Good : ℕ → ℕ → State → Type 0
  Good at n s = GoodBy s.inside at n s

  -- events that match by themselves
  pub out-puts : (es : List Event) (l : Option Last) (at to n m : ℕ) (s : State) → Out at n s → Covers Loose at es to → Still (walks es)
      → length es + n ≤ m → LastOk l (s.queue ++ es) → Out to m (puts es l s)
  out-puts es l at to n m s o c w k h =
      record {
        covers = covers-append Loose 0 s.queue at es to o.covers c;
        parts = rw (map-append walk_of s.queue es) (parts-append (walks s.queue) s.openers (walks es) o.parts w);
        few = omega (arith, length-append s.queue es, o.few, k);
        opens = omega (arith, o.opens, k);
        last = h;
      }

  -- one event that neither opens nor closes
  pub walk-neither : (kind : ℕ) (h : Home) → kind < 32 → walk_by kind h ≡ neither
  unfolding walk_by
  walk-neither kind h l = rw (lt-ltb kind 32 l, walk_by)

  pub still_one : (kind a b : ℕ) → kind < 32 → Still (walks (event kind a b ∷ []))
  still_one kind a b l = rw (walk-neither kind _ l) (still-neither [] still-nil)

  module _ (v : View) (kind i j n m : ℕ) (s : State) (h : i ≤ j) (k : kind < 32) (o : Out (v.base + i) n s) (f : suc n ≤ m) where
    pub out-put : Out (v.base + j) m (put v kind i j s)
    out-put =
        out-puts (event kind (v.base + i) (v.base + j) ∷ []) (last_of v kind i j) (v.base + i) (v.base + j) n m s o
        (covers_one Loose (event kind (v.base + i) (v.base + j)) (omega arith)) (still_one kind (v.base + i) (v.base + j) k) (omega arith)
        (last-put v kind i j s.queue h)

  -- other openers
  pub out-openers : (os : List Opener) (at n : ℕ) (s : State) → Out at n s → Parts (walks s.queue) os → length os ≤ n
      → Out at n (with_openers os s)
  out-openers os at n s o p l = record { covers = o.covers; parts = p; few = o.few; opens = l; last = o.last }

  -- what was looked at
  pub out-looking : (k at n : ℕ) (s : State) → Out at n s → Out at n (looking k s)
  out-looking k at n s o = record { covers = o.covers; parts = o.parts; few = o.few; opens = o.opens; last = o.last }

  -- outside and inside, the queue and the openers are bounded
  pub good-few : (w : Option Verbatim) (at n : ℕ) (s : State) → GoodBy w at n s → (length s.queue ≤ n) × (length s.openers ≤ n)
  unfolding GoodBy
  good-few None at n s g = (g.few, g.opens)
  good-few (Some w) at n s g = (g.few, g.opens)
