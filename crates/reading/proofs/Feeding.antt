-- Steps, lines and the end keep the invariant.
use Rattle.std.specs.Prelude.{None, Option, Some}
use Prim.Native.Nat.{ℕ, zero, suc, ◌+◌, ◌-◌, ◌≤◌}
use mathlib.Core.Path.{◌≡◌, refl, sym, ◌∙◌, subst}
use mathlib.Core.List.{List, [], ◌∷◌, ◌++◌}
use mathlib.Core.Bool.{true, false}
use mathlib.Core.Logic.{⊎_elim}
use native.Mathlib.Omega.{arith}
use lib.ListN.{length, get_or, drop, length-drop}
use lib.Seq.{length-take-le, get_or-take, get_or-drop}
use Rattle.classes.specs.Classes.{blank}
use Rattle.lex.proofs.Laws.{fresh-sound}
use Rattle.reading.specs.declared.Line.{Line}
use Rattle.reading.specs.declared.Verbatim.{Verbatim}
use Rattle.reading.specs.Machine.{View, Sheet, State, Turn, view_of}
use Rattle.reading.specs.Verbatim.{moved_on, ended_at, kept}
use Rattle.reading.specs.Reading.{step, steps, begun, line, lines, start, end_of, views, during}
use Rattle.reading.specs.Walked.{Of}
use Rattle.reading.specs.Questions.{total}
use Rattle.reading.proofs.Removed.{cut, step_removes, steps_remove, lines_remove}
use Rattle.reading.proofs.Matching.{Parts, still-nil}
use Rattle.reading.proofs.Spans.{Gap, Covers, gap-none, covers-after, of_left, of_right, of_parts}
use Rattle.reading.proofs.Queue.{inner-same}
use Rattle.reading.proofs.Good.{Out, Good, GoodBy}
use Rattle.reading.proofs.Backticks.{Shows, exits-out}
use Rattle.reading.proofs.Stepping.{Held, either, either₂, held-refused, held-less, step-held, step-blank}

-- lines that lie within the text, one behind another, from a on
unfoldable pub Rising : List ℕ → ℕ → List Line → Type 0
Rising text a [] = Unit {0}
Rising text a (l ∷ ls) = (a ≤ l.start) × (l.start ≤ l.end) × (l.end ≤ length text) × Rising text l.end ls

pub view-long : (text : List ℕ) (l : Line) → l.start ≤ l.end → l.end ≤ length text → length (view_of text l).bytes ≡ l.end - l.start
view-long text l a b = length-take-le (l.end - l.start) (drop l.start text) (omega (arith, length-drop l.start text))

pub view-shows : (text : List ℕ) (l : Line) → l.start ≤ l.end → l.end ≤ length text → Shows text (view_of text l)
unfolding Shows
view-shows text l a b j h =
    get_or-take (l.end - l.start) (drop l.start text) j 0 (omega (arith, view-long text l a b)) ∙ get_or-drop l.start text j 0

module _ (Loose : ℕ → Type 0) (text : List ℕ) (x : Sheet) where
  abbrev AllLoose : List Line → Type 0
  AllLoose d = (i : ℕ) → Of d i → Loose i

  loose-left : (a b : List Line) → AllLoose (a ++ b) → AllLoose a
  loose-left a b t i o = t i (of_left a b i o)

  loose-right : (a b : List Line) → AllLoose (a ++ b) → AllLoose b
  loose-right a b t i o = t i (of_right a b i o)

  module _ (v : View) (m : ℕ) (shows : Shows text v) where
    -- a step, and what is still to be loose
    module _ (n : ℕ) (a : Turn) (un : a.state.refused ≡ None) (t : AllLoose (step_removes v a ++ steps_remove n x v (step x v a))) where
      now-loose : AllLoose (step_removes v a)
      now-loose = loose-left (step_removes v a) (steps_remove n x v (step x v a)) t

      then-loose : AllLoose (steps_remove n x v (step x v a))
      then-loose = loose-right (step_removes v a) (steps_remove n x v (step x v a)) t

      next-held : Held Loose text v m 0 a → Held Loose text v m 0 (step x v a)
      next-held h =
          ⊎_elim (held-less Loose text x v m 1 0 (step x v a) (omega arith)) (held-less Loose text x v m (length v.bytes) 0 (step x v a) (omega arith))
          (step-held Loose text x v m shows a h.sound 0 h un now-loose)

    -- a step where no byte needs a span
    pub step-on : ((i : ℕ) → Loose i) → (a : Turn) → a.state.refused ≡ None → Held Loose text v m 0 a → Held Loose text v m 0 (step x v a)
    step-on f a un h = next-held 0 a un (λ i o. f i) h

    -- any number of steps
    pub steps-some : (n : ℕ) (a : Turn) → Held Loose text v m 0 a → AllLoose (steps_remove n x v a) → Held Loose text v m 0 (steps n x v a)
    unfolding steps steps_remove
    steps-some zero a h t = h
    steps-some (suc n) a h t =
        either₂ (λ (d : List Line) (b : Turn). AllLoose d → Held Loose text v m 0 b) a.state.refused _ _ _ _
        (λ p e t. h)
        (λ e t. steps-some n (step x v a) (next-held n a e t h) (then-loose n a e t)) t

    -- enough of them reach the line's end
    pub steps_all : (n lo : ℕ) (a : Turn) → length v.bytes ≤ lo + n → Held Loose text v m lo a → AllLoose (steps_remove n x v a)
        → Held Loose text v m (length v.bytes) (steps n x v a)
    unfolding steps steps_remove
    steps_all zero lo a l h t = held-less Loose text x v m lo (length v.bytes) a (omega arith) h
    steps_all (suc n) lo a l h t =
        either₂ (λ (d : List Line) (b : Turn). AllLoose d → Held Loose text v m (length v.bytes) b) a.state.refused _ _ _ _
        (λ p e t. held-refused Loose text x v m lo (length v.bytes) a p e h)
        (λ e t.
        ⊎_elim
        (λ (k : Held Loose text v m (suc lo) (step x v a)). steps_all n (suc lo) (step x v a) (omega arith) k (then-loose n a e t))
        (λ (k : Held Loose text v m (length v.bytes) (step x v a)). steps_all n (length v.bytes) (step x v a) (omega arith) k (then-loose n a e t))
        (step-held Loose text x v m shows a h.sound lo h e (now-loose n a e t))) t

    pub steps-blank : (n : ℕ) (a : Turn) → Held Loose text v m 0 a → AllLoose (steps_remove n x v a)
        → (i : ℕ) → Of (steps_remove n x v a) i → blank (get_or text i 0) ≡ true
    unfolding steps_remove Of
    steps-blank zero a h t i o = absurd o
    steps-blank (suc n) a h t i o =
        either (λ (d : List Line). AllLoose d → Of d i → blank (get_or text i 0) ≡ true) a.state.refused _ _
        (λ p e t o. absurd o)
        (λ e t o.
        ⊎_elim
        (λ (y : Of (step_removes v a) i). step-blank Loose text x v m shows a h.sound 0 h e i y)
        (λ (y : Of (steps_remove n x v (step x v a)) i). steps-blank n (step x v a) (next-held n a e t h) (then-loose n a e t) i y)
        (of_parts (step_removes v a) (steps_remove n x v (step x v a)) i o)) t o

  -- between two lines
  pub record Stood (at n : ℕ) (s : State) : Type 0 where
    pub few : length s.queue ≤ n
    pub opens : length s.openers ≤ n
    pub good : s.refused ≡ None → Good Loose text at n s

  begun-by : (w : Option Verbatim) (at base n : ℕ) (s t : State) → t.queue ≡ s.queue → t.openers ≡ s.openers → t.last ≡ s.last → Gap Loose at base
      → GoodBy Loose text w at n s → GoodBy Loose text (moved_on w) base n t
  unfolding GoodBy moved_on
  begun-by None at base n s t eq eo el g h =
      record {
        covers = rw eq (covers-after Loose 0 s.queue at base h.covers g);
        parts = rw (eq, eo) h.parts;
        few = rw eq h.few;
        opens = rw eo h.opens;
        last = rw (eq, el) h.last;
      }
  begun-by (Some w) at base n s t eq eo el g h =
      record {
        covers = rw eq (covers-after Loose 0 s.queue at base h.covers g);
        inner = rw (eq, eo) (inner-same w _ s.queue s.openers refl h.inner);
        few = rw eq h.few;
        opens = rw eo h.opens;
        low = h.low;
        high = rw eq h.high;
        blanks = rw eq h.blanks;
      }

  module _ (v : View) (at m : ℕ) (s : State) (g : Gap Loose at v.base) (h : Stood at m s) where
    pub begun-held : Held Loose text v m 0 (begun x v s)
    begun-held =
        record {
          sound = fresh-sound v.bytes 0 _ (omega arith);
          few = omega (arith, h.few);
          opens = omega (arith, h.opens);
          good = λ e.
              record {
                sound = fresh-sound v.bytes 0 _ (omega arith);
                far = omega arith;
                good = begun-by s.inside at (v.base + 0) (m + 0) s (begun x v s).state refl refl refl
                    (subst (λ (n : ℕ). Gap Loose at n) (omega arith) g)
                    (subst (λ (n : ℕ). GoodBy Loose text s.inside at n s) (omega arith) (h.good e));
              };
        }

    -- a whole line
    module _ (shows : Shows text v) (loose : AllLoose (steps_remove (length v.bytes) x v (begun x v s))) where
      pub line-stood : Stood (v.base + length v.bytes) (m + length v.bytes) (line x v s)
      line-stood =
          let k = steps_all v m shows (length v.bytes) 0 (begun x v s) (omega arith) begun-held loose in
          let a = steps (length v.bytes) x v (begun x v s) in
          record {
            few = omega (arith, k.few, k.sound.place);
            opens = omega (arith, k.opens, k.sound.place);
            good = λ e.
                subst (λ (n : ℕ). Good Loose text (v.base + n) (m + n) a.state) (omega (arith, (k.good e).far, k.sound.place)) (k.good e).good;
          }

      pub line-blank : (i : ℕ) → Of (steps_remove (length v.bytes) x v (begun x v s)) i → blank (get_or text i 0) ≡ true
      line-blank i o = steps-blank v m shows (length v.bytes) (begun x v s) begun-held loose i o

  -- before each line lie only loose bytes
  unfoldable pub Apart : ℕ → List Line → Type 0
  Apart a [] = Unit {0}
  Apart a (l ∷ ls) = Gap Loose a l.start × Apart l.end ls

  module _ (l : Line) (at m : ℕ) (s : State) (up : l.start ≤ l.end) (in_text : l.end ≤ length text) (g : Gap Loose at l.start) (h : Stood at m s)
      (loose : AllLoose (steps_remove (length (view_of text l).bytes) x (view_of text l) (begun x (view_of text l) s))) where
    pub fed-stood : Stood l.end (m + (l.end - l.start)) (line x (view_of text l) s)
    fed-stood =
        let n = view-long text l up in_text in
        let k = line-stood (view_of text l) at m s g h (view-shows text l up in_text) loose in
        subst (λ (e : ℕ). Stood e (m + (l.end - l.start)) (line x (view_of text l) s)) (omega (arith, n))
        (subst (λ (e : ℕ). Stood (l.start + length (view_of text l).bytes) (m + e) (line x (view_of text l) s)) n k)

  pub lines-stood : (ls : List Line) (at m : ℕ) (s : State) → Rising text at ls → Apart at ls → Stood at m s → AllLoose (lines_remove x (views text ls) s)
      → Stood (end_of ls at) (m + total ls) (lines x (views text ls) s)
  unfolding Rising Apart lines lines_remove end_of total
  lines-stood [] at m s r p h t = subst (λ (n : ℕ). Stood at n s) (omega arith) h
  lines-stood (l ∷ ls) at m s r p h t =
      let v = view_of text l in
      let d = steps_remove (length v.bytes) x v (begun x v s) in
      let rest = lines_remove x (views text ls) (line x v s) in
      subst (λ (n : ℕ). Stood (end_of ls l.end) n (lines x (views text ls) (line x v s))) (omega arith)
      (lines-stood ls l.end (m + (l.end - l.start)) (line x v s) r.3 p.1
      (fed-stood l at m s r.1 r.2 p.0 h (loose-left d rest t)) (loose-right d rest t))

  pub lines-blank : (ls : List Line) (at m : ℕ) (s : State) → Rising text at ls → Apart at ls → Stood at m s → AllLoose (lines_remove x (views text ls) s)
      → (i : ℕ) → Of (lines_remove x (views text ls) s) i → blank (get_or text i 0) ≡ true
  unfolding Rising Apart lines_remove Of
  lines-blank [] at m s r p h t i o = absurd o
  lines-blank (l ∷ ls) at m s r p h t i o =
      let v = view_of text l in
      let d = steps_remove (length v.bytes) x v (begun x v s) in
      let rest = lines_remove x (views text ls) (line x v s) in
      ⊎_elim
      (λ (y : Of d i). line-blank v at m s p.0 h (view-shows text l r.1 r.2) (loose-left d rest t) i y)
      (λ (y : Of rest i).
      lines-blank ls l.end (m + (l.end - l.start)) (line x v s) r.3 p.1
      (fed-stood l at m s r.1 r.2 p.0 h (loose-left d rest t)) (loose-right d rest t) i y)
      (of_parts d rest i o)

  pub start-stood : Stood 0 0 start
  unfolding GoodBy Covers Parts
  start-stood =
      record {
        few = omega arith;
        opens = omega arith;
        good = λ e. record { covers = gap-none Loose 0; parts = still-nil; few = omega arith; opens = omega arith; last = tt };
      }

  -- at any moment the queue and the openers are bounded
  pub during-few : (j : ℕ) (ls : List Line) (at m : ℕ) (s : State) → Rising text at ls → Apart at ls → Stood at m s
      → ((i : ℕ) → Loose i) → (length (during j x (views text ls) s).queue ≤ m + total ls) × (length (during j x (views text ls) s).openers ≤ m + total ls)
  unfolding Rising Apart during total
  during-few j [] at m s r p h f = (omega (arith, h.few), omega (arith, h.opens))
  during-few j (l ∷ ls) at m s r p h f =
      let v = view_of text l in
      let k = steps-some v m (view-shows text l r.1 r.2) j (begun x v s) (begun-held v at m s p.0 h) (λ i o. f i) in
      let n = view-long text l r.1 r.2 in
      (omega (arith, k.few, k.sound.place, n), omega (arith, k.opens, k.sound.place, n))

  -- the end
  ended-out : (w : Option Verbatim) (b n : ℕ) (s : State) → GoodBy Loose text w b n s → s.inside ≡ w → Out Loose text b (suc n) (ended_at b w s)
  unfolding GoodBy ended_at kept cut Of
  ended-out None b n s g e =
      record { covers = g.covers; parts = g.parts; few = omega (arith, g.few); opens = omega (arith, g.opens); last = g.last }
  ended-out (Some w) b n s g e =
      exits-out Loose text u s s.queue s.openers b b n (suc n) g.covers (inner-same w u s.queue s.openers refl g.inner) g.few g.low g.high
      (omega arith) (λ j o. absurd o) (omega (arith, g.opens)) (omega arith) (ended_at b (Some w) s) refl refl refl
    where
      u : Verbatim
      u = record { event = w.event; len = w.len; seen = w.seen; run = false; keep = w.keep; here = w.here }

  pub read_out : (ls : List Line) → Rising text 0 ls → Apart 0 ls → AllLoose (lines_remove x (views text ls) start)
      → (s : State) → s ≡ lines x (views text ls) start → s.refused ≡ None → Out Loose text (end_of ls 0) (suc (total ls)) (ended_at (end_of ls 0) s.inside s)
  read_out ls r p t s is e =
      let k = lines-stood ls 0 0 start r p start-stood t in
      ended-out s.inside (end_of ls 0) (total ls) s
      (subst (λ (n : ℕ). Good Loose text (end_of ls 0) n s) (omega arith) ((subst (λ (y : State). Stood (end_of ls 0) (0 + total ls) y) (sym is) k).good e)) refl
