-- Demand 3 of document 01, and the homes of events: of every sheet whose lines pass questions 3 and 4 and that no attribute block refuses, for any bytes and any rules.
use Rattle.std.specs.Prelude.{None, Option, Some}
use Rattle.lex.specs.declared.lex.Token.{Token}
use Rattle.reading.specs.declared.Verbatim.{Verbatim}
use Prim.Native.Nat.{ℕ, zero, suc, ◌+◌, ◌≤◌, ◌<◌}
use mathlib.Core.Path.{◌≡◌, refl, sym, ap, ◌∙◌, subst}
use mathlib.Core.List.{List, [], ◌∷◌, append-nil}
use mathlib.Core.Bool.{Bool, true, false, ◌&&◌}
use mathlib.Core.Logic.{◌⊎◌, inl, inr}
use native.Mathlib.Nat.{zero-add, suc-add}
use native.Mathlib.Omega.{arith}
use borrow.Author.Tests.{leb-true, ltb-false, le-ltb}
use lib.Dec.{leb, ltb}
use lib.ListN.{length, get_or, take, drop, length-append}
use Rattle.classes.specs.Classes.{blank}
use Rattle.reading.specs.declared.Line.{Line}
use Rattle.lex.specs.Lexer.{next_of}
use Rattle.lex.proofs.Laws.{Sound, next-stepped, next-sounded}
use Rattle.reading.specs.Machine.{View, Sheet, State, Turn, view_of}
use Rattle.reading.specs.Events.{exit_of}
use Rattle.reading.specs.Verbatim.{nothing, ended_at}
use Rattle.reading.specs.Reading.{on_token, step, steps, begun, lines, views, start, end_of, read, moment}
use Rattle.reading.specs.Dropped.{dropped}
use Rattle.reading.specs.Draining.{drained, flushed}
use Rattle.reading.specs.Questions.{total, first_outside, first_early, Fed}
use Rattle.reading.specs.Homes.{AllHomed}
use Rattle.reading.specs.Located.{located}
use Rattle.reading.specs.Walked.{Walked, Ordered, Of, Covered, Shown, Whole, Matches, Lined, under, events}
use Rattle.reading.proofs.Removed.{removed}
use Rattle.reading.proofs.Dropping.{dropped-removed}
use Rattle.reading.proofs.Matching.{Still, parts_all}
use Rattle.reading.proofs.Spans.{Any, Covers, gap-none}
use Rattle.reading.proofs.Queue.{walks}
use Rattle.reading.proofs.Good.{Out}
use Rattle.reading.proofs.Stepping.{met, either, either₂}
use Rattle.reading.proofs.Drains.{drained-walk, drained-covers, drain-few, covers-ordered, under_one}
use Rattle.reading.proofs.Feeding.{Rising, Apart, Stood, lines-stood, lines-blank, start-stood, during-few, read_out, view-shows, begun-held}
use Rattle.reading.proofs.Feeding.{steps_all}
use Rattle.reading.proofs.Hiding.{shown-within, left-hidden, fed-shown}
use Rattle.reading.proofs.Homing.{events-homed}
use Rattle.reading.proofs.Locating.{ordered_lined}

lower : (a b : ℕ) → ltb (suc a) (suc b) ≡ false → ltb a b ≡ false
lower a b e = le-ltb a b (omega (arith, ltb-false (suc a) (suc b) e))

-- questions 3 and 4: each line lies within the text, and behind the one before
pub rising : (text : List ℕ) (a : ℕ) (ls : List Line) → ltb (first_outside text ls) (length ls) ≡ false → ltb (first_early a ls) (length ls) ≡ false
    → Rising text a ls
unfolding Rising first_outside first_early
rising text a [] e f = tt
rising text a (l ∷ ls) e f =
    go (leb l.start l.end) refl (leb l.end (length text)) refl (leb a l.start) refl e f (λ e f. rising text l.end ls e f)
  where
    go : (p : Bool) → leb l.start l.end ≡ p → (q : Bool) → leb l.end (length text) ≡ q → (r : Bool) → leb a l.start ≡ r
        → ltb (elim (p && q) [ true ↦ suc (first_outside text ls) | false ↦ 0 ]) (suc (length ls)) ≡ false
        → ltb (elim r [ true ↦ suc (first_early l.end ls) | false ↦ 0 ]) (suc (length ls)) ≡ false
        → (ltb (first_outside text ls) (length ls) ≡ false → ltb (first_early l.end ls) (length ls) ≡ false → Rising text l.end ls)
        → (a ≤ l.start) × (l.start ≤ l.end) × (l.end ≤ length text) × Rising text l.end ls
    go true p true q true r e f k = (
      leb-true a l.start r,
      leb-true l.start l.end p,
      leb-true l.end (length text) q,
      k (lower (first_outside text ls) (length ls) e) (lower (first_early l.end ls) (length ls) f),
    )
    go false p q q' r r' e f k = absurd (omega (arith, ltb-false 0 (suc (length ls)) e))
    go true p false q r r' e f k = absurd (omega (arith, ltb-false 0 (suc (length ls)) e))
    go true p true q false r e f k = absurd (omega (arith, ltb-false 0 (suc (length ls)) f))

-- a byte of rising lines lies behind their start and before their end
of-behind : (text : List ℕ) (a : ℕ) (ls : List Line) (i : ℕ) → Rising text a ls → Of ls i → a ≤ i
unfolding Rising Of
of-behind text a [] i r o = absurd o
of-behind text a (l ∷ ls) i r (inl y) = omega (arith, r.0, y.0)
of-behind text a (l ∷ ls) i r (inr y) = omega (arith, r.0, r.1, of-behind text l.end ls i r.3 y)

of-before : (text : List ℕ) (a : ℕ) (ls : List Line) (i : ℕ) → Rising text a ls → Of ls i → i < end_of ls a
unfolding Rising Of end_of
of-before text a [] i r o = absurd o
of-before text a (l ∷ ls) i r (inl y) = omega (arith, y.1, end-up text l.end ls r.3)
  where
    end-up : (text : List ℕ) (a : ℕ) (ls : List Line) → Rising text a ls → a ≤ end_of ls a
    end-up text a [] r = omega arith
    end-up text a (l ∷ ls) r = omega (arith, r.0, r.1, end-up text l.end ls r.3)
of-before text a (l ∷ ls) i r (inr y) = of-before text l.end ls i r.3 y

-- the first i of rising lines, and the others
pub front : (text : List ℕ) (i : ℕ) (ls : List Line) (a : ℕ) → Rising text a ls → Rising text a (take i ls)
unfolding Rising
front text zero ls a r = tt
front text (suc i) [] a r = tt
front text (suc i) (l ∷ ls) a r = (r.0, r.1, r.2, front text i ls l.end r.3)

pub back : (text : List ℕ) (i : ℕ) (ls : List Line) (a : ℕ) → Rising text a ls → Rising text (end_of (take i ls) a) (drop i ls)
unfolding Rising end_of
back text zero ls a r = r
back text (suc i) [] a r = tt
back text (suc i) (l ∷ ls) a r = back text i ls l.end r.3

pub halves : (i : ℕ) (ls : List Line) → total (take i ls) + total (drop i ls) ≡ total ls
unfolding total
halves zero ls = omega arith
halves (suc i) [] = refl
halves (suc i) (l ∷ ls) = omega (arith, halves i ls)

module _ (x : Sheet) where
  -- between two lines no byte is fed
  apart : (Loose : ℕ → Type 0) (all : List Line) → ((i : ℕ) → (Of all i → ⊥) → Loose i) → (a : ℕ) (ls : List Line) → Rising x.text a ls
      → ((i : ℕ) → a ≤ i → Of all i → Of ls i) → Apart Loose x.text x a ls
  unfolding Rising Apart Of
  apart Loose all f a [] r h = tt
  apart Loose all f a (l ∷ ls) r h = (
    record {
      up = r.0;
      loose = λ i lo hi. f i (λ o.
          let b = of-behind x.text l.start (l ∷ ls) i (omega arith, r.1, r.2, r.3) (h i lo o) in
          absurd (omega (arith, b, hi)));
    },
    apart Loose all f l.end ls r.3 (λ i lo o. rest i lo (h i (omega (arith, lo, r.0, r.1)) o)),
  )
    where
      rest : (i : ℕ) → l.end ≤ i → Of (l ∷ ls) i → Of ls i
      rest i lo (inl y) = absurd (omega (arith, lo, y.1))
      rest i lo (inr y) = y

  pub free : (a : ℕ) (ls : List Line) → Rising x.text a ls → Apart Any x.text x a ls
  unfolding Of
  free a ls r = apart Any [] (λ i n. tt) a ls r (λ i l o. absurd o)

  ended-refused : (b : ℕ) (w : Option Verbatim) (s : State) → (ended_at b w s).refused ≡ s.refused
  unfolding ended_at
  ended-refused b None s = refl
  ended-refused b (Some w) s = refl

  module _ (ls : List Line) (fed : Fed x.text ls) where
    pub up : Rising x.text 0 ls
    up = rising x.text 0 ls fed.inside fed.apart

    -- what the rules leave out is what the verbatim rule drops
    none_other : dropped x ls ≡ removed x ls
    none_other = dropped-removed Any (λ i. tt) x ls up (free 0 ls up)

    -- a byte needs no span if it is of no fed line, or of a dropped blank
    abbrev Loose : ℕ → Type 0
    Loose i = Of ls i → Of (dropped x ls) i

    gaps : Apart Loose x.text x 0 ls
    gaps = apart Loose ls (λ i n o. absurd (n o)) 0 ls up (λ i l o. o)

    loose : (i : ℕ) → Of (removed x ls) i → Loose i
    loose i d o = subst (λ (l : List Line). Of l i) (sym none_other) d

    -- a dropped byte is a blank
    pub blanks : (i : ℕ) → Of (dropped x ls) i → blank (get_or x.text i 0) ≡ true
    blanks i d = lines-blank Loose x.text x ls 0 0 start up gaps (start-stood Loose x.text x) loose i (subst (λ (l : List Line). Of l i) none_other d)

    module _ (taken : (read x ls).refused ≡ None) where
      abbrev before : State
      before = lines x (views x.text ls) start

      unrefused : before.refused ≡ None
      unrefused = sym (ended-refused (end_of ls 0) before.inside before) ∙ taken

      out : Out Loose x.text (end_of ls 0) (suc (total ls)) (read x ls)
      out = read_out Loose x.text x ls up gaps loose before refl unrefused

      -- every exit matches the last enter still open, and none is open at the end
      pub walked : Walked (events x ls)
      unfolding Still Matches
      walked =
          drained-walk 0 0 (read x ls).queue []
          (subst (λ (w : List _). Matches w []) (append-nil (walks (read x ls).queue))
          (parts_all (walks (read x ls).queue) (read x ls).openers out.parts [] [] tt))

      cover : Covers Loose 0 (events x ls) (end_of ls 0)
      cover = drained-covers Loose 0 0 0 (read x ls).queue (end_of ls 0) (gap-none Loose 0) (omega arith) out.covers

      -- no span ends before it begins, none begins before the last one ended, and none ends behind the last line's end
      pub ordered : Ordered 0 (events x ls) (end_of ls 0)
      ordered = covers-ordered Loose 0 (events x ls) (end_of ls 0) cover

      -- each byte of a fed line is under one span, or is of a dropped blank and under none
      pub covered : Covered ls (dropped x ls) (events x ls)
      covered i o = go (under_one Loose i 0 (events x ls) (end_of ls 0) cover (omega arith) (of-before x.text 0 ls i up o))
        where
          go : (under i (events x ls) ≡ 1) ⊎ ((under i (events x ls) ≡ 0) × Loose i) → (under i (events x ls) ≡ 1) ⊎ ((under i (events x ls) ≡ 0) × Of (dropped x ls) i)
          go (inl e) = inl e
          go (inr y) = inr (y.0, y.1 o)

      -- what is shown is of a fed line, and of no dropped blank
      pub shown : (i : ℕ) → Shown i (events x ls) → Of ls i × (Of (dropped x ls) i → ⊥)
      shown i y = (
        fed-shown x ls up before refl unrefused i y (shown-within Loose i 0 (events x ls) (end_of ls 0) cover y).1,
        λ d. left-hidden x ls up before refl unrefused i (subst (λ (l : List Line). Of l i) none_other d) y,
      )

      -- each event has the home and the link number that its kind has
      pub homes : (read x ls).fits ≡ true → AllHomed (length x.text) (length (read x ls).labels) (events x ls)
      homes fits = events-homed x ls up unrefused fits

      -- at most N + 1 events
      pub room : length (events x ls) ≤ total ls + 1
      room = omega (arith, drain-few (read x ls).queue, out.few)

      -- the lines of the events never fall; without lines there are no events
      pub lined : Lined 0 (length ls) (located ls (events x ls))
      unfolding Lined located lines ended_at drained flushed
      lined = by ls ordered
        where
          by : (ls : List Line) → Ordered 0 (events x ls) (end_of ls 0) → Lined 0 (length ls) (located ls (events x ls))
          by [] o = tt
          by (l ∷ ls) o = ordered_lined (l ∷ ls) (omega arith) 0 0 (events x (l ∷ ls)) (end_of (l ∷ ls) 0) (omega arith) o

      pub whole : Whole x ls
      whole = record { walked = walked; ordered = ordered; covered = covered; shown = shown; blanks = blanks; room = room; lined = lined }

    -- the parser's own rooms, at any moment, whether or not a brace is met: behind i lines
    pub behind : (i : ℕ) → Stood Any x.text x (end_of (take i ls) 0) (0 + total (take i ls)) (lines x (views x.text (take i ls)) start)
    behind i =
        lines-stood Any x.text x (take i ls) 0 0 start (front x.text i ls 0 up) (free 0 (take i ls) (front x.text i ls 0 up)) (start-stood Any x.text x) (λ j o. tt)

    within : (i j : ℕ) → (length (moment x ls i j).queue ≤ total ls) × (length (moment x ls i j).openers ≤ total ls)
    within i j =
        let r = back x.text i ls 0 up in
        let d = during-few Any x.text x j (drop i ls) (end_of (take i ls) 0) (0 + total (take i ls)) _ r (free _ (drop i ls) r) (behind i) (λ k. tt) in
        (omega (arith, d.0, halves i ls), omega (arith, d.1, halves i ls))

    -- without placeholders the queue never holds more than N records before the end, and N + 1 at it
    pub queue-room : (i j : ℕ) → length (moment x ls i j).queue ≤ total ls
    queue-room i j = (within i j).0

    pub opener-room : (i j : ℕ) → length (moment x ls i j).openers ≤ total ls
    opener-room i j = (within i j).1

    ended-few : (b n : ℕ) (w : Option Verbatim) (s : State) → length s.queue ≤ n → (length (ended_at b w s).queue ≤ n + 1) × ((ended_at b w s).openers ≡ s.openers)
    unfolding ended_at
    ended-few b n None s l = (omega arith, refl)
    ended-few b n (Some w) s l = (omega (arith, length-append s.queue (exit_of (get_or s.queue w.event nothing) b b ∷ [])), refl)

    pub end-room : (length (read x ls).queue ≤ total ls + 1) × (length (read x ls).openers ≤ total ls)
    end-room =
        let k = lines-stood Any x.text x ls 0 0 start up (free 0 ls up) (start-stood Any x.text x) (λ j o. tt) in
        let s = lines x (views x.text ls) start in
        let e = ended-few (end_of ls 0) (total ls) s.inside s (omega (arith, k.few)) in
        (e.0, rw e.1 (omega (arith, k.opens)))

  -- any count of steps that is large enough gives the same: at the line's end a step changes nothing
  pub step_end : (v : View) (a : Turn) → Sound v.bytes a.cursor → length v.bytes ≤ a.cursor.pos → step x v a ≡ a
  unfolding on_token
  step_end v a so l = on (next_of v.bytes a.cursor).token refl
    where
      on : (t : Option Token) → (next_of v.bytes a.cursor).token ≡ t → on_token x v a t (next_of v.bytes a.cursor).cursor ≡ a
      on None e = refl
      on (Some t) e =
          absurd (omega (arith, l, (next-stepped v.bytes a.cursor).within t e, (next-sounded v.bytes a.cursor so).some t e))

  pub steps-still : (k : ℕ) (v : View) (a : Turn) → (a.state.refused ≡ None → step x v a ≡ a) → steps k x v a ≡ a
  unfolding steps
  steps-still zero v a e = refl
  steps-still (suc k) v a e =
      either (λ (b : Turn). b ≡ a) a.state.refused _ _ (λ p r. refl) (λ r. ap (λ (b : Turn). steps k x v b) (e r) ∙ steps-still k v a e)

  pub steps-more : (n k : ℕ) (v : View) (a : Turn) → steps (n + k) x v a ≡ steps k x v (steps n x v a)
  unfolding steps
  steps-more zero k v a = ap (λ (j : ℕ). steps j x v a) (zero-add k)
  steps-more (suc n) k v a =
      ap (λ (j : ℕ). steps j x v a) (suc-add n k)
      ∙ either₂ (λ (b c : Turn). b ≡ steps k x v c) a.state.refused _ _ _ _
      (λ p r. sym (steps-still k v a (λ z. absurd (met p (sym r ∙ z)))))
      (λ r. steps-more n k v (step x v a))

  pub enough : (ls : List Line) → Fed x.text ls → (i : ℕ) (l : Line) (ms : List Line) → drop i ls ≡ l ∷ ms → (k : ℕ)
      → let v = view_of x.text l in
      let a = begun x v (lines x (views x.text (take i ls)) start) in
      steps (length v.bytes + k) x v a ≡ steps (length v.bytes) x v a
  unfolding Rising Apart
  enough ls fed i l ms e k =
      let v = view_of x.text l in
      let s = lines x (views x.text (take i ls)) start in
      let r = subst (λ (m : List Line). Rising x.text (end_of (take i ls) 0) m) e (back x.text i ls 0 (up ls fed)) in
      let shows = view-shows x.text l r.1 r.2 in
      let b = begun-held Any x.text x v (end_of (take i ls) 0) (0 + total (take i ls)) s (free (end_of (take i ls) 0) (l ∷ ms) r).0 (behind ls fed i) in
      let h = steps_all Any x.text x v (0 + total (take i ls)) shows (length v.bytes) 0 (begun x v s) (omega arith) b (λ j o. tt) in
      steps-more (length v.bytes) k v (begun x v s)
      ∙ steps-still k v (steps (length v.bytes) x v (begun x v s))
      (λ z. step_end v (steps (length v.bytes) x v (begun x v s)) h.sound (h.good z).far)
