-- The tokens of a line: the steps that are left, from the state at hand, give what all of them give. The bounds come from the invariant of the
-- definition.
use Rattle.std.specs.Prelude.{None, Option, Some}
use Rattle.reading.specs.declared.Last.{Last}
use Rattle.reading.specs.declared.Place.{Place}
use Rattle.reading.specs.declared.Verbatim.{Verbatim}
use Prim.Native.Nat.{ℕ, zero, suc, ◌+◌, ◌-◌, ◌*◌, ◌^◌, ◌≤◌, ◌<◌}
use mathlib.Core.Path.{◌≡◌, refl, sym, ap, ◌∙◌, subst}
use mathlib.Core.List.{List}
use mathlib.Core.Bool.{true, false}
use native.Mathlib.Nat.{sub-zero}
use mathlib.Core.Logic.{inl, inr}
use native.Mathlib.Omega.{arith}
use borrow.Author.Tests.{leb-true, leb-false}
use lib.ListN.{length, get_or}
use Rattle.reading.specs.Machine.{View, Sheet, Turn}
use Rattle.reading.specs.Verbatim.{nothing}
use Rattle.reading.specs.Reading.{step, steps, unasked}
use Rattle.reading.proofs.Good.{GoodBy, LastOk}
use Rattle.reading.proofs.Ends.{ends_last, ends-wide, ends_some}
use Rattle.reading.proofs.Queue.{inner-enters}
use Rattle.reading.proofs.Named.{good-named}
use Rattle.reading.proofs.Links.{links-step}
use Rattle.reading.proofs.Backticks.{Shows}
use Rattle.reading.proofs.Stepping.{Held, met}
use Rattle.reading.proofs.Feeding.{step-on}
use Rattle.reading.proofs.Counting.{Counts, half-small, step-counts}
use Rattle.reading.proofs.Stopping.{step-off}
use Rattle.reading.proofs.Spans.{Any}
use Rattle.reading.proofs.Theorems.{step_end, steps-still}
use Rattle.rooms.specs.declared.Parser.{Parser}
use Rattle.rooms.specs.Records.{event_at, opener_at}
use Rattle.rooms.specs.Steps.{state, turn, turning, Lent, Stepped}
use Rattle.rooms.proofs.Rows.{rows-length, rows_at, stack-length}
use Rattle.rooms.proofs.Changing.{lent-same, lent-then}
use Rattle.verbatim.specs.Opened.{OpenedBy}
use Rattle.outside.specs.Outside.{Ended, EndedBy}
use Rattle.inline.specs.Asks.{Before, over_of}
use Rattle.inline.proofs.Begins.{Begins}

-- the test of a line's end, taken apart
on-still : (n pos : ℕ) (r : Option Place) → over_of n pos r ≡ false → (r ≡ None) × (pos < n)
unfolding over_of
on-still n pos (Some p) e = let z : ◌≡◌ {A = ℕ} 0 1 = cc in absurd (omega arith)
on-still n pos None e = (refl, leb-false n pos e)

over-still : (n pos : ℕ) (r : Option Place) → over_of n pos r ≡ true → r ≡ None → n ≤ pos
unfolding over_of
over-still n pos (Some p) e is = absurd (met p is)
over-still n pos None e is = leb-true n pos e

-- one step, and none
one-step : (x : Sheet) (v : View) (a : Turn) → a.state.refused ≡ None → (k : ℕ) → 0 < k → steps k x v a ≡ steps (k - 1) x v (step x v a)
one-step x v a e zero h = absurd (omega arith)
one-step x v a e (suc k) h =
    let z : suc k - 1 ≡ k = omega arith in
    step-off x v k a e ∙ rw z

no_steps : (x : Sheet) (v : View) (a : Turn) (k : ℕ) → k ≤ 0 → a ≡ steps k x v a
unfolding steps
no_steps x v a zero h = refl
no_steps x v a (suc k) h = absurd (omega arith)

-- the invariant of the definition, for what the rooms hold
module _ (text : List ℕ) (at n : ℕ) (p : Parser) where
  kinds : (w : ℕ) → w < p.at.events → get_or (state p).queue w nothing ≡ event_at p.queue.now w
  kinds w h = rows_at event_at p.at.events p.queue.now w nothing h

  pub good-opened : (w : Option Verbatim) → GoodBy Any text w at n (state p) → OpenedBy w p
  unfolding GoodBy OpenedBy
  good-opened None g = tt
  good-opened (Some w) g =
      let k = inner-enters w (state p).queue ((state p).openers) nothing g.inner in
      let high : w.keep ≤ p.at.events = omega (arith, g.high, rows-length event_at p.at.events p.queue.now) in
      let e = kinds w.event (omega (arith, g.low, high)) in
      record {
        low = g.low;
        high = high;
        enters = rw e at k.0;
        below = rw e at k.1;
      }

  good-ended : (w : Option Verbatim) → w ≡ None → GoodBy Any text w at n (state p) → Ended p
  unfolding GoodBy
  good-ended None e g = go p.at.last g.last
    where
      within_end : (a d b : ℕ) → a + d ≤ b → d ≤ b
      within_end a d b h = omega arith

      go : (last : Option Last) → LastOk last (state p).queue → EndedBy last p
      go None z = tt
      go (Some l) (inl z) = inl z
      go (Some l) (inr z) =
          let some = ends_some l.dollars l.end.0 (state p).queue z in
          let long = rows-length event_at p.at.events p.queue.now in
          let last : length (state p).queue ≡ suc (p.at.events - 1) = omega (arith, some, long) in
          let it = get_or (state p).queue (p.at.events - 1) nothing in
          let ends = ends_last l (state p).queue (p.at.events - 1) nothing z last in
          let wide = ends-wide l (state p).queue (p.at.events - 1) nothing z last in
          inr record {
            some = omega (arith, some, long);
            within = rw (kinds (p.at.events - 1) (omega (arith, some, long))) at (within_end it.start.0 l.dollars it.end.0 wide);
            ends = omega (arith, ends, wide);
          }
  good-ended (Some w) e g = let z : ◌≡◌ {A = ℕ} 0 1 = cc in absurd (omega arith)

-- the loop's invariant: of the parser p₀ at first, with k steps behind
pub record Turns (text : List ℕ) (v : View) (reading : ℕ) (p₀ p : Parser) (k : ℕ) : Type 0 where
  pub count : ℕ
  pub held : Held Any text v count 0 (turn p)
  pub past : k ≤ length v.bytes
  pub same : steps (length v.bytes - k) (unasked text reading (length p₀.labels.now)) v (turn p)
      ≡ steps (length v.bytes) (unasked text reading (length p₀.labels.now)) v (turn p₀)
  pub shows : Shows text v
  pub small : v.base + length v.bytes ≤ 1048576
  pub few : count + length v.bytes ≤ 1048576
  pub room : (count + length v.bytes) * 8 ≤ length p₀.queue.now
  pub stack : (count + length v.bytes) * 4 ≤ length p₀.openers.now
  pub label_room : length p₀.labels.now < 2 ^ 32
  pub links : p.at.links.0 + (length v.bytes - k) ≤ 4194304
  pub looks : Counts (count + p.at.cursor.pos) (state p)
  pub labels : p.at.labels ≤ length p.labels.now
  pub lent : Lent p₀ p

module _ (text : List ℕ) (v : View) (reading : ℕ) (p₀ : Parser) where
  abbrev x : Sheet
  x = unasked text reading (length p₀.labels.now)

  -- at first
  pub turns-first : Begins text v p₀ → p₀.at.labels ≤ length p₀.labels.now → Turns text v reading p₀ p₀ 0
  turns-first w h =
      record {
        count = w.count;
        held = w.held;
        past = omega arith;
        same = rw sub-zero refl;
        shows = w.shows;
        small = w.small;
        few = w.few;
        room = w.room;
        stack = w.stack;
        label_room = w.label_room;
        links = omega (arith, w.links);
        looks = w.looks;
        labels = h;
        lent = lent-same p₀ p₀ refl refl refl;
      }

  module _ (p : Parser) (k : ℕ) (t : Turns text v reading p₀ p k) where
    -- what a token asks
    pub turns-before : k < length v.bytes → over_of (length v.bytes) p.at.cursor.pos p.at.refused ≡ false → Before v p
    turns-before some e =
        let on = on-still (length v.bytes) p.at.cursor.pos p.at.refused e in
        let f = t.held.good on.0 in
        let n : p.at.events ≤ t.count + p.at.cursor.pos = omega (arith, t.held.few, rows-length event_at p.at.events p.queue.now) in
        let m : p.at.openers ≤ t.count + p.at.cursor.pos = omega (arith, t.held.opens, stack-length opener_at p.at.openers p.openers.now) in
        record {
          sound = t.held.sound;
          small = t.small;
          room = omega (arith, n, on.1, t.room, t.lent.queue_length);
          few = omega (arith, n, on.1, t.few);
          shallow = omega (arith, m, on.1, t.few);
          stack = omega (arith, m, on.1, t.stack, t.lent.openers_length);
          named = rw (rows-length event_at p.at.events p.queue.now) at (good-named Any text p.at.inside _ _ (state p) f.good);
          opened = good-opened text _ _ p p.at.inside f.good;
          ended = λ is. good-ended text _ _ p p.at.inside is f.good;
          labels = t.labels;
          label_room = omega (arith, t.label_room, t.lent.labels_length);
          links = omega (arith, t.links, some);
          looks = omega (arith, t.looks on.0, m, half-small (t.count + p.at.cursor.pos) (omega (arith, on.1, t.few)), on.1, t.few);
        }

    -- what it gives
    pub turns_next : k < length v.bytes → over_of (length v.bytes) p.at.cursor.pos p.at.refused ≡ false → (r : Parser)
        → Stepped p r (turning p (step (unasked text reading (length p.labels.now)) v)) → Turns text v reading p₀ r (k + 1)
    turns_next some e r st =
        record {
          count = t.count;
          held = subst (λ (a : Turn). Held Any text v t.count 0 a) (sym is) (step-on Any text x v t.count t.shows (λ i. tt) (turn p) none t.held);
          past = omega (arith, some);
          same = rw less (ap (λ (a : Turn). steps (length v.bytes - k - 1) x v a) is ∙ sym (one-step x v (turn p) none (length v.bytes - k) (omega (arith, some)))) ∙ t.same;
          shows = t.shows;
          small = t.small;
          few = t.few;
          room = t.room;
          stack = t.stack;
          label_room = t.label_room;
          links = omega (arith, t.links, some, ap (λ (a : Turn). a.state.links.0) is, links-step x v (turn p));
          looks = subst (λ (a : Turn). Counts (t.count + a.cursor.pos) a.state) (sym is) (step-counts x v t.count t.shows (turn p) none t.held t.looks);
          labels = st.labels;
          lent = lent-then p₀ p r t.lent st.lent;
        }
      where
        none : p.at.refused ≡ None
        none = (on-still (length v.bytes) p.at.cursor.pos p.at.refused e).0

        is : turn r ≡ step x v (turn p)
        is = subst (λ (n : ℕ). turn r ≡ step (unasked text reading n) v (turn p)) t.lent.labels_length st.same

        less : length v.bytes - (k + 1) ≡ length v.bytes - k - 1
        less = omega arith

    -- the line is at its end, or a brace is met
    abbrev Whole : Type 0
    Whole = Stepped p₀ p (turning p₀ (steps (length v.bytes) x v))

    pub turns-over : over_of (length v.bytes) p.at.cursor.pos p.at.refused ≡ true → Whole
    turns-over e =
        record {
          same = sym (steps-still x (length v.bytes - k) v (turn p) (λ z. step_end x v (turn p) t.held.sound (over-still (length v.bytes) p.at.cursor.pos p.at.refused e z))) ∙ t.same;
          lent = t.lent;
          labels = t.labels;
        }

    pub turns-last : length v.bytes ≤ k → Whole
    turns-last h = record { same = no_steps x v (turn p) (length v.bytes - k) (omega (arith, h)) ∙ t.same; lent = t.lent; labels = t.labels }
