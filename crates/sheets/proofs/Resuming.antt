-- A line from stop to stop: at each brace the validator is asked, and where no block stands the line goes on behind it.
use Rattle.std.specs.Prelude.{None, Some}
use Prim.Native.Nat.{ℕ, suc, ◌+◌, ◌-◌, ◌*◌, ◌≤◌, ◌<◌}
use mathlib.Core.Path.{◌≡◌, refl, sym, ap, ◌∙◌, subst}
use mathlib.Core.List.{List, [], ◌∷◌}
use mathlib.Core.Bool.{Bool, true, false}
use mathlib.Core.Logic.{inl, inr}
use native.Mathlib.Omega.{arith}
use borrow.Author.Tests.{leb-true, leb-false}
use lib.Dec.{leb}
use lib.ListN.{length, get_or, take, length-append}
use Rattle.reading.specs.declared.Line.{Line}
use Rattle.reading.specs.declared.Place.{Place}
use Rattle.reading.specs.Machine.{View, Sheet, State, Turn, view_of}
use Rattle.reading.specs.Events.{event, str}
use Rattle.reading.specs.Reading.{steps, begun, line as line_of, lines, views, start, resumed, sheet, unasked}
use Rattle.reading.specs.Questions.{total}
use Rattle.reading.proofs.Spans.{Any}
use Rattle.reading.proofs.Stepping.{Held, met}
use Rattle.reading.proofs.Feeding.{steps-some}
use Rattle.reading.proofs.Theorems.{steps-more}
use Rattle.reading.proofs.Stopping.{Resumes, Settled, settled, moment-held, moment-end, moment-still, moment-last}
use Rattle.rooms.specs.declared.Parser.{Parser}
use Rattle.rooms.specs.Steps.{state, turn, turning, Lent, Stepped, Queued}
use Rattle.rooms.specs.Records.{event_at}
use Rattle.rooms.proofs.Rows.{rows-length}
use Rattle.rooms.proofs.Changing.{lent-same, lent-then, changed-labels}
use Rattle.verbatim.specs.Opened.{Begun}
use Rattle.inline.specs.Asks.{Behind, Amid, BraceAt, Within, Comes}
use Rattle.inline.specs.Lines.{none}
use Rattle.sheets.proofs.Beginning.{here-ordered, here-within, here-long, here-total, shows, first}

behind-as : (text : List ℕ) (all : List Line) (i reading : ℕ) (s : State) (q o l q' o' l' : List ℕ) → length q' ≡ length q → length o' ≡ length o
    → length l' ≡ length l → Behind text all i reading s q o l → Behind text all i reading s q' o' l'
behind-as text all i reading s q o l q' o' l' lq lo ll w =
    record {
      some = w.some;
      asks =
          record {
            small = w.asks.small;
            listed = w.asks.listed;
            fed = w.asks.fed;
            room = omega (arith, w.asks.room, lq);
            stack = omega (arith, w.asks.stack, lo);
            label_room = omega (arith, w.asks.label_room, ll);
          };
      same = subst (λ (k : ℕ). s ≡ lines (sheet text all reading k) (views text (take i all)) start) (sym ll) w.same;
    }

same_place : (p r : Place) → Some p ≡ Some r → p ≡ r
same_place p r e = cc

clash : (b : Bool) → b ≡ true → b ≡ false → ⊥
clash b e f = let z : ◌≡◌ {A = ℕ} 0 1 = cc in omega arith

-- the loop's invariant: the parser p₀ at first has come behind some steps of the line, at least one for each turn
pub record Walks (text : List ℕ) (all : List Line) (i reading : ℕ) (p₀ out : Parser) (round : ℕ) : Type 0 where
  pub behind : Behind text all i reading (state p₀) p₀.queue.now p₀.openers.now p₀.labels.now
  pub count : ℕ
  pub few : count ≤ 2 * length (view_of text (get_or all i none)).bytes
  pub enough : round ≤ count
  pub going : out.at.refused ≡ None
  pub same : let x = sheet text all reading (length p₀.labels.now) in let v = view_of text (get_or all i none) in turn out ≡ steps count x v (begun x v (state p₀))
  pub lent : Lent p₀ out
  pub labels : out.at.labels ≤ length out.labels.now

module _ {text : List ℕ} {all : List Line} {i reading : ℕ} {p : Parser} (w : Behind text all i reading (state p) p.queue.now p.openers.now p.labels.now) where
  pub walks-first : p.at.labels ≤ length p.labels.now → p.at.refused ≡ None → {out : Parser} → Begun reading p out → Walks text all i reading p out 0
  unfolding steps
  walks-first h un {out} b =
      let same = b.same text (length p.labels.now) (view_of text (get_or all i none)) in
      record {
        behind = w;
        count = 0;
        few = omega arith;
        enough = omega arith;
        going = ap (λ (a : Turn). a.state.refused) same ∙ un;
        same = same;
        lent = lent-same p out b.queue b.openers b.labels;
        labels = rw (b.built, b.labels) h;
      }

module _ {text : List ℕ} {all : List Line} {i reading : ℕ} {p₀ out : Parser} {round : ℕ}
    (t : Walks text all i reading p₀ out round) where
  abbrev w : Behind text all i reading (state p₀) p₀.queue.now p₀.openers.now p₀.labels.now
  w = t.behind

  abbrev x : Sheet
  x = sheet text all reading (length p₀.labels.now)

  abbrev y : Sheet
  y = unasked text reading (length p₀.labels.now)

  abbrev here : Line
  here = get_or all i none

  abbrev v : View
  v = view_of text here

  abbrev n : ℕ
  n = length v.bytes

  abbrev a₀ : Turn
  a₀ = begun x v (state p₀)

  abbrev m : ℕ
  m = total (take i all)

  abbrev a : Turn
  a = steps t.count x v a₀

  a-held : Held Any text v m 0 a
  a-held = moment-held x v text m (shows w) a₀ (first w) t.count

  a-going : a.state.refused ≡ None
  a-going = sym (ap (λ (b : Turn). b.state.refused) t.same) ∙ t.going

  -- what the rest of the line asks
  pub walks-amid : (k : Line) → k ≡ here → Amid text k reading (turn out) out.queue.now out.openers.now out.labels.now
  walks-amid k is =
      subst (λ (r : Line). Amid text r reading (turn out) out.queue.now out.openers.now out.labels.now) (sym is)
      record {
        s = state p₀;
        fed = record { all = all; index = i; is = refl; behind = behind-as text all i reading (state p₀) p₀.queue.now p₀.openers.now p₀.labels.now out.queue.now out.openers.now out.labels.now t.lent.queue_length t.lent.openers_length t.lent.labels_length w };
        count = t.count;
        few = t.few;
        same = subst (λ (r : ℕ). turn out ≡ steps t.count (sheet text all reading r) v (begun (sheet text all reading r) v (state p₀))) (sym t.lent.labels_length) t.same;
      }

  -- all steps are behind
  pub walks-last : n < round → Comes p₀ out (line_of x v (state p₀))
  walks-last h =
      record {
        same = ap (λ (b : Turn). b.state) (t.same ∙ moment-still x v text m (shows w) a₀ (first w) t.count (omega (arith, h, t.enough)));
        lent = t.lent;
        labels = t.labels;
      }

  -- the parser has gone on to a stop, or to the line's end
  module _ {k : Line} (is : k ≡ here) {r : Parser}
      (c : Stepped out r (turning out (let u = view_of text k in steps (length u.bytes) (unasked text reading (length out.labels.now)) u))) where
    there : turn r ≡ steps n y v a
    there =
        subst (λ (z : ℕ). turn r ≡ steps n (unasked text reading z) v (turn out)) t.lent.labels_length
        (subst (λ (z : Line). let u = view_of text z in turn r ≡ steps (length u.bytes) (unasked text reading (length out.labels.now)) u (turn out)) is c.same)
        ∙ ap (λ (b : Turn). steps n y v b) t.same

    done : Settled x v n a (steps n y v a)
    done = settled x v text m (shows w) n a a-held a-going

    r-held : Held Any text v m 0 (turn r)
    r-held = subst (λ (b : Turn). Held Any text v m 0 b) (sym there) (steps-some Any text y v m (shows w) n a a-held (λ i o. tt))

    r-refused : r.at.refused ≡ (steps n y v a).state.refused
    r-refused = ap (λ (b : Turn). b.state.refused) there

    -- the line is read
    all_read : steps n x v a ≡ steps n y v a → Comes p₀ r (line_of x v (state p₀))
    all_read e =
        record {
          same = ap (λ (b : Turn). b.state) (there ∙ sym e ∙ moment-end x v text m (shows w) a₀ (first w) t.count);
          lent = lent-then p₀ out r t.lent c.lent;
          labels = c.labels;
        }

    pub walks-end : r.at.refused ≡ None → Comes p₀ r (line_of x v (state p₀))
    walks-end e = go done
      where
        go : Settled x v n a (steps n y v a) → Comes p₀ r (line_of x v (state p₀))
        go (inl g) = all_read g.same
        go (inr (inl g)) = absurd (met g.at (sym g.refused ∙ sym r-refused ∙ e))
        go (inr (inr g)) = absurd (met g.at (sym g.refused ∙ sym r-refused ∙ e))

    -- a stop
    module _ {at : Place} (e : r.at.refused ≡ Some at) where
      at-is : (p : Place) → (steps n y v a).state.refused ≡ Some p → p ≡ at
      at-is p f = same_place p at (sym f ∙ sym r-refused ∙ e)

      brace : (v.base ≤ at.0) × (at.0 - v.base < r.at.cursor.pos)
      brace = go done
        where
          found : (p : Place) → p ≡ at → (v.base ≤ p.0) × (p.0 - v.base < (steps n y v a).cursor.pos) → (v.base ≤ at.0) × (at.0 - v.base < r.at.cursor.pos)
          found p f z =
              let b = subst (λ (u : Place). (v.base ≤ u.0) × (u.0 - v.base < (steps n y v a).cursor.pos)) f z in
              (b.0, omega (arith, b.1, ap (λ (d : Turn). d.cursor.pos) there))

          go : Settled x v n a (steps n y v a) → (v.base ≤ at.0) × (at.0 - v.base < r.at.cursor.pos)
          go (inl g) = absurd (met at (sym e ∙ r-refused ∙ g.refused))
          go (inr (inl g)) = found g.at (at-is g.at g.refused) (g.low, g.short)
          go (inr (inr g)) = found g.at (at-is g.at g.refused) (g.low, g.short)

      far : r.at.cursor.pos ≤ here.end - here.start
      far = omega (arith, r-held.sound.place, (here-long w))

      -- what the validator is asked
      pub walks-within : Within text all i at.0
      walks-within =
          record {
            listed = w.asks.listed;
            fed = w.asks.fed;
            some = w.some;
            low = brace.0;
            high = omega (arith, brace.0, brace.1, far, (here-ordered w));
          }

      -- a block stands there
      pub walks_block : x.block at.0 ≡ true → Comes p₀ r (line_of x v (state p₀))
      walks_block b = go done
        where
          go : Settled x v n a (steps n y v a) → Comes p₀ r (line_of x v (state p₀))
          go (inl g) = absurd (met at (sym e ∙ r-refused ∙ g.refused))
          go (inr (inl g)) = all_read g.same
          go (inr (inr g)) = absurd (clash (x.block at.0) b (subst (λ (u : Place). x.block u.0 ≡ false) (at-is g.at g.refused) g.block))

      -- none does
      module _ (b : x.block at.0 ≡ false) where
        goes_on : Resumes x v n a (steps n y v a)
        goes_on = go done
          where
            go : Settled x v n a (steps n y v a) → Resumes x v n a (steps n y v a)
            go (inl g) = absurd (met at (sym e ∙ r-refused ∙ g.refused))
            go (inr (inl g)) = absurd (clash (x.block at.0) (subst (λ (u : Place). x.block u.0 ≡ true) (at-is g.at g.refused) g.block) b)
            go (inr (inr g)) = g

        abbrev next : ℕ
        next = t.count + goes_on.count

        -- there are bytes left
        some_left : t.count < n
        some_left = by (leb n t.count) refl
          where
            by : (d : Bool) → leb n t.count ≡ d → t.count < n
            by false z = leb-false n t.count z
            by true z =
                let past = leb-true n t.count z in
                let still = moment-last x v text m (shows w) a₀ (first w) t.count past ∙ sym (moment-still x v text m (shows w) a₀ (first w) t.count past) in
                absurd (met at (sym e ∙ r-refused ∙ ap (λ (d : Turn). d.state.refused) still ∙ a-going))

        next-same : resumed v at.0 (turn r) ≡ steps next x v a₀
        next-same =
            ap (λ (d : Turn). resumed v at.0 d) there
            ∙ ap (λ (u : Place). resumed v u.0 (steps n y v a)) (sym (at-is goes_on.at goes_on.refused))
            ∙ sym goes_on.same
            ∙ sym (steps-more x t.count goes_on.count v a₀)

        next-few : suc r.at.events ≤ m + r.at.cursor.pos
        next-few =
            let h = subst (λ (d : Turn). Held Any text v m 0 d) (sym next-same) (moment-held x v text m (shows w) a₀ (first w) next) in
            let z = event str (v.base + (at.0 - v.base)) (v.base + r.at.cursor.pos) in
            omega (arith, h.few, length-append (state r).queue (z ∷ []), rows-length event_at r.at.events r.queue.now)

        pub walks-brace : BraceAt text k at r
        walks-brace =
            subst (λ (z : Line). BraceAt text z at r) (sym is)
            record {
              ordered = (here-ordered w);
              within = (here-within w);
              small = omega (arith, (here-within w), w.asks.small);
              low = brace.0;
              short = brace.1;
              far = far;
              room = omega (arith, next-few, far, (here-total w), w.asks.room, c.lent.queue_length, t.lent.queue_length);
            }

        pub walks_next : {f : Parser} → Queued r f (turning r (resumed (view_of text k) at.0)) → Walks text all i reading p₀ f (round + 1)
        walks_next {f} d =
            let same = subst (λ (z : Line). turn f ≡ resumed (view_of text z) at.0 (turn r)) is d.changed.same in
            record {
              behind = w;
              count = next;
              few = omega (arith, some_left, goes_on.most);
              enough = omega (arith, t.enough, goes_on.some);
              going = ap (λ (z : Turn). z.state.refused) same;
              same = same ∙ next-same;
              lent = lent-then p₀ r f (lent-then p₀ out r t.lent c.lent) d.changed.lent;
              labels = changed-labels _ _ _ d.changed c.labels;
            }
