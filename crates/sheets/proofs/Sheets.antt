-- The lines of a sheet, one after another: behind i of them the parser stands for what these give.
use Rattle.std.specs.Prelude.{None, Option, Some}
use Rattle.reading.specs.declared.Place.{Place}
use Prim.Native.Nat.{ℕ, suc, ◌+◌, ◌^◌, ◌≤◌, ◌<◌}
use Prim.Native.Char.{code}
use mathlib.Core.Path.{◌≡◌, refl, sym, ap, ◌∙◌, subst}
use mathlib.Core.List.{List, [], ◌∷◌, ◌++◌, map-append}
use native.Mathlib.Numerals.{add-one}
use native.Mathlib.Omega.{arith}
use lib.ListN.{length, get_or, take, replicate}
use lib.Seq.{take-suc, take_all}
use Rattle.reading.specs.declared.Line.{Line}
use Rattle.reading.specs.Machine.{Sheet, State, Turn, View, view_of}
use Rattle.reading.specs.Reading.{line as line_of, lines, read, start, end_of, views, sheet}
use Rattle.reading.specs.Questions.{total, first_outside, first_early}
use Rattle.reading.proofs.Braces.{Outside, lines-outside, start_outside}
use Rattle.reading.proofs.Feeding as feeding
use Rattle.reading.proofs.Feeding.{Rising}
use Rattle.reading.proofs.Spans.{Any}
use Rattle.reading.proofs.Theorems.{rising, front}
use Rattle.rooms.specs.declared.Parser.{Parser}
use Rattle.rooms.specs.Records.{event_at}
use Rattle.rooms.specs.Steps.{state, staying, Lent, Queued, Room}
use Rattle.rooms.proofs.Rows.{rows-length}
use Rattle.rooms.proofs.Changing.{lent-same, lent-then, changed-labels}
use Rattle.inline.specs.Asks.{Behind, Comes, Sheeted, Closing, ending}
use Rattle.inline.specs.Lines.{none}
use Rattle.inline.proofs.Begins.{before-stood, before-few}
use Rattle.inline.proofs.Turning.{good-opened}

-- one line more
lines_more : (x : Sheet) (vs : List View) (v : View) (s : State) → lines x (vs ++ v ∷ []) s ≡ line_of x v (lines x vs s)
unfolding lines
lines_more x [] v s = refl
lines_more x (u ∷ vs) v s = lines_more x vs v (line_of x u s)

end_more : (ls : List Line) (l : Line) (a : ℕ) → end_of (ls ++ l ∷ []) a ≡ l.end
unfolding end_of
end_more [] l a = refl
end_more (k ∷ ls) l a = end_more ls l k.end

end_low : (text : List ℕ) (a : ℕ) (ls : List Line) → a ≤ length text → Rising text a ls → end_of ls a ≤ length text
unfolding Rising end_of
end_low text a [] h r = h
end_low text a (l ∷ ls) h r = end_low text l.end ls r.2 r.3

-- the loop's invariant, behind i lines of the parser p₀
pub record Head (text : List ℕ) (ls : List Line) (reading : ℕ) (p₀ p : Parser) (end i : ℕ) : Type 0 where
  pub asks : Sheeted text ls p₀.queue.now p₀.openers.now p₀.labels.now
  pub inside : i ≤ length ls
  pub same : state p ≡ lines (sheet text ls reading (length p₀.labels.now)) (views text (take i ls)) start
  pub stops : end ≡ end_of (take i ls) 0
  pub lent : Lent p₀ p
  pub labels : p.at.labels ≤ length p.labels.now

pub head_first : {text : List ℕ} {ls : List Line} {reading : ℕ} (p : Parser) → Sheeted text ls p.queue.now p.openers.now p.labels.now → state p ≡ start
    → p.at.labels ≡ 0 → Head text ls reading p p 0 0
unfolding lines end_of
head_first p w is none =
    record {
      asks = w;
      inside = omega arith;
      same = is;
      stops = refl;
      lent = lent-same p p refl refl refl;
      labels = omega (arith, none);
    }

module _ {text : List ℕ} {ls : List Line} {reading : ℕ} {p₀ p : Parser} {end i : ℕ} (h : Head text ls reading p₀ p end i) where
  abbrev w : Sheeted text ls p₀.queue.now p₀.openers.now p₀.labels.now
  w = h.asks

  abbrev x : Sheet
  x = sheet text ls reading (length p₀.labels.now)

  -- a line is left
  module _ (some : i < length ls) where
    abbrev here : Line
    here = get_or ls i none

    -- what it asks
    pub head-behind : Behind text ls i reading (state p) p.queue.now p.openers.now p.labels.now
    head-behind =
        record {
          some = some;
          asks =
              record {
                small = w.small;
                listed = w.listed;
                fed = w.fed;
                room = omega (arith, w.room, h.lent.queue_length);
                stack = omega (arith, w.stack, h.lent.openers_length);
                label_room = omega (arith, w.label_room, h.lent.labels_length);
              };
          same = h.same ∙ ap (λ (n : ℕ). lines (sheet text ls reading n) (views text (take i ls)) start) (sym h.lent.labels_length);
        }

    more : take (suc i) ls ≡ take i ls ++ here ∷ []
    more = take-suc ls i none some

    -- what it gives
    pub head-next : {r : Parser} → Comes p r (line_of (sheet text ls reading (length p.labels.now)) (view_of text here) (state p))
        → {b : ℕ} → b ≡ here.end → Head text ls reading p₀ r b (i + 1)
    head-next {r} st isb =
        rw (add-one i)
        record {
          asks = w;
          inside = omega arith;
          same =
              st.same
              ∙ ap (λ (n : ℕ). line_of (sheet text ls reading n) (view_of text here) (state p)) h.lent.labels_length
              ∙ ap (λ (s : State). line_of x (view_of text here) s) h.same
              ∙ sym (lines_more x (views text (take i ls)) (view_of text here) start)
              ∙ ap (λ (vs : List View). lines x vs start) (sym (map-append (view_of text) (take i ls) (here ∷ [])))
              ∙ ap (λ (ms : List Line). lines x (views text ms) start) (sym more);
          stops = isb ∙ sym (ap (λ (ms : List Line). end_of ms 0) more ∙ end_more (take i ls) here 0);
          lent = lent-then p₀ p r h.lent st.lent;
          labels = st.labels;
        }

  -- behind the last line
  module _ (past : length ls ≤ i) where
    all : take i ls ≡ ls
    all = take_all i ls past

    pub end-small : end < 2 ^ 32
    end-small =
        let r = front text i ls 0 (rising text 0 ls w.fed.inside w.fed.apart) in
        omega (arith, h.stops, end_low text 0 (take i ls) (omega arith) r, w.small)

    pub end-room : Room 1 p
    end-room =
        let n = (before-stood text reading p₀.queue.now p₀.openers.now p₀.labels.now ls w i).few in
        omega (
          arith,
          n,
          ap (λ (s : State). length s.queue) h.same,
          rows-length event_at p.at.events p.queue.now,
          before-few text reading p₀.queue.now p₀.openers.now p₀.labels.now ls w i,
          w.room,
          h.lent.queue_length,
        )

    closing-by : (r : Option Place) → p.at.refused ≡ r → Closing r p
    unfolding Closing
    closing-by (Some a) e =
        subst Outside (sym h.same) (lines-outside x (views text (take i ls)) start start_outside) a e
    closing-by None e =
        good-opened text (end_of (take i ls) 0) (total (take i ls)) p p.at.inside
        ((subst (λ (s : State). feeding.Stood Any text x (end_of (take i ls) 0) (total (take i ls)) s) (sym h.same)
        (before-stood text reading p₀.queue.now p₀.openers.now p₀.labels.now ls w i)).good e)

    pub end-closing : Closing p.at.refused p
    end-closing = closing-by p.at.refused refl

    pub head-last : {r : Parser} → Queued p r (staying p (ending end)) → Comes p₀ r (read x ls)
    head-last {r} c =
        record {
          same = ap (λ (a : Turn). a.state) c.changed.same ∙ ap (λ (b : ℕ). ending b (state p)) h.stops ∙ ap (ending (end_of (take i ls) 0)) h.same
              ∙ ap (λ (ms : List Line). ending (end_of ms 0) (lines x (views text ms) start)) all;
          lent = lent-then p₀ p r h.lent c.changed.lent;
          labels = changed-labels _ _ _ c.changed h.labels;
        }

-- what `parse` asks can be met: `*a*`, in rooms of the stated sizes
pub asked-row : Sheeted (code "*" ∷ code "a" ∷ code "*" ∷ []) (record { start = 0; end = 3 } ∷ []) (replicate 56 0) (replicate 12 0) []
unfolding total first_outside first_early
asked-row =
    record {
      small = omega arith;
      listed = omega arith;
      fed = record { inside = refl; apart = refl };
      room = omega arith;
      stack = omega arith;
      label_room = omega arith;
    }
