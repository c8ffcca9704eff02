-- What the margin may touch: two texts that agree on the lines and on the byte before each are read alike.
use Rattle.std.specs.Prelude.{None}
use Prim.Native.Nat.{ℕ, zero, suc, ◌+◌, ◌-◌, ◌≤◌, ◌<◌}
use mathlib.Core.Path.{◌≡◌, refl, sym, ap, ◌∙◌, subst}
use mathlib.Core.List.{List, [], ◌∷◌}
use mathlib.Core.Bool.{Bool}
use mathlib.Core.Logic.{inl, inr, ⊎_elim}
use native.Mathlib.Omega.{arith}
use lib.ListN.{length, get_or}
use Rattle.reading.specs.declared.Line.{Line}
use Rattle.reading.specs.declared.Event.{Event}
use Rattle.reading.specs.Machine.{View, Rules, Sheet, State, Turn, byte_before, view_of}
use Rattle.reading.specs.Verbatim.{nothing}
use Rattle.reading.specs.Blocks.{block_at}
use Rattle.reading.specs.Reading.{step, steps, begun, line, views, sheet_with, sheet, read, start}
use Rattle.reading.specs.Walked.{Of, Shown}
use Rattle.reading.specs.Margin.{Seen, Spanned, destinations}
use Rattle.reading.proofs.Spans.{Any, Gap, Covers}
use Rattle.reading.proofs.Backticks.{Shows}
use Rattle.reading.proofs.Stepping.{Held, either}
use Rattle.reading.proofs.Feeding.{Rising, Stood, view-long, view-shows, step-on, begun-held, fed-stood, start-stood}
use Rattle.reading.proofs.Hiding.{good-covers, step-grows, shown-within}
use Rattle.reading.proofs.Telling.{Same, part-same}
use Rattle.reading.proofs.Sides.{Side, Facts}
use Rattle.reading.proofs.Alike.{read-looks, Ahead, read-side}

-- an event of a queue does not end before it begins
covers-order : (i a : ℕ) (q : List Event) (b : ℕ) → Covers Any a q b → let d = get_or q i nothing in d.start.0 ≤ d.end.0
unfolding Covers
covers-order i a [] b c = omega arith
covers-order zero a (e ∷ q) b c = c.1
covers-order (suc i) a (e ∷ q) b c = covers-order i e.end.0 q b c.2

-- what is of a line is seen
pub of-seen : (ls : List Line) (i : ℕ) → Of ls i → Seen ls i
unfolding Of Seen
of-seen [] i o = o
of-seen (l ∷ ls) i (inl y) = inl (omega (arith, y.0), y.1)
of-seen (l ∷ ls) i (inr y) = inr (of-seen ls i y)

module _ (t u : List ℕ) (long : length t ≡ length u) where
  -- the views are the same
  before-same : (i : ℕ) → ((j : ℕ) → i ≡ suc j → Same t u j) → byte_before u i ≡ byte_before t i
  before-same zero f = refl
  before-same (suc i) f = sym (f i refl)

  pub views-same : (a : ℕ) (ls : List Line) → Rising t a ls → ((i : ℕ) → Seen ls i → Same t u i) → views u ls ≡ views t ls
  unfolding Rising Seen
  views-same a [] r f = refl
  views-same a (l ∷ ls) r f =
      ap (λ (v : View). v ∷ views u ls)
      (ap (λ (b : ℕ). record { base = l.start; before = b; bytes = (view_of u l).bytes })
      (before-same l.start (λ j e. f j (inl (omega (arith, e), omega (arith, e, r.1)))))
      ∙ ap (λ (bs : List ℕ). record { base = l.start; before = byte_before t l.start; bytes = bs })
      (sym (part-same t u long l.start l.end (λ j p q. f j (inl (omega (arith, p), q))))))
      ∙ ap (λ (vs : List View). view_of t l ∷ vs) (views-same l.end ls r.3 (λ i s. f i (inr s)))

  -- and so are the places of attribute blocks
  pub sheet-same : (ls : List Line) (reading room : ℕ) → Rising t 0 ls → ((i : ℕ) → Seen ls i → Same t u i)
      → sheet u ls reading room ≡ sheet_with (sheet t ls reading room).block u reading room
  sheet-same ls reading room r f = ap (λ (vs : List View). sheet_with (block_at vs) u reading room) (views-same 0 ls r f)

  module _ (K : ℕ → Type 0) (One : Type 0) (one : One → (n : ℕ) → K n) (rules : Rules) (block : ℕ → Bool) (m n : ℕ) where
    abbrev x : Sheet
    x = record { rules = rules; text = t; room = m; block = block }

    abbrev y : Sheet
    y = record { rules = rules; text = u; room = n; block = block }

    -- the invariant of one sheet; on the line, and under what is shown, the texts are the same
    record Ok (v : View) (a : Turn) : Type 0 where
      fed : ℕ
      held : Held Any t v fed 0 a
      shows : Shows t v
      same : (j : ℕ) → v.base ≤ j → j < v.base + length v.bytes → Same t u j
      shown : a.state.refused ≡ None → (j : ℕ) → Shown j a.state.queue → Same t u j

    facts : (v : View) (a : Turn) → Ok v a → a.state.refused ≡ None → Facts t u K One v a.state a.cursor.pos (step x v a).cursor.pos
    facts v a ok un =
        record {
          shown = ok.shown un;
          behind = λ e l j z w.
              ok.same j (omega (arith, l, z, covers-order e 0 a.state.queue _ (good-covers Any t a.state.inside _ _ a.state (ok.held.good un).good)))
              (omega (arith, w, ok.held.sound.place));
          line = λ j z w. ok.same j z (omega (arith, w, (step-on Any t x v ok.fed ok.shows (λ i. tt) a un ok.held).sound.place));
        }

    next : (v : View) (a : Turn) → Ok v a → a.state.refused ≡ None → Ok v (step x v a)
    next v a ok un =
        let h = step-on Any t x v ok.fed ok.shows (λ i. tt) a un ok.held in
        record {
          fed = ok.fed;
          held = h;
          shows = ok.shows;
          same = ok.same;
          shown = λ z j s.
              ⊎_elim (ok.shown un j)
              (λ (l : v.base + a.cursor.pos ≤ j).
              ok.same j (omega (arith, l))
              (omega (arith, (shown-within Any j 0 (step x v a).state.queue _ (good-covers Any t (step x v a).state.inside _ _ (step x v a).state (h.good z).good) s).1, h.sound.place)))
              (step-grows t x v ok.fed ok.shows a un ok.held j s);
        }

    ok-steps : (k : ℕ) (v : View) (a : Turn) → Ok v a → Ok v (steps k x v a)
    unfolding steps
    ok-steps zero v a ok = ok
    ok-steps (suc k) v a ok = either (Ok v) a.state.refused _ _ (λ p e. ok) (λ e. ok-steps k v (step x v a) (next v a ok e))

    -- between two lines
    record Oks (ls : List Line) (s : State) : Type 0 where
      at : ℕ
      fed : ℕ
      stood : Stood Any t x at fed s
      rising : Rising t at ls
      same : (j : ℕ) → Of ls j → Same t u j
      shown : s.refused ≡ None → (j : ℕ) → Shown j s.queue → Same t u j

    module _ (l : Line) (ls : List Line) (s : State) (ok : Oks (l ∷ ls) s) where
      abbrev view : View
      view = view_of t l

      rises : (ok.at ≤ l.start) × (l.start ≤ l.end) × (l.end ≤ length t) × Rising t l.end ls
      unfolding Rising
      rises = ok.rising

      gap : Gap Any ok.at l.start
      gap = record { up = rises.0; loose = λ j a b. tt }

      begin : Ok view (begun x view s)
      unfolding Of
      begin =
          record {
            fed = ok.fed;
            held = begun-held Any t x view ok.at ok.fed s gap ok.stood;
            shows = view-shows t l rises.1 rises.2;
            same = λ j a b. ok.same j (inl (a, omega (arith, b, view-long t l rises.1 rises.2, rises.1)));
            shown = ok.shown;
          }

      rest : Oks ls (line x view s)
      unfolding Of
      rest =
          record {
            at = l.end;
            fed = ok.fed + (l.end - l.start);
            stood = fed-stood Any t x l ok.at ok.fed s rises.1 rises.2 gap ok.stood (λ j o. tt);
            rising = rises.3;
            same = λ j o. ok.same j (inr o);
            shown = (ok-steps (length view.bytes) view (begun x view s) begin).shown;
          }

    -- the two readings
    module _ (ls : List Line) (r : Rising t 0 ls) (agree : (i : ℕ) → Seen ls i → Same t u i) (h : Ahead t u K 0 (destinations x ls)) where
      started : Oks ls start
      unfolding Shown
      started = record { at = 0; fed = 0; stood = start-stood Any t x; rising = r; same = λ j o. agree j (of-seen ls j o); shown = λ e j s. absurd s }

      pub sides : Side t u K One (read x ls) (read y ls)
      sides = read-side t u long K One one rules block m n Ok Oks facts next begin rest ls (views-same 0 ls r agree) started h

      pub looks-same : (read y ls).looks ≡ (read x ls).looks
      looks-same = read-looks t u long K One one rules block m n Ok Oks facts next begin rest ls (views-same 0 ls r agree) started h

  -- by the definition of the links whose label may differ
  module _ (ls : List Line) (agree : (i : ℕ) → Seen ls i → Same t u i) (all : List (List Event)) where
    abbrev Fed : ℕ → Type 0
    Fed n = (i : ℕ) → Spanned i (get_or all n []) → Of ls i

    pub ahead-from : (k : ℕ) (ds : List (List Event)) → ((j n : ℕ) → n ≡ k + j → get_or all n [] ≡ get_or ds j []) → Ahead t u Fed k ds
    unfolding Ahead
    ahead-from k [] e = tt
    ahead-from k (d ∷ ds) e = (
      λ y j z. agree j (of-seen ls j (y j (subst (λ (l : List Event). Spanned j l) (sym (e 0 k (omega arith))) z))),
      ahead-from (suc k) ds (λ j n i. e (suc j) n (omega (arith, i))),
    )
