-- A label that is built behind the bytes that the room holds: what it is, and its home.
use Rattle.std.specs.Prelude.{Option, Some, None, IfSome, not, ◌&&◌}
use Rattle.std.proofs.Common.{ℕ, suc, ◌+◌, ◌-◌, ◌^◌, ◌≤◌, ◌<◌, ◌≡◌, sym, ap, ◌∙◌, arith, List, ◌++◌, Bool, true, false, length, take, drop}
use Rattle.std.proofs.lemmas.List.{take-append-le}
use Rattle.std.proofs.lemmas.Slice.{take-put_mid_below}
use Rattle.std.proofs.Math.Seq.{take-append-add}
use borrow.Author.Tests.{leb-false, lt-ltb}
use borrow.Rule.Slice.PartMut.{mid_of, put_mid, post_of, same_len_mid}
use lib.Dec.{leb, eqb}
use lib.ListN.{length-drop}
use lib.Seq.{length-take-le}
use Rattle.output.specs.Written.{written, append, Within, Wrote}
use Rattle.reading.specs.declared.Event.{Event}
use Rattle.reading.specs.declared.Link.{Link}
use Rattle.reading.specs.Labels.{Label, built, words, stretches, pieces, separator, label_of, label_home}
use Rattle.rooms.specs.Records.{event_at, events}
use Rattle.rooms.proofs.Rows.{rows_cut}
use Rattle.labels.specs.declared.Destination.{Destination}
use Rattle.labels.specs.Building.{LabelStands, in_room}

-- bs were written from the front of the room behind the first `used` bytes of l, or were more than it holds
module _ (l : List ℕ) (used : ℕ) (h : used ≤ length l) (bs room : List ℕ) where
  abbrev free : List ℕ
  free = mid_of used (length l - used) l

  abbrev put : List ℕ
  put = put_mid used (length l - used) l room

  size : length free ≡ length l - used
  size = length-take-le (length l - used) (drop used l) (omega (arith, length-drop used l))

  fits : (n : ℕ) → Wrote free 0 bs (Some n) room → (take n room ≡ bs) × (n ≡ length bs) × (used + n ≤ length l) × (length room ≡ length free)
  unfolding written append Within
  fits n w = (grind (arith, length-take-le), grind (arith, length-take-le), omega (arith, w.within, size), w.size)

  over : Wrote free 0 bs None room → length l < used + length bs
  unfolding written append Within
  over w = grind (arith, length-take-le, size)

  -- the count fits 32 bits
  pub built-few : length l < 2 ^ 32 → (b : Option ℕ) → Wrote free 0 bs b room → IfSome b (λ n. used + n < 2 ^ 32)
  built-few k (Some n) w = let f = fits n w in omega (arith, k, f.2)
  built-few k None w = tt

  -- the front of the room, with what stands behind it
  front : (n : ℕ) → n ≤ length room → take (used + n) put ≡ take used l ++ take n room
  front n k =
      ap (λ (m : ℕ). take (m + n) put) (sym (length-take-le used l h))
      ∙ take-append-add (take used l) (room ++ post_of used (length l - used) l) n
      ∙ ap (λ (x : List ℕ). take used l ++ x) (take-append-le n room (post_of used (length l - used) l) k)

  -- the answer is what the definition says
  pub built-stands : (link : Link) (b : Option ℕ) → Wrote free 0 bs b room → LabelStands (in_room link used b) put (label_home (length l) link (take used l) true (built bs))
  unfolding in_room label_home
  built-stands link (Some n) w =
      let f = fits n w in
      let long = front n (omega (arith, f.2, f.3, size)) in
      record { same = grind (arith, length-take-le); room = omega (arith, f.2, same_len_mid used (length l - used) l room f.3) }
  built-stands link None w =
      let f = over w in
      record { same = grind (arith, length-take-le, take-put_mid_below); room = omega (arith, h, same_len_mid used (length l - used) l room w.size) }

-- which bytes they are; e is the event of the destination's opener
module _ (text q : List ℕ) (n : ℕ) (d : Destination) (e : Event) (is : e ≡ event_at q d.event) where
  abbrev label : Event → Label
  label y = label_of text d.inline d.base d.at.0 y (drop (suc d.span) (take (d.event - 1) (events n q))) (drop (suc d.event) (events n q))

  abbrev by-text : Bool
  by-text = not d.inline && eqb e.end.0 d.at.0

  pub label-words : d.event < n → by-text ≡ true → label (event_at q d.event) ≡ built (words text (drop (suc d.span) (events (d.event - 1) q)))
  unfolding label_of
  label-words h t = ap label (sym is) ∙ rw (t, label_of, rows_cut event_at (d.event - 1) n q (omega arith))

  pub label-lines : by-text ≡ false → (w : ℕ) → w ≡ e.start.0 → (not by-text && leb d.base w) ≡ false
      → label (event_at q d.event) ≡ built (pieces (separator d.inline) false false (stretches text e.end.0 (drop (suc d.event) (events n q))))
  unfolding label_of
  label-lines t w wide left =
      ap label (sym is) ∙ rw (t, lt-ltb e.start.0 d.base (omega (arith, wide, leb-false d.base w (rw t at left))), label_of)
