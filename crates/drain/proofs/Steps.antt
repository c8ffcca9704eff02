-- One turn of the loop over the queue, and its end.
use Rattle.std.specs.Prelude.{None, Option, Some}
use Prim.Native.Nat.{ℕ, ◌+◌, ◌/◌, ◌≤◌, ◌<◌}
use mathlib.Core.Path.{◌≡◌, sym, ap, ◌∙◌}
use mathlib.Core.List.{List, [], ◌∷◌}
use native.Mathlib.Numerals.{add-one}
use native.Mathlib.Omega.{arith}
use lib.ListN.{length, drop, drop_of_length-le}
use lib.Seq.{drop-cons}
use Rattle.reading.specs.declared.Event.{Event}
use Rattle.reading.specs.Events.{event_numbers}
use Rattle.reading.specs.Draining.{flushed, drained, drain}
use Rattle.rooms.specs.Records.{event_at, events}
use Rattle.rooms.proofs.Rows.{rows-length, rows_at}
use Rattle.drain.specs.declared.Held.{Held}
use Rattle.drain.specs.Handing.{answered, handed}
use Rattle.drain.specs.Storing.{Out, out, put_all, after, behind, Puts}
use Rattle.drain.proofs.Storing.{put-all-room}

-- one after the other
pub puts_on : {h h' h'' : Held} {es mid left : List Event} {r : Option (Unit {0})} → Puts h es (Some tt) h' mid → Puts h' mid r h'' left → Puts h es r h'' left
puts_on a b = record { same = b.same ∙ a.same; lent = b.lent ∙ a.lent }

-- the loop's invariant: the events that are left, behind what is held, give what all give
pub record Head (queue : List ℕ) (n : ℕ) (h₀ h : Held) (i : ℕ) : Type 0 where
  pub inside : i ≤ n
  pub puts : Puts h₀ (drain (events n queue)) (Some tt) h (behind h (drop i (events n queue)))

module _ {queue : List ℕ} {n : ℕ} {h₀ h : Held} {i : ℕ} (head : Head queue n h₀ h i) where
  -- a turn
  module _ {e : Event} {r : Option (Unit {0})} {h' : Held} (inside : i < n) (is : e ≡ event_at queue i)
      (turns : (es : List Event) → Puts h (behind h (e ∷ es)) r h' (behind h' es)) where
    pub next : Puts h₀ (drain (events n queue)) r h' (behind h' (drop (i + 1) (events n queue)))
    next = puts_on (rw left at head.puts) (turns (drop (i + 1) (events n queue)))
      where
        left : drop i (events n queue) ≡ e ∷ drop (i + 1) (events n queue)
        left =
            drop-cons (events n queue) i (event_at queue i) (omega (arith, rows-length event_at n queue))
            ∙ (λ t. ◌∷◌ ((rows_at event_at n queue i (event_at queue i) inside ∙ sym is) t) (drop (sym (add-one i) t) (events n queue)))

  -- at the end of the queue
  pub last : n ≤ i → Puts h₀ (drain (events n queue)) (Some tt) h (flushed h.start.0 h.end.0 [])
  unfolding drained
  last l = rw (drop_of_length-le (events n queue) {i = i} (omega (arith, rows-length event_at n queue))) at head.puts

-- what was put out of a first event on is what is to be handed out
module _ {es : List Event} {h h' : Held} (first : h.count ≡ 0) where
  ends : {left : List Event} {r : Option (Unit {0})} → Puts h es r h' left → after r h' left ≡ out (answered (length es) (length h.room.now / event_numbers)) (handed es h.room.now)
  unfolding after
  ends p = p.same ∙ ap (λ (k : ℕ). put_all es (out (Some k) h.room.now)) first ∙ put-all-room es h.room.now

  pub ends-full : {left : List Event} → Puts h es None h' left → (None ≡ answered (length es) (length h.room.now / event_numbers)) × (h'.room.now ≡ handed es h.room.now)
  unfolding after
  ends-full p = (ap (λ (s : Out). s.answer) (ends p), ap (λ (s : Out). s.room) (ends p))

  pub ends-all : Puts h es (Some tt) h' [] → (Some h'.count ≡ answered (length es) (length h.room.now / event_numbers)) × (h'.room.now ≡ handed es h.room.now)
  unfolding after put_all
  ends-all p = (ap (λ (s : Out). s.answer) (ends p), ap (λ (s : Out). s.room) (ends p))
