-- A run that opens, and the dollars before it.
use Rattle.std.specs.Prelude.{None, Option, Some, true, false}
use Prim.Native.Nat.{ℕ, suc, ◌+◌, ◌-◌, ◌≤◌, ◌<◌}
use mathlib.Core.Path.{◌≡◌, refl, sym, ap, ◌∙◌}
use mathlib.Core.List.{List, [], ◌∷◌}
use native.Mathlib.Omega.{arith}
use lib.Dec.{eqb}
use lib.ListN.{length}
use Rattle.reading.specs.declared.Event.{Event}
use Rattle.reading.specs.declared.Place.{Place}
use Rattle.reading.specs.declared.Verbatim.{Verbatim}
use Rattle.reading.specs.Events.{place, homed, nowhere, shorter}
use Rattle.reading.specs.Machine.{View, Turn, puts, with_queue, with_inside}
use Rattle.reading.specs.Verbatim.{flagged, taken, opened_as, opens_verbatim}
use Rattle.reading.proofs.Choose.{choose}
use Rattle.reading.proofs.Ends.{amend-last-at, shorter-none}
use Rattle.rooms.specs.declared.Parser.{Parser}
use Rattle.rooms.specs.declared.span.Span.{Span}
use Rattle.rooms.specs.Records.{event_at}
use Rattle.rooms.specs.Standing.{here}
use Rattle.rooms.specs.Steps.{state, staying, amending, Queued}
use Rattle.rooms.proofs.Rows.{rows-length}
use Rattle.rooms.proofs.Changing.{queue-step, queued-as, queued-on}
use Rattle.verbatim.specs.Opened.{leaving}

-- dollars that are none, and some
pub left-none : (d : ℕ) (p : Parser) → d ≡ 0 → Queued p p (staying p (leaving d))
left-none d p e =
    queue-step p p _ (ap (λ (q : List Event). staying p (with_queue q) (state p)) (rw e (sym (shorter-none (state p).queue)))) refl refl refl refl refl refl

pub left-some : (d : ℕ) (p r : Parser) → 0 < p.at.events → Queued p r (staying p (amending (shorter d) (p.at.events - 1))) → Queued p r (staying p (leaving d))
left-some d p r h c =
    queued-as p r _ c _
    (ap (λ (q : List Event). staying p (with_queue q) (state p))
    (sym (amend-last-at (shorter d) (state p).queue (p.at.events - 1) (omega (arith, h, rows-length event_at p.at.events p.queue.now)))))

-- an opening is a small container
pub opened-small : (n : ℕ) → opened_as n ≤ 11
unfolding opened_as
opened-small n =
    choose (λ (k : ℕ). k ≤ 11) (eqb n 0) _ _ (λ e. omega arith) (λ e. choose (λ (k : ℕ). k ≤ 11) (eqb n 1) _ _ (λ f. omega arith) (λ f. omega arith))

-- a run opens: the dollars leave the queue, the enter is put behind it, and the lexer goes on in verbatim
module _ (v : View) (h : Span) (p r t : Parser) (at to : Place) (isat : at ≡ place (v.base + h.from)) (isto : to ≡ place (v.base + h.to))
    (d : ℕ) (isd : d ≡ taken p.at.last at.0) (k : ℕ) (isk : k ≡ opened_as d)
    (e : Event) (ise : e ≡ homed (32 + k) nowhere (at.0 - d) to.0)
    (c : Queued p r (staying p (leaving d))) (g : Queued r t (staying r (puts (e ∷ []) None))) where
  pub opens-put : Queued p t (staying p (λ s. puts (e ∷ []) None (leaving d s)))
  opens-put = queued-on p r t _ _ c g

  pub opens-turn : record {
    cursor = flagged true t.at.cursor;
    state = with_inside (Some record { event = p.at.events; len = h.to - h.from; seen = false; run = false; keep = p.at.events + 1; here = true }) (state t);
  }
      ≡ opens_verbatim v (here h p.at) (state p)
  opens-turn =
      ap (λ (x : Turn). record { cursor = flagged true x.cursor; state = with_inside w x.state }) opens-put.changed.same
      ∙ rw (ise, isk, isto, these, isat, long, keep)
    where
      w : Option Verbatim
      w = Some record { event = p.at.events; len = h.to - h.from; seen = false; run = false; keep = p.at.events + 1; here = true }

      these : d ≡ taken p.at.last (v.base + h.from)
      these = isd ∙ ap (λ (x : Place). taken p.at.last x.0) isat

      long : length (state p).queue ≡ p.at.events
      long = rows-length event_at p.at.events p.queue.now

      keep : p.at.events + 1 ≡ suc p.at.events
      keep = omega arith
