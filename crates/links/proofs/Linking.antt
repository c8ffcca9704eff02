-- A link's end: what the label and the two changed events make of the state.
use Rattle.std.specs.Prelude.{None}
use Prim.Native.Nat.{ℕ, suc, ◌+◌, ◌-◌, ◌<◌}
use mathlib.Core.Path.{◌≡◌, sym, ap, ◌∙◌}
use mathlib.Core.List.{List}
use mathlib.Core.Bool.{Bool}
use native.Mathlib.Numerals.{add-one}
use lib.ListN.{get_or, length, take, drop}
use Rattle.reading.specs.declared.Event.{Event}
use Rattle.reading.specs.declared.Home.{Home}
use Rattle.reading.specs.declared.Place.{Place}
use Rattle.reading.specs.declared.Target.{Target}
use Rattle.reading.specs.declared.Opener.{Opener}
use Rattle.reading.specs.Events.{place, becomes, becomes_to, enter, exit}
use Rattle.reading.specs.Machine.{Rules, View, State, Turn}
use Rattle.reading.specs.Labels.{Labelled, label_of, label_home}
use Rattle.reading.specs.Verbatim.{nothing}
use Rattle.reading.specs.Containers.{closes_link}
use Rattle.rooms.specs.declared.Parser.{Parser}
use Rattle.rooms.specs.declared.span.Span.{Span}
use Rattle.rooms.specs.Records.{event_at, events}
use Rattle.rooms.specs.Standing.{here}
use Rattle.rooms.specs.Steps.{state, staying, amending, cutting, Queued}
use Rattle.rooms.proofs.Rows.{rows_at}
use Rattle.links.specs.Linked.{linked}

module _ (rules : Rules) (text : List ℕ) (v : View) (h : Span) (t : Target) (x : Opener) (p : Parser) (in-queue : x.event < p.at.events) where
  -- the label, with the destination's event read from the room
  abbrev label : Place → Event → Labelled
  label at d =
      label_home (length p.labels.now) p.at.links (take p.at.labels p.labels.now) p.at.fits
      (label_of text t.inline v.base at.0 d (drop (suc x.span) (take (x.event - 1) (events p.at.events p.queue.now)))
      (drop (suc x.event) (events p.at.events p.queue.now)))

  -- what becomes of the queue
  abbrev linking : Home → ℕ → State → State
  linking home end s =
      cutting x.event (amending (becomes_to (exit t.container) home end) (x.event - 1) (amending (becomes (enter t.container) home) x.span s))

  -- what the code makes of the state behind it
  abbrev ended : List ℕ → Bool → State → State
  ended bs fits s =
      record {
        queue = s.queue;
        openers = s.openers;
        inside = s.inside;
        last = None;
        labels = bs;
        fits = fits;
        links = record { 0 = p.at.links.0 + 1 };
        refused = s.refused;
        looks = s.looks;
      }

  -- p₁ is the parser with the label built, p₄ the one with the queue changed
  pub linked-turn : (p₁ p₄ : Parser) → p₁.at ≡ p.at → p₁.queue ≡ p.queue → p₁.openers ≡ p.openers
      → (at : Place) → at ≡ place (v.base + h.from) → (home : Home) (used : ℕ) (fits : Bool) (l' : List ℕ)
      → record { home = home; labels = take used l'; fits = fits } ≡ label at (event_at p.queue.now x.event)
      → (end : Place) → end ≡ place (v.base + h.to) → Queued p₁ p₄ (staying p₁ (linking home end.0))
      → record { cursor = p₄.at.cursor; state = ended (take used l') fits (state p₄) }
      ≡ staying p (linked rules text p.labels.now v (here h p.at) t x) (state p)
  linked-turn p₁ p₄ a q o at isat home used fits l' sh end ise c =
      ap (λ (k : Turn). record { cursor = k.cursor; state = ended (take used l') fits k.state }) c.changed.same
      ∙ rw (a, q, o, ise, add-one)
      (ap (λ (z : Labelled). record { cursor = p.at.cursor; state = closes_link t.container z v (here h p.at) x (state p) })
      (sh ∙ ap (λ (z : Place). label z (event_at p.queue.now x.event)) isat ∙ ap (label (place (v.base + h.from))) (sym known)))
    where
      known : get_or (events p.at.events p.queue.now) x.event nothing ≡ event_at p.queue.now x.event
      known = rows_at event_at p.at.events p.queue.now x.event nothing in-queue
