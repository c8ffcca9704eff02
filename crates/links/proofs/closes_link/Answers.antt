-- `links::closes_link` meets its contract, by the laws of `Linking`.
use mathlib.Core.Path.{refl, ◌∙◌}
use native.Mathlib.Omega.{arith}
use Rattle.std.proofs.Common.{rules}
use Rattle.rooms.specs.Standing.{viewed}
use Rattle.rooms.proofs.Changing.{lent-then, lent-as, queued-on}
use Rattle.links.proofs.Linking.{linked-turn}
use Rattle.links.proofs.closes_link.Goals as goal

-- none of the three changes of the queue writes an opener
pub returns-clause-opener_room : goal.returns-clause-opener_room
returns-clause-opener_room c = c.cut.ensures.queued.opener_room ∙ c.set_kind_to.ensures.queued.opener_room ∙ c.set_kind.ensures.queued.opener_room

-- of the queue no more is counted than before, and the label fits its room
pub returns-clause-held : goal.returns-clause-held
returns-clause-held c h =
    let all = queued-on _ _ _ _ _ (queued-on _ _ _ _ _ c.set_kind.ensures.queued c.set_kind_to.ensures.queued) c.cut.ensures.queued in
    record {
      queue_held = omega (arith, c.cut.ensures.count, c.requires.event_lt_events, c.requires.queue_numbers_in_bounds, all.changed.lent.queue_length);
      openers_held = rw (all.openers, all.opener_room) h.openers_held;
      labels_held = omega (arith, c.label_of-label.ensures.room, all.changed.lent.labels_length);
    }

pub returns-clause-stepped : goal.returns-clause-stepped
returns-clause-stepped c x =
    let p = c.args.p.now in
    let all = queued-on _ _ _ _ _ (queued-on _ _ _ _ _ c.set_kind.ensures.queued c.set_kind_to.ensures.queued) c.cut.ensures.queued in
    record {
      same = rw all.changed.label_room
          (linked-turn x c.args.text.now (viewed c.args.v.now) c.args.h c.args.t c.args.o p c.requires.event_lt_events
          _ _ refl refl refl _ c.place.ensures c.label_of-label.result.home c.label_of-label.result.labels c.label_of-label.result.fits
          c.label_of-label.new.labels c.label_of-label.ensures.same _ c.place-2.ensures all);
      lent = lent-as p _ _ (lent-then p _ _ (search rules) all.changed.lent) refl refl refl;
      labels = rw all.changed.label_room c.label_of-label.ensures.room;
    }
