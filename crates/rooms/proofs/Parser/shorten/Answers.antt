-- `Parser::shorten` meets its contract, by the laws of `Laws`.
use mathlib.Core.Path.{refl, ap}
use mathlib.Core.List.{List}
use Rattle.reading.specs.declared.Event.{Event}
use Rattle.reading.specs.Events.{shorter}
use Rattle.reading.specs.Machine.{with_queue}
use Rattle.rooms.specs.Steps.{state, staying}
use Rattle.rooms.proofs.Laws.{replaced}
use Rattle.rooms.proofs.Changing.{queue-step}
use Rattle.rooms.proofs.Parser.shorten.Goals as goal

pub returns-clause-queued : goal.returns-clause-queued
returns-clause-queued c =
    let p = c.args.self.now in
    queue-step p _ _
    (ap (λ (x : List Event). staying p (with_queue x) (state p))
    (rw c.store.ensures
    (replaced p.queue.now c.args.i _ c.requires.queue_numbers_in_bounds (shorter c.args.bytes)
    (ap (λ (e : Event). shorter c.args.bytes e) c.event_at-e.ensures) p.at.events)))
    refl c.store.auto.room refl refl refl refl

pub returns-clause-all : goal.returns-clause-all
returns-clause-all c n =
    let p = c.args.self.now in
    rw c.store.ensures
    (replaced p.queue.now c.args.i _ c.requires.queue_numbers_in_bounds (shorter c.args.bytes)
    (ap (λ (e : Event). shorter c.args.bytes e) c.event_at-e.ensures) n)
