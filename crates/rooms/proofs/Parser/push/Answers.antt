-- `Parser::push` meets its contract, by the laws of `Laws`.
use mathlib.Core.Path.{refl, ap}
use mathlib.Core.List.{List}
use native.Mathlib.Numerals.{add-one}
use native.Mathlib.Omega.{arith}
use Rattle.reading.specs.declared.Event.{Event}
use Rattle.reading.specs.Machine.{noting}
use Rattle.rooms.specs.Steps.{state, staying}
use Rattle.rooms.proofs.Laws.{pushed}
use Rattle.rooms.proofs.Changing.{queue-step}
use Rattle.rooms.proofs.Parser.push.Goals as goal

pub returns-clause-queued : goal.returns-clause-queued
returns-clause-queued c =
    let p = c.args.self.now in
    queue-step p _ _
    (ap (λ (x : List Event). staying p (noting x c.args.last) (state p))
    (rw (c.store.ensures, add-one) (pushed p.queue.now p.at.events c.args.e (omega (arith, c.requires)))))
    refl c.store.auto.room refl refl refl refl
