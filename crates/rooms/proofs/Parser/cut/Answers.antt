-- `Parser::cut` meets its contract: fewer records are the first of them.
use mathlib.Core.Path.{refl, ap}
use mathlib.Core.List.{List}
use Rattle.reading.specs.declared.Event.{Event}
use Rattle.reading.specs.Machine.{with_queue}
use Rattle.rooms.specs.Records.{event_at}
use Rattle.rooms.specs.Steps.{state, staying}
use Rattle.rooms.proofs.Rows.{rows_cut}
use Rattle.rooms.proofs.Changing.{queue-step}
use Rattle.rooms.proofs.Parser.cut.Goals as goal

pub returns-clause-queued : goal.returns-clause-queued
returns-clause-queued c =
    let p = c.args.self.now in
    queue-step p _ _
    (ap (λ (x : List Event). staying p (with_queue x) (state p)) (rows_cut event_at c.args.n p.at.events p.queue.now c.requires))
    refl refl refl refl refl refl
