-- `reader::judge` meets its contract, by the laws of `Ending`.
use Rattle.std.proofs.Common.{refl, ◌∙◌}
use Rattle.rooms.specs.Standing.{stands}
use Rattle.reader.proofs.Ending.{judged_accepted, judged_refused}
use Rattle.reader.proofs.judge.Goals as goal

pub returns-in-Ok-clause-value : goal.returns-in-Ok-clause-value
returns-in-Ok-clause-value c =
    let r = c.args.rooms.now in
    c.accept.ensures.value
    ∙ judged_accepted (stands c.args.p r.queue.now r.openers.now r.labels.now) r.events.now r.queue.now r.openers.now
    r.labels.now c.args.p.refused c.args.p.fits c.hand_out.ensures.value c.in-Ok.is c.in-Ok.ensures.events_after refl
    c.requires.labels

pub returns-in-Err-clause-value : goal.returns-in-Err-clause-value
returns-in-Err-clause-value c =
    let r = c.args.rooms.now in
    judged_refused (stands c.args.p r.queue.now r.openers.now r.labels.now) r.events.now r.queue.now r.openers.now
    r.labels.now c.args.p.refused c.args.p.fits c.hand_out.ensures.value c.in-Err.is c.hand_out.new.events
    c.hand_out.auto.events c.into.ensures c.clear.ensures.value
