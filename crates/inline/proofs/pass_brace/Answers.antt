-- `inline::pass_brace` meets its contract: there is room for its one event.
use native.Mathlib.Omega.{arith}
use Rattle.rooms.proofs.Changing.{queued-holding}
use Rattle.inline.proofs.pass_brace.Goals as goal

pub returns-clause-held : goal.returns-clause-held
returns-clause-held c h =
    queued-holding _ _ _ c.put.ensures.queued (omega (arith, c.put.ensures.count, c.requires.room))
    record { queue_held = h.queue_held; openers_held = h.openers_held; labels_held = h.labels_held }
