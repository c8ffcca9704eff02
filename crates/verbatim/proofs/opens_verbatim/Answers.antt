-- `verbatim::opens_verbatim` meets its contract, by the laws of `Opening`.
use mathlib.Core.Path.{refl}
use native.Mathlib.Omega.{arith}
use Rattle.rooms.specs.Standing.{viewed}
use Rattle.rooms.proofs.Changing.{queued-to}
use Rattle.verbatim.proofs.Opening.{opened-small, opens-put, opens-turn}
use Rattle.verbatim.proofs.opens_verbatim.Goals as goal

pub overflow_add-opened_as : goal.overflow_add-opened_as
overflow_add-opened_as c = omega (arith, c.opened_as.ensures, opened-small c.taken-dollars.result)

pub returns : goal.returns
returns c =
    let v = viewed c.args.v.now in
    let h = c.args.h in
    let p = c.args.p.now in
    queued-to p _ _ _ _
    (opens-put v h p _ _ _ _ c.place-at.ensures c.place.ensures _ c.taken-dollars.ensures _ c.opened_as.ensures
    _ c.event_of-e.ensures c.leave.ensures.queued c.push.ensures.queued)
    refl refl refl refl refl
    (rw c.flagged-p.ensures
    (opens-turn v h p _ _ _ _ c.place-at.ensures c.place.ensures _ c.taken-dollars.ensures _ c.opened_as.ensures
    _ c.event_of-e.ensures c.leave.ensures.queued c.push.ensures.queued))
