-- `drain::drain` meets its contract: `Head` of `proofs.Steps` holds at the loop's head.
use Rattle.std.proofs.Common.{rules, arith, refl, []}
use Rattle.drain.proofs.Steps.{puts_on, next, last, ends-full, ends-all}
use Rattle.drain.proofs.drain.Goals as goal

pub loop-i-preserved : goal.loop-i-preserved
loop-i-preserved c = record { inside = omega arith; puts = next c.loop-i.invariant c.loop-i-test.true c.event_at.ensures c.in_ok-event.ensures }

pub returns-in_err-event : goal.returns-in_err-event
returns-in_err-event c =
    let p = next c.loop-i.invariant c.loop-i-test.true c.event_at.ensures c.in_err-event.ensures in
    let both = ends-full refl p in
    rw c.from_residual.ensures (search (rules, p, both))

pub returns-in_err-flush : goal.returns-in_err-flush
returns-in_err-flush c =
    let p = puts_on (last c.loop-i.invariant c.loop-i-test.false) (c.in_err-flush.ensures []) in
    let both = ends-full refl p in
    rw c.from_residual-in_err-flush.ensures (search (rules, p, both))

pub returns : goal.returns
returns c =
    let p = puts_on (last c.loop-i.invariant c.loop-i-test.false) (c.in_ok-flush.ensures []) in
    let both = ends-all refl p in
    search (rules, p, both)
