-- `Held::event`: the room may be full at the Str that was held, or at the event.
use Rattle.std.proofs.Common.{rules, ◌∷◌}
use Rattle.reading.specs.Draining.{drained}
use Rattle.drain.specs.Storing.{after}
use Rattle.drain.proofs.Steps.{puts_on}
use Rattle.drain.proofs.Held.event.Goals as goal

pub returns-in_err-flush : goal.returns-in_err-flush
unfolding drained after
returns-in_err-flush c es = let p = c.in_err-flush.ensures (c.args.e ∷ drained c.args.e.end.0 c.args.e.end.0 es) in search (rules, p)

pub returns-in_err-hand_out : goal.returns-in_err-hand_out
unfolding drained after
returns-in_err-hand_out c es = let p = puts_on (c.in_ok-flush.ensures _) (c.in_err-hand_out.ensures (drained c.args.e.end.0 c.args.e.end.0 es)) in search (rules, p)

pub returns-then-e-ne-STR : goal.returns-then-e-ne-STR
unfolding drained after
returns-then-e-ne-STR c es = let p = puts_on (c.in_ok-flush.ensures _) (c.in_ok-hand_out.ensures (drained c.args.e.end.0 c.args.e.end.0 es)) in search (rules, p)

pub returns-in_err-flush-2 : goal.returns-in_err-flush-2
unfolding drained after
returns-in_err-flush-2 c es = let p = c.in_err-flush-2.ensures (drained c.args.e.start.0 c.args.e.end.0 es) in search (rules, p)

pub returns : goal.returns
unfolding drained after
returns c es = let p = c.in_ok-flush-2.ensures (drained c.args.e.start.0 c.args.e.end.0 es) in search (rules, p)
