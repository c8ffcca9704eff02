-- `verdict::find_barred`: one event after the other.
use Rattle.std.proofs.Common.{sym, ◌∙◌}
use Rattle.verdict.proofs.Concluding.{barred-here, barred-later, barred-none}
use Rattle.verdict.proofs.find_barred.Goals as goal

pub returns-then-barred : goal.returns-then-barred
returns-then-barred c = barred-here c.args.events.now _ c.loop-i.i _ c.loop-i.invariant c.loop-i-test.true
    c.event_at-e.result c.event_at-e.ensures (sym c.barred.ensures ∙ c.if-barred.true)

pub loop-i-preserved : goal.loop-i-preserved
loop-i-preserved c = barred-later c.args.events.now _ c.loop-i.i _ c.loop-i.invariant c.loop-i-test.true
    c.event_at-e.result c.event_at-e.ensures (sym c.barred.ensures ∙ c.if-barred.false)

pub returns : goal.returns
returns c = barred-none c.args.events.now _ c.loop-i.i _ c.loop-i.invariant c.loop-i-test.false
