-- `render::render`: an event that is written, and the end of the events.
use Rattle.std.proofs.Common.{rules, length, ◌/◌}
use Rattle.reading.specs.Events.{event_numbers}
use Rattle.markup.proofs.Raw.{raw-few}
use Rattle.output.proofs.Appending.{adds-wrote, adds-over}
use Rattle.render.proofs.Turns.{event-turn, event-full, events-end}
use Rattle.render.proofs.render.Goals as goal

pub returns-in_err-put_outside : goal.returns-in_err-put_outside
returns-in_err-put_outside c =
    let wrote = adds-over _ _ _ (event-full c.args.text.now c.args.events.now (length c.args.events.now / event_numbers) c.loop-i.raw c.loop-i.i c.loop-i.invariant.1 c.loop-i-test.true c.event_at-e.result c.event_at-e.ensures _ c.in_err-put_outside.ensures) in
    rw c.from_residual.ensures (search (rules, wrote))

pub loop-i-preserved : goal.loop-i-preserved
loop-i-preserved c =
    rw c.raw_behind-raw.ensures (
      raw-few c.loop-i.raw c.event_at-e.result.kind c.loop-i.i c.loop-i.invariant.0,
      event-turn c.args.text.now c.args.events.now (length c.args.events.now / event_numbers) c.loop-i.raw c.loop-i.i c.loop-i.invariant.1 c.loop-i-test.true c.event_at-e.result c.event_at-e.ensures _ c.in_ok-put_outside.ensures,
    )

pub returns : goal.returns
returns c = let wrote = adds-wrote _ _ _ (events-end c.args.text.now c.args.events.now (length c.args.events.now / event_numbers) c.loop-i.raw c.loop-i.i c.loop-i.invariant.1 c.loop-i-test.false) in search (rules, wrote)
