-- `atoms::row` meets its contract, by the laws of `Putting`.
use Rattle.std.proofs.Common.{rules}
use Rattle.atoms.proofs.Putting.{begun-first, begun-more}
use Rattle.atoms.proofs.row.Goals as goal

pub loop-init : goal.loop-init
loop-init c = begun-first c.args.v.now.base c.args.kind c.args.w c.args.i c.args.p.now _ (search rules)

pub loop-preserved : goal.loop-preserved
loop-preserved c = begun-more c.args.v.now.base c.args.kind c.args.w c.args.i c.args.p.now c.loop.p c.loop.at c.loop.counter c.loop.invariant
    c.homed.result (search rules) _ c.push.ensures.queued c.push.ensures.count
