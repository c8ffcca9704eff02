-- `atoms::dashes` meets its contract, by the laws of `Putting`.
use Prim.Native.Nat.{◌-◌}
use native.Mathlib.Omega.{arith}
use Rattle.dash.proofs.Splits.{dashes-whole}
use Rattle.atoms.proofs.Putting.{dashes-put}
use Rattle.atoms.proofs.dashes.Goals as goal

pub row-requires-clause-w_bound : goal.row-requires-clause-w_bound
row-requires-clause-w_bound c = let few = rw (← c.split_hyphens-d.ensures) at (dashes-whole (c.args.h.to - c.args.h.from) (omega (arith, c.requires))) in
    omega (arith, few, c.requires)

pub row-requires-clause-room : goal.row-requires-clause-room
row-requires-clause-room c = let few = rw (← c.split_hyphens-d.ensures) at (dashes-whole (c.args.h.to - c.args.h.from) (omega (arith, c.requires))) in
    omega (arith, few, c.requires)

pub overflow_mul-d : goal.overflow_mul-d
overflow_mul-d c = let few = rw (← c.split_hyphens-d.ensures) at (dashes-whole (c.args.h.to - c.args.h.from) (omega (arith, c.requires))) in
    omega (arith, few, c.requires)

pub overflow_add-h : goal.overflow_add-h
overflow_add-h c = let few = rw (← c.split_hyphens-d.ensures) at (dashes-whole (c.args.h.to - c.args.h.from) (omega (arith, c.requires))) in
    omega (arith, few, c.requires)

pub row-requires-2-clause-w_bound : goal.row-requires-2-clause-w_bound
row-requires-2-clause-w_bound c = let few = rw (← c.split_hyphens-d.ensures) at (dashes-whole (c.args.h.to - c.args.h.from) (omega (arith, c.requires))) in
    omega (arith, few, c.requires)

pub row-requires-2-clause-room : goal.row-requires-2-clause-room
row-requires-2-clause-room c = let few = rw (← c.split_hyphens-d.ensures) at (dashes-whole (c.args.h.to - c.args.h.from) (omega (arith, c.requires))) in
    omega (arith, few, c.requires, c.row.ensures.count, c.row.ensures.queued.changed.lent.queue_length)

pub returns : goal.returns
returns c = rw (← c.split_hyphens-d.ensures) (dashes-put c.args.p.now _ _ c.split_hyphens-d.result c.args.v.now.base c.args.h.from
    c.row.ensures.queued c.row-2.ensures.queued)
