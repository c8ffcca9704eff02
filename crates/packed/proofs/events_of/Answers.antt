-- `packed::events_of` meets its contract, by the laws of `Concluding`.
use Rattle.std.proofs.Common.{arith}
use Rattle.std.proofs.lemmas.Result.{err_from_is_err_and}
use Rattle.packed.proofs.Concluding.{as_read, as-short, as-fault}
use Rattle.packed.proofs.events_of.Goals as goal

pub returns-in_err-n-clause-as_defined : goal.returns-in_err-n-clause-as_defined
returns-in_err-n-clause-as_defined c =
    let p = err_from_is_err_and c.from_residual.result c.from_residual.ensures.1 in
    rw (p.1, p.2) (as-fault c.args.room.now c.list.new.room c.list.auto.room _ _ c.in_err-n.ensures)

pub returns-then-n-room-clause-as_defined : goal.returns-then-n-room-clause-as_defined
returns-then-n-room-clause-as_defined c = as-short c.args.room.now c.list.new.room c.list.auto.room _ _ c.in_ok-n.ensures (omega (arith, c.list.auto.room))

pub returns-clause-as_defined : goal.returns-clause-as_defined
returns-clause-as_defined c = as_read c.args.room.now c.list.new.room c.list.auto.room _ _ c.in_ok-n.ensures (omega (arith, c.list.auto.room))
