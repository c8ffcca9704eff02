-- `packed::unpack` meets its contract, by the laws of `Concluding`.
use Rattle.packed.proofs.Concluding.{told-enough}
use Rattle.packed.proofs.unpack.Goals as goal

pub returns-clause-room_suffices : goal.returns-clause-room_suffices
returns-clause-room_suffices c = told-enough c.args.bytes.now c.args.events.now c.restore.result c.restore.new.events c.restore.ensures.as_defined _ c.from.ensures (λ i. (c.type_inv.bytes i).fits)
