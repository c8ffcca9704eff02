-- `packed::pack` meets its contract, by the laws of `Concluding`.
use Rattle.std.proofs.Common.{arith}
use Rattle.std.proofs.lemmas.Grind.{common_steps}
use Rattle.packed.proofs.Concluding.{written-packing}
use Rattle.packed.proofs.pack.Goals as goal

pub returns : goal.returns
returns c =
    let put = c.put_list-packed in
    let both = written-packing c.args.events.now c.args.out.now put.new.room put.result put.auto.room put.ensures.answer put.ensures.bytes c.from.result _ c.from.ensures (grind (arith, common_steps)) in
    record { as_defined = both.0; room_suffices = both.1 }
