-- Each number that is read makes the next element.
use Rattle.std.proofs.Common.{◌≡◌, rules, arith}
use Rattle.stored.specs.Numbers.{numbers, number_at, behind}
use Rattle.stored.proofs.Filling.{front_more, behind_more}
use Rattle.stored.proofs.Sample.fill.Goals as goal

pub loop-x-init : goal.loop-x-init
unfolding numbers behind
loop-x-init g c = search rules

pub loop-x-preserved : goal.loop-x-preserved
loop-x-preserved g c =
    let more = behind_more c.loop-x.x-index c.args.self.now.bytes.now c.args.self.now.at in
    let read : c.number.result ≡ (number_at c.args.self.now.bytes.now (behind c.loop-x.x-index c.args.self.now.bytes.now c.args.self.now.at)).value = cc in
    record {
      front = front_more _ _ _ _ _ _ _ read c.element.ensures (omega arith) c.loop-x.invariant.front;
      place = cc;
      bytes = search rules;
    }
