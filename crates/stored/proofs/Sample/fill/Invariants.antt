-- What stands in the front of the room is made of the numbers that were read.
use Rattle.std.proofs.Common.{◌≡◌, take}
use Rattle.std.specs.List.{AllZip}
use Rattle.stored.specs.Numbers.{numbers, behind}
use Rattle.stored.proofs.Sample.fill.Given as goal

abbrev pub invariant-loop-x : goal.invariant-loop-x
invariant-loop-x g l =
    record {
      front : AllZip (goal.F-post g l.element) (numbers l.x-index l.initial.self.bytes.now l.initial.self.at) (take l.x-index l.x-items);
      place : l.self.at ≡ behind l.x-index l.initial.self.bytes.now l.initial.self.at;
      bytes : l.self.bytes ≡ l.initial.self.bytes;
    }
