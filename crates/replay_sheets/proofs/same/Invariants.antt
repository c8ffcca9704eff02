-- With the numbers that are left, all are compared.
use Rattle.std.proofs.Common.{◌≡◌, map, drop}
use Rattle.replay_sheets.specs.Rooms.{both, same_as}
use Rattle.replay_sheets.proofs.same.Given as goal

abbrev pub invariant-loop-n : goal.invariant-loop-n
invariant-loop-n g l =
    record {
      left : both l.same (same_as (map g.T.Number.value (drop l.n-index l.part)) l.sample.bytes.now l.sample.at) ≡ same_as (map g.T.Number.value l.part) l.initial.sample.bytes.now l.initial.sample.at;
      bytes : l.sample.bytes ≡ l.initial.sample.bytes;
    }
