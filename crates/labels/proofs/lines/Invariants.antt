-- `labels::lines`: at the loop's head the events from i on are left to write, behind a span that ends at `at`.
use Rattle.std.proofs.Common.{suc, false, drop}
use Rattle.output.proofs.Appending.{Left}
use Rattle.reading.specs.Labels.{stretches, pieces, separator}
use Rattle.rooms.specs.Records.{events}
use Rattle.labels.specs.Building.{given}
use Rattle.labels.proofs.lines.Given as goal

abbrev pub invariant-loop-i : goal.invariant-loop-i
invariant-loop-i l = Left l.initial.out (pieces (separator l.fn.d.inline) false false (stretches l.text l.fn.end.0 (drop (suc l.fn.d.event) (events l.n l.queue)))) l.out
    (given l.j (stretches l.text l.at.0 (drop l.i (events l.n l.queue))))
