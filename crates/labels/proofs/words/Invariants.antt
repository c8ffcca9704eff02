-- `labels::words`: at the loop's head the events from i on are left to write.
use Rattle.std.proofs.Common.{suc, ◌-◌, drop}
use Rattle.output.proofs.Appending.{Left}
use Rattle.reading.specs.Labels.{words as words_of}
use Rattle.rooms.specs.Records.{events}
use Rattle.labels.proofs.words.Given as goal

abbrev pub invariant-loop-i : goal.invariant-loop-i
invariant-loop-i l = Left l.initial.out (words_of l.text (drop (suc l.fn.d.span) (events (l.fn.d.event - 1) l.queue))) l.out (words_of l.text (drop l.i (events (l.fn.d.event - 1) l.queue)))
