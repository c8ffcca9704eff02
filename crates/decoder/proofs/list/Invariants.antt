-- `decoder::list` meets its contract, by the laws of `Keeping`.
use Rattle.std.proofs.Common.{◌/◌, length}
use Rattle.reading.specs.Events.{event_numbers}
use Rattle.decoder.proofs.Keeping.{Seen}
use Rattle.decoder.proofs.list.Given as goal

abbrev pub invariant-loop-i : goal.invariant-loop-i
invariant-loop-i l = Seen l.bytes l.n (length l.initial.room / event_numbers) l.room l.input l.prev l.i
