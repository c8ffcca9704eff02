-- `inline::read_line` meets its contract, by the laws of `Turning`.
use Rattle.rooms.specs.Standing.{viewed}
use Rattle.inline.proofs.Turning.{Turns}
use Rattle.inline.proofs.read_line.Given as goal

abbrev pub invariant-loop : goal.invariant-loop
invariant-loop l = Turns l.text (viewed l.v) l.reading l.fn.p l.p l.counter
