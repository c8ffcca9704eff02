-- `sheets::parse_line` meets its contract, by the laws of `Resuming`.
use Rattle.sheets.proofs.Resuming.{Walks}
use Rattle.sheets.proofs.parse_line.Given as goal

abbrev pub invariant-loop : goal.invariant-loop
invariant-loop g l = Walks l.text (g.L.Lines.listed l.lines) l.i l.reading l.fn.p l.p l.counter
