-- `sheets::block_at` meets its contract, by the laws of `Asking`.
use Rattle.sheets.proofs.Asking.{Asked}
use Rattle.sheets.proofs.block_at.Given as goal

abbrev pub invariant-loop-k : goal.invariant-loop-k
invariant-loop-k g l = Asked l.text (g.L.Lines.listed l.lines) l.i l.at l.v l.k
