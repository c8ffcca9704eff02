-- `labels::bytes`: at the loop's head the bytes from the i-th on are left to write, and come to the same state.
use Rattle.std.proofs.Common.{◌≡◌, drop}
use Rattle.output.proofs.Appending.{Left}
use Rattle.labels.specs.Building.{given, behind}
use Rattle.labels.proofs.bytes.Given as goal

abbrev pub invariant-loop-b : goal.invariant-loop-b
invariant-loop-b l = Left l.fn.out (given l.fn.j l.s) l.out (given l.j (drop l.b-index l.s)) × (behind l.j (drop l.b-index l.s) ≡ behind l.fn.j l.s)
