-- `render::put_text`: at the loop's head the rest is left to write; the measure is how long it is.
use Rattle.std.proofs.Common.{length}
use Rattle.output.proofs.Appending.{Left}
use Rattle.markup.specs.Markup.{escaped}
use Rattle.render.proofs.put_text.Given as goal

abbrev pub invariant-loop-b : goal.invariant-loop-b
invariant-loop-b l = Left l.fn.out (escaped l.text) l.out (escaped l.rest)

abbrev pub decreases-loop-b : goal.decreases-loop-b
decreases-loop-b l = length l.rest
