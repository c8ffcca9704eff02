-- A piece ends at a newline, since the closure answers whether a byte is one.
use Rattle.std.proofs.Common.{rules, arith, refl, ◌∙◌, length-append}
use Rattle.std.proofs.lemmas.Fn.{always_returns_same}
use lib.Dec.{eqb}
use Rattle.input.proofs.Splitting.{put_line}
use Rattle.input.proofs.split_lines.Goals as goal

pub loop-line-preserved : goal.loop-line-preserved
loop-line-preserved c =
    let kept = c.loop-line.invariant in
    let cut = c.in-Some.ensures.steps in
    let first = (cut.1.2 (λ b. eqb b 10) (always_returns_same _ _ _ (λ a r f k. (search rules, refl)))).1 in
    record {
      whole = put_line _ _ _ _ _ _ _ (omega (arith, c.requires, kept, c.loop-line.auto.room, cut.2)) cut.0 (cut.2, cut.1.1, first) ∙ kept.whole;
      few = grind (arith, length-append);
      left = grind (arith, length-append);
    }
