-- `sheets::block_at` meets its contract, by the laws of `Asking`.
use Rattle.std.proofs.Common.{◌<◌, length, sym, ap, ◌∙◌, arith}
use Rattle.reading.specs.declared.Line.{Line}
use Rattle.sheets.proofs.Asking.{asked-first, asked-decided, asked-all, asked-next, line-ordered, line-later, line-within}
use Rattle.sheets.proofs.block_at.Goals as goal

pub validate-v-requires-clause-end_in_bounds : goal.validate-v-requires-clause-end_in_bounds
validate-v-requires-clause-end_in_bounds g c =
    omega (arith, line-within c.requires c.args.i c.requires.some, ap (λ (z : Line). z.end) c.line-here.ensures)

pub loop-k-init : goal.loop-k-init
loop-k-init g c =
    asked-first c.requires c.new.result c.new.ensures _ (ap (λ (z : Line). z.end) c.line-here.ensures) c.validate-v.result
    c.validate-v.ensures

pub returns-then-decided : goal.returns-then-decided
returns-then-decided g c =
    c.done.ensures ∙ asked-decided c.loop-k.invariant (sym c.decided.ensures ∙ c.if-decided.true)

pub validate-v-requires-in-loop-k : goal.validate-v-requires-in-loop-k
validate-v-requires-in-loop-k g c =
    let some : c.loop-k.k < length (g.L.Lines.listed c.args.lines) = omega (arith, c.loop-k-test.true, c.count-k-end.ensures) in
    let later = line-later c.requires c.loop-k.k c.loop-k.invariant.past some in
    record {
      start_le_end = omega (
        arith,
        line-ordered c.requires c.loop-k.k some,
        later,
        ap (λ (z : Line). z.end) c.line-here.ensures,
        ap (λ (z : Line). z.start) c.line.ensures,
        ap (λ (z : Line). z.end) c.line.ensures,
      );
      end_in_bounds = omega (arith, line-within c.requires c.loop-k.k some, ap (λ (z : Line). z.end) c.line.ensures);
    }

pub loop-k-preserved : goal.loop-k-preserved
loop-k-preserved g c =
    asked-next c.loop-k.invariant (omega (arith, c.loop-k-test.true, c.count-k-end.ensures)) c.line.ensures
    c.validate-v-in-loop-k.ensures

pub returns : goal.returns
returns g c = c.done-2.ensures ∙ asked-all c.loop-k.invariant (omega (arith, c.loop-k-test.false, c.count-k-end.ensures))
