-- `render::put_text`: bytes that are written as they are, another byte, and the end of the text.
use Rattle.std.proofs.Common.{refl}
use Rattle.output.proofs.Appending.{left-all}
use Rattle.markup.specs.Markup.{escaped}
use Rattle.render.proofs.Turns.{plain-turn, byte-turn, byte-full, text-end}
use Rattle.render.proofs.put_text.Goals as goal

pub loop-b-init : goal.loop-b-init
loop-b-init c = let p = c.put_while.ensures in
    plain-turn c.args.text.now (left-all c.args.out.now (escaped c.args.text.now)) c.put_while.result _ p.within p.added (λ k h. p.kept k h refl)

pub returns-in_err-put_escaped : goal.returns-in_err-put_escaped
returns-in_err-put_escaped c =
    rw c.from_residual.ensures (byte-full c.loop-b.rest.now c.loop-b.invariant c.in-Some.b.now c.in-Some.behind.now c.in-Some.ensures.cases.0 _ c.in_err-put_escaped.ensures)

pub loop-b-preserved : goal.loop-b-preserved
loop-b-preserved c = let p = c.put_while-in-Some.ensures in
    plain-turn c.in-Some.behind.now
    (byte-turn c.loop-b.rest.now c.loop-b.invariant c.in-Some.b.now c.in-Some.behind.now c.in-Some.ensures.cases.0 _ c.in_ok-put_escaped.ensures)
    c.put_while-in-Some.result _ p.within p.added (λ k h. p.kept k h refl)

pub returns : goal.returns
returns c = text-end c.loop-b.rest.now c.loop-b.invariant c.in_default.ensures.cases
