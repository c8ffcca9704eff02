-- `verdict::conclude`: the reader's refusals come first.
use Rattle.std.proofs.Common.{arith, rules}
use Rattle.std.proofs.lemmas.Grind.{common_steps}
use Rattle.outcome.specs.Lending.{held}
use Rattle.verdict.proofs.Concluding.{concluded-early, concluded-ok, concluded-err}
use Rattle.verdict.proofs.conclude.Goals as goal

pub returns-then-a-ne0-clause-value : goal.returns-then-a-ne0-clause-value
returns-then-a-ne0-clause-value c =
    let comes = concluded-early c.args.text.now c.args.rooms.now.events.now c.args.a (held c.args.rooms.now) c.args.out.now c.if-a-ne0.true in
    search (rules, comes)

pub overflow_cast-result : goal.overflow_cast-result
overflow_cast-result c =
    let comes = concluded-ok c.args.text.now c.args.rooms.now.events.now c.args.a (held c.args.rooms.now) c.args.out.now c.requires c.if-a-ne0.false _ c.handed.ensures c.show.new.out c.show.auto.out c.in-Ok.n c.in-Ok.ensures.within c.in-Ok.ensures.shown in
    search (rules, comes.1)

pub returns-in-Ok-clause-value : goal.returns-in-Ok-clause-value
returns-in-Ok-clause-value c =
    let comes = concluded-ok c.args.text.now c.args.rooms.now.events.now c.args.a (held c.args.rooms.now) c.args.out.now c.requires c.if-a-ne0.false _ c.handed.ensures c.show.new.out c.show.auto.out c.in-Ok.n c.in-Ok.ensures.within c.in-Ok.ensures.shown in
    comes.0 _ (grind (arith, common_steps))

pub returns-in-Err-clause-value : goal.returns-in-Err-clause-value
returns-in-Err-clause-value c =
    let comes = concluded-err c.args.text.now c.args.rooms.now.events.now c.args.a (held c.args.rooms.now) c.args.out.now c.requires c.if-a-ne0.false _ c.handed.ensures c.show.new.out c.show.auto.out c.in-Err.r c.in-Err.ensures.shown in
    search (rules, comes)
