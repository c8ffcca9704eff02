-- `questions::check_lines` meets its contract, by the laws of `Walking`.
use Rattle.std.proofs.Common.{Ok, arith}
use Rattle.std.proofs.lemmas.Result.{err_from_is_err_and}
use Rattle.questions.proofs.Walking.{going_first, going_on, going_out, going_end, checked_small}
use Rattle.questions.proofs.check_lines.Goals as goal

pub loop-i-init : goal.loop-i-init
loop-i-init g c = going_first

pub returns-in_err-w-clause-value : goal.returns-in_err-w-clause-value
returns-in_err-w-clause-value g c =
    let p = err_from_is_err_and c.from_residual.result c.from_residual.ensures.1 in
    rw (p.1, p.2) (going_out c.loop-i.invariant (omega (arith, c.loop-i-test.true, c.count-i-end.ensures)) c.line.ensures
    c.walk_line.ensures c.in_err-w.was)

pub loop-i-preserved : goal.loop-i-preserved
loop-i-preserved g c =
    going_on c.loop-i.invariant (omega (arith, c.loop-i-test.true, c.count-i-end.ensures)) c.line.ensures
    c.walk_line.ensures c.requires.text_len_bound c.in_ok-w.was

pub returns-in-Some-clause-value : goal.returns-in-Some-clause-value
returns-in-Some-clause-value g c =
    let e = going_end c.loop-i.invariant (omega (arith, c.loop-i-test.false, c.count-i-end.ensures)) in
    rw c.in-Some.is at e

pub returns-in-None : goal.returns-in-None
returns-in-None g c =
    let e = going_end c.loop-i.invariant (omega (arith, c.loop-i-test.false, c.count-i-end.ensures)) in
    let v = rw c.in-None.is at e in
    record { value = v; small = checked_small c.args.text.now _ c.requires.text_len_bound (Ok c.loop-i.w.total) v }
