-- `decoder::list` meets its contract, by the laws of `Keeping`.
use Rattle.std.proofs.Common.{arith, refl, ◌∙◌}
use Rattle.std.proofs.lemmas.Result.{err_from_is_err_and}
use Rattle.decoder.proofs.Keeping.{count_fault, seen_first, seen-fault, seen_more, seen-rest, seen_all}
use Rattle.decoder.proofs.list.Goals as goal
use Rattle.decoder.proofs.list.Goals.{then-keep, else-keep}

pub returns-in_err-n : goal.returns-in_err-n
returns-in_err-n c =
    let p = err_from_is_err_and c.from_residual.result c.from_residual.ensures.1 in
    rw (p.1, p.2) (count_fault c.number.ensures refl _ _ _ c.in_err-n.was)

pub loop-i-init : goal.loop-i-init
loop-i-init c = seen_first c.number.ensures refl _ _ _ c.in_ok-n.was

pub returns-in_err-r : goal.returns-in_err-r
returns-in_err-r c =
    let p = err_from_is_err_and c.from_residual-in_err-r.result c.from_residual-in_err-r.ensures.1 in
    rw (p.1, p.2) (seen-fault c.loop-i.invariant c.loop-i-test.true c.event.ensures _ c.in_err-r.was)

pub loop-i-preserved : goal.loop-i-preserved
loop-i-preserved c =
    seen_more c.loop-i.invariant c.loop-i-test.true c.event.ensures _ _ c.in_ok-r.was
    (elim c.if-keep.branch [
      | then-keep w ↦ λ k. (w.room-is ∙ w.store.ensures, omega arith)
      | else-keep w ↦ λ k. absurd (omega arith)
    ])

pub returns-then-input-bytes : goal.returns-then-input-bytes
returns-then-input-bytes c = rw c.at.ensures (seen-rest c.loop-i.invariant (omega arith) c.if-input-bytes.true)

pub returns : goal.returns
returns c = seen_all c.loop-i.invariant (omega arith) c.if-input-bytes.false
