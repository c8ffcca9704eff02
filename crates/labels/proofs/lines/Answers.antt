-- `labels::lines`: an event that is written, and the end of the events.
use Rattle.std.proofs.Common.{rules, subst}
use Rattle.output.proofs.Appending.{Left, adds-wrote, adds-over, left_less, left-full, left-none}
use Rattle.labels.proofs.Loops.{lines-next, lines-end}
use Rattle.labels.proofs.lines.Goals as goal

pub returns-in_err-stretch : goal.returns-in_err-stretch
returns-in_err-stretch c =
    let next = subst (Left _ _ _) (lines-next _ _ _ _ _ _ _ c.loop-i-test.true c.event_at-e.ensures) c.loop-i.invariant in
    let wrote = adds-over _ _ _ (left-full _ _ _ next c.in_err-stretch.ensures.bytes) in
    rw c.from_residual.ensures (search (rules, wrote))

pub loop-i-preserved : goal.loop-i-preserved
loop-i-preserved c =
    rw c.in_ok-stretch.ensures.joint
    (left_less _ _ _ (subst (Left _ _ _) (lines-next _ _ _ _ _ _ _ c.loop-i-test.true c.event_at-e.ensures) c.loop-i.invariant) c.in_ok-stretch.ensures.bytes)

pub returns : goal.returns
returns c =
    let wrote = adds-wrote _ _ _ (left-none (subst (Left _ _ _) (lines-end _ _ _ _ _ _ c.loop-i-test.false) c.loop-i.invariant)) in
    search (rules, wrote)
