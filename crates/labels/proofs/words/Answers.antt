-- `labels::words`: an event that is written, and the end of the events.
use Rattle.std.proofs.Common.{rules, subst}
use Rattle.output.proofs.Appending.{Left, adds-wrote, adds-over, left_less, left-full, left-none}
use Rattle.labels.proofs.Loops.{words-next, words-end}
use Rattle.labels.proofs.words.Goals as goal

pub returns-in_err-word : goal.returns-in_err-word
returns-in_err-word c =
    let next = subst (Left _ _ _) (words-next _ _ _ _ _ c.loop-i-test.true c.event_at.ensures) c.loop-i.invariant in
    let wrote = adds-over _ _ _ (left-full _ _ _ next c.in_err-word.ensures) in
    rw c.from_residual.ensures (search (rules, wrote))

pub loop-i-preserved : goal.loop-i-preserved
loop-i-preserved c =
    left_less _ _ _ (subst (Left _ _ _) (words-next _ _ _ _ _ c.loop-i-test.true c.event_at.ensures) c.loop-i.invariant) c.in_ok-word.ensures

pub returns : goal.returns
returns c =
    let wrote = adds-wrote _ _ _ (left-none (subst (Left _ _ _) (words-end _ _ _ _ c.loop-i-test.false) c.loop-i.invariant)) in
    search (rules, wrote)
