-- `labels::bytes`: a byte that is written, and the end of the bytes.
use Rattle.std.proofs.Common.{subst, sym, ◌∙◌}
use lib.ListN.{drop_of_length-le}
use Rattle.output.proofs.Appending.{Left, left_less, left-full, left-none}
use Rattle.reading.specs.Labels.{pieces}
use Rattle.labels.specs.Building.{behind}
use Rattle.labels.proofs.Loops.{given-next, behind-next}
use Rattle.labels.proofs.bytes.Goals as goal

pub returns-in_err-byte-clause-bytes : goal.returns-in_err-byte-clause-bytes
returns-in_err-byte-clause-bytes c =
    rw c.from_residual.ensures (left-full _ _ _ (subst (Left _ _ _) (given-next _ _ _ c.loop-b-test.true) c.loop-b.invariant.0) c.in_err-byte.ensures.bytes)

pub loop-b-preserved : goal.loop-b-preserved
loop-b-preserved c =
    rw c.in_ok-byte.ensures.joint (
      left_less _ _ _ (subst (Left _ _ _) (given-next _ _ _ c.loop-b-test.true) c.loop-b.invariant.0) c.in_ok-byte.ensures.bytes,
      sym (behind-next _ _ _ c.loop-b-test.true) ∙ c.loop-b.invariant.1,
    )

pub returns-clause-bytes : goal.returns-clause-bytes
unfolding pieces
returns-clause-bytes c = left-none (rw (drop_of_length-le c.args.s.now c.loop-b-test.false) at c.loop-b.invariant.0)

pub returns-clause-joint : goal.returns-clause-joint
unfolding behind
returns-clause-joint c = rw (drop_of_length-le c.args.s.now c.loop-b-test.false) at c.loop-b.invariant.1
