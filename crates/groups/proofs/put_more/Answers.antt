-- `groups::put_more` meets its contract, by the laws of `Turns`.
use native.Mathlib.Omega.{arith}
use Rattle.groups.proofs.Turns.{rest_full, rest_last}
use Rattle.groups.proofs.put_more.Goals as goal

pub returns-in_err-put_byte : goal.returns-in_err-put_byte
returns-in_err-put_byte c = rw c.from_residual.ensures (rest_full c.loop-rest.invariant _ c.loop-rest-test.true c.in_err-put_byte.ensures.added)

pub returns : goal.returns
returns c = rest_last c.loop-rest.invariant _ (omega arith) _ c.put_byte-2.ensures.added
