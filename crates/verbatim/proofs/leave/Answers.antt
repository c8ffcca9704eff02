-- `verbatim::leave` meets its contract, by the laws of `Opening`.
use native.Mathlib.Omega.{arith}
use Rattle.verbatim.proofs.Opening.{left-none, left-some}
use Rattle.verbatim.proofs.leave.Goals as goal

pub returns-then-dollars-eq0-clause-queued : goal.returns-then-dollars-eq0-clause-queued
returns-then-dollars-eq0-clause-queued c = left-none c.args.dollars c.args.p.now c.if-dollars-eq0.true

pub returns-clause-queued : goal.returns-clause-queued
returns-clause-queued c = left-some c.args.dollars c.args.p.now c.shorten.new.self (omega (arith, c.if-dollars-eq0.false, c.requires.dollars.some)) c.shorten.ensures.queued
