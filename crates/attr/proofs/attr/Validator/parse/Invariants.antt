-- `attr::attr::Validator::parse` meets its contract: `Going` holds at the loop's head.
use Rattle.attr.proofs.Feeding.{Going}
use Rattle.attr.proofs.attr.Validator.parse.Given as goal

abbrev pub invariant-loop-c : goal.invariant-loop-c
invariant-loop-c l = Going l.input l.initial.state l.c-index l.state
