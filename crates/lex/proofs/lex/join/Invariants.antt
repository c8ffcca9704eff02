-- `lex::lex::join` meets its contract: `Joining` holds at the loop's head. The measure is what is left of the line: a token is at least one byte.
use Prim.Native.Nat.{◌-◌}
use lib.ListN.{length}
use Rattle.lex.proofs.Texts.{Joining}
use Rattle.lex.proofs.lex.join.Given as goal

abbrev pub invariant-loop-t : goal.invariant-loop-t
invariant-loop-t l = Joining l.src l.from l.end

abbrev pub decreases-loop-t : goal.decreases-loop-t
decreases-loop-t l = length l.src - l.end
