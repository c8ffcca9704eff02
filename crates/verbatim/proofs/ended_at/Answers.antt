-- `verbatim::ended_at` meets its contract, by the laws of `Closing`.
use Rattle.verbatim.proofs.Closing.{ended-in}
use Rattle.verbatim.proofs.ended_at.Goals as goal

pub returns-in-Some : goal.returns-in-Some
returns-in-Some c = ended-in c.args.end.0 c.args.p.now _ c.in-Some.w c.in-Some.is c.exits.ensures
