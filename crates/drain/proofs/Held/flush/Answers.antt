-- `Held::flush`: the Str is handed out.
use Rattle.std.proofs.Common.{rules}
use Rattle.reading.specs.Draining.{flushed}
use Rattle.drain.proofs.Held.flush.Goals as goal

pub returns : goal.returns
unfolding flushed
returns c es = let p = c.hand_out.ensures es in search (rules, p)
