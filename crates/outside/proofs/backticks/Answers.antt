-- `outside::backticks` meets its contract: the dollars noted are those of the newest event.
use Prim.Native.Nat.{◌+◌}
use Rattle.std.proofs.Common.{rules}
use Rattle.reading.specs.Reading.{outside}
use Rattle.reading.specs.Looks.{seeks_by, looked}
use Rattle.outside.proofs.Single.{dollars-ended, queued_taken}
use Rattle.outside.proofs.backticks.Goals as goal

pub opens_verbatim-requires-clause-dollars : goal.opens_verbatim-requires-clause-dollars
opens_verbatim-requires-clause-dollars c = (dollars-ended c.args.p.now (c.args.v.now.base + c.args.h.from) c.requires.ended).0

pub opens_verbatim-requires-clause-from_bound : goal.opens_verbatim-requires-clause-from_bound
opens_verbatim-requires-clause-from_bound c = (dollars-ended c.args.p.now (c.args.v.now.base + c.args.h.from) c.requires.ended).1

pub returns : goal.returns
unfolding outside seeks_by looked
returns c x =
    let e = c.alone.ensures x in
    search rules

pub returns-then-h-le-LONGEST_RUN : goal.returns-then-h-le-LONGEST_RUN
unfolding outside seeks_by looked
returns-then-h-le-LONGEST_RUN c x =
    let e = queued_taken _ _ _ c.opens_verbatim.ensures in
    search rules
