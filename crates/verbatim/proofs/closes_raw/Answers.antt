-- `verbatim::closes_raw` meets its contract, by the laws of `Closing`.
use Rattle.verbatim.proofs.Closing.{opened-raw}
use Rattle.verbatim.proofs.closes_raw.Goals as goal

pub exits-requires-clause-opened : goal.exits-requires-clause-opened
exits-requires-clause-opened c =
    opened-raw c.args.w c.args.p.now _ _ c.requires.opened c.set_kind.ensures.queued c.set_kind.ensures.status
