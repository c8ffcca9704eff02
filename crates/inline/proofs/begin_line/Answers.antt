-- `inline::begin_line` meets its contract: the rooms and what is counted in them stay.
use Rattle.std.proofs.Common.{rules}
use Rattle.inline.proofs.Holding.{begun-holding}
use Rattle.inline.proofs.begin_line.Goals as goal

pub returns-clause-held : goal.returns-clause-held
returns-clause-held c h =
    let k = begun-holding c.args.reading c.args.p.now _ c.begun.ensures h in
    search rules
