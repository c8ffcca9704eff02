-- `inline::finish` meets its contract, by the laws of `Taking`.
use Rattle.rooms.proofs.Changing.{queued-still}
use Rattle.inline.proofs.Taking.{end_refused, end-opened}
use Rattle.inline.proofs.Holding.{ended-holding}
use Rattle.inline.proofs.finish.Goals as goal

pub ended_at-requires-clause-opened_by : goal.ended_at-requires-clause-opened_by
ended_at-requires-clause-opened_by c = end-opened c.args.end c.args.p.now c.in-None.is c.requires.closing

pub returns-in_default-clause-queued : goal.returns-in_default-clause-queued
returns-in_default-clause-queued c = queued-still c.args.p.now _ (end_refused c.args.end c.args.p.now _ c.in_default.is c.requires.closing)

pub returns-in-None-clause-held : goal.returns-in-None-clause-held
returns-in-None-clause-held c = ended-holding _ c.args.p.now _ c.ended_at.ensures c.requires.room
