-- `verbatim::kept` meets its contract, by the laws of `Answers`.
use Rattle.rooms.proofs.Rows.{rows-length}
use Rattle.rooms.specs.Records.{event_at}
use Rattle.rooms.specs.Steps.{state}
use Rattle.verbatim.proofs.Answers.{kept-all}
use Rattle.verbatim.proofs.kept.Goals as goal

pub returns-clause-by_index : goal.returns-clause-by_index
returns-clause-by_index c h =
    let p = c.args.p.now in
    kept-all c.args.w (state p).queue p.at.events (rows-length event_at p.at.events p.queue.now) c.if-w.false
