-- `fragment::write` meets its contract: the reader's outcome, what comes of it, and what is claimed.
use Rattle.std.proofs.Common.{rules}
use Rattle.outcome.specs.Outcomes.{rooms_of}
use Rattle.fragment.proofs.Claims.{listed-asked, called}
use Rattle.fragment.proofs.write.Goals as goal

pub conclude-requires : goal.conclude-requires
conclude-requires c = listed-asked c.args.text.now c.args.lines.now c.args.reading
    (rooms_of c.args.events.now c.args.queue.now c.args.openers.now c.args.labels.now) c.read-a.result
    (c.read-a.new.events) (c.read-a.new.queue) (c.read-a.new.openers) (c.read-a.new.labels)
    c.read-a.ensures.as_defined

pub returns : goal.returns
returns c = let all = called c.args.text.now c.args.lines.now c.args.reading c.args.events.now c.args.queue.now
    c.args.openers.now c.args.labels.now c.read-a.result (c.read-a.new.events) (c.read-a.new.queue)
    (c.read-a.new.openers) (c.read-a.new.labels) c.read-a.ensures.as_defined
    (c.read-a.auto.events, c.read-a.auto.queue, c.read-a.auto.openers, c.read-a.auto.labels) c.args.out.now _
    c.conclude.ensures.value in record {
      as_defined = search (rules, all.0);
      shows = search (rules, all.1.0);
      homed = search (rules, all.1.1.0);
      events_suffice = all.1.1.1.0;
      output_suffices = all.1.1.1.1;
    }
