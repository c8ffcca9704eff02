-- `reader::read_lines` meets its contract, by the laws of `Ending` and `Calling`.
use Rattle.std.proofs.Common.{sym, ◌∙◌, rules, subst}
use Rattle.questions.proofs.Asking.{asked-passed}
use Rattle.reader.proofs.Ending.{Listed_in, parsed, parsed-listed}
use Rattle.reader.proofs.Calling.{owed_early, owed_all}
use Rattle.reader.proofs.read_lines.Goals as goal

pub parse_lines-p-requires : goal.parse_lines-p-requires
parse_lines-p-requires g c =
    asked-passed c.args.text.now _ c.args.reading c.args.queue.now c.args.openers.now (sym c.questions.ensures ∙ c.in-Ok.is)

pub judge-answer-requires : goal.judge-answer-requires
judge-answer-requires g c =
    parsed c.args.text.now _ c.args.reading c.args.queue.now c.args.openers.now c.args.labels.now
    (asked-passed c.args.text.now _ c.args.reading c.args.queue.now c.args.openers.now (sym c.questions.ensures ∙ c.in-Ok.is))
    c.parse_lines-p.result c.parse_lines-p.new.queue c.parse_lines-p.new.openers c.parse_lines-p.new.labels
    c.parse_lines-p.ensures.stands_for c.parse_lines-p.ensures.labels_bound c.parse_lines-p.auto.queue

pub locate-requires-clause-in_bounds : goal.locate-requires-clause-in_bounds
locate-requires-clause-in_bounds g c =
    (subst Listed_in (sym c.judge-answer.ensures.value)
    (parsed-listed c.args.text.now _ c.args.reading c.args.queue.now c.args.openers.now c.args.labels.now
    (asked-passed c.args.text.now _ c.args.reading c.args.queue.now c.args.openers.now (sym c.questions.ensures ∙ c.in-Ok.is))
    c.parse_lines-p.result c.parse_lines-p.new.queue c.parse_lines-p.new.openers c.parse_lines-p.new.labels
    c.parse_lines-p.ensures.stands_for _)).in_bounds

pub locate-requires-clause-few : goal.locate-requires-clause-few
locate-requires-clause-few g c =
    (asked-passed c.args.text.now _ c.args.reading c.args.queue.now c.args.openers.now (sym c.questions.ensures ∙ c.in-Ok.is)).listed

pub locate-requires-clause-rising : goal.locate-requires-clause-rising
locate-requires-clause-rising g c =
    (subst Listed_in (sym c.judge-answer.ensures.value)
    (parsed-listed c.args.text.now _ c.args.reading c.args.queue.now c.args.openers.now c.args.labels.now
    (asked-passed c.args.text.now _ c.args.reading c.args.queue.now c.args.openers.now (sym c.questions.ensures ∙ c.in-Ok.is))
    c.parse_lines-p.result c.parse_lines-p.new.queue c.parse_lines-p.new.openers c.parse_lines-p.new.labels
    c.parse_lines-p.ensures.stands_for _)).rising

pub locate-requires-clause-unlined : goal.locate-requires-clause-unlined
locate-requires-clause-unlined g c =
    (subst Listed_in (sym c.judge-answer.ensures.value)
    (parsed-listed c.args.text.now _ c.args.reading c.args.queue.now c.args.openers.now c.args.labels.now
    (asked-passed c.args.text.now _ c.args.reading c.args.queue.now c.args.openers.now (sym c.questions.ensures ∙ c.in-Ok.is))
    c.parse_lines-p.result c.parse_lines-p.new.queue c.parse_lines-p.new.openers c.parse_lines-p.new.labels
    c.parse_lines-p.ensures.stands_for _)).unlined

pub returns-in-Err : goal.returns-in-Err
returns-in-Err g c =
    let all = owed_early c.args.text.now _ c.args.reading c.args.events.now c.args.queue.now c.args.openers.now c.args.labels.now c.questions.ensures c.in-Err.is
    c.into.ensures in
    record { as_defined = all.as_defined; accepted = all.accepted; homed = all.homed; events_suffice = all.events_suffice }

pub returns-in-Ok : goal.returns-in-Ok
returns-in-Ok g c =
    let all = owed_all c.args.text.now _ c.args.reading c.args.events.now c.args.queue.now c.args.openers.now
    c.args.labels.now c.questions.ensures c.in-Ok.is c.parse_lines-p.ensures.stands_for c.parse_lines-p.auto.queue
    c.parse_lines-p.auto.openers c.parse_lines-p.auto.labels c.judge-answer.ensures.value in
    record {
      as_defined = search (rules, all.as_defined);
      accepted = search (rules, all.accepted);
      homed = search (rules, all.homed);
      events_suffice = all.events_suffice;
    }
