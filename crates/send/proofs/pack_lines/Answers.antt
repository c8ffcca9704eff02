-- `send::pack_lines` meets its contract, by the laws of `Sending`.
use Rattle.std.proofs.Common.{ap, ◌∙◌}
use Rattle.outcome.specs.Outcomes.{rooms_of, outcome_of}
use Rattle.packed.specs.declared.PackedAnswer.{PackedAnswer}
use Rattle.packed.specs.Calls.{call, packing}
use Rattle.send.proofs.Sending.{refused-sent, accepted-sent}
use Rattle.send.proofs.pack_lines.Goals as goal

pub returns-then-answer-ne0 : goal.returns-then-answer-ne0
returns-then-answer-ne0 c =
    let rooms = rooms_of c.args.rooms.now.events c.args.rooms.now.queue c.args.rooms.now.openers c.args.rooms.now.labels in
    let read = outcome_of c.read-answer.result c.read-answer.new.events c.read-answer.new.queue c.read-answer.new.openers c.read-answer.new.labels in
    let sent = refused-sent c.args.text.now c.args.lines.now rooms read c.read-answer.ensures.as_defined c.args.out.now c.if-answer-ne0.true in
    record {
      as_defined = ap (λ (r : PackedAnswer). call r c.args.out.now) c.refusal.ensures ∙ sent.0;
      code_value = ap (λ (r : PackedAnswer). r.code) c.refusal.ensures ∙ sent.1;
    }

pub returns : goal.returns
returns c =
    let rooms = rooms_of c.args.rooms.now.events c.args.rooms.now.queue c.args.rooms.now.openers c.args.rooms.now.labels in
    let read = outcome_of c.read-answer.result c.read-answer.new.events c.read-answer.new.queue c.read-answer.new.openers c.read-answer.new.labels in
    let packed = c.pack.ensures.as_defined ∙ ap (λ es. packing es c.args.out.now) c.front.ensures in
    let sent = accepted-sent c.args.text.now c.args.lines.now rooms read c.read-answer.ensures.as_defined c.if-answer-ne0.false
    c.args.out.now c.pack.result c.pack.new.out c.requires c.read-answer.auto.events packed in
    record { as_defined = sent.0; code_value = sent.1 }
