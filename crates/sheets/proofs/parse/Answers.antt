-- `sheets::parse` meets its contract, by the laws of `Sheets`.
use Rattle.std.proofs.Common.{◌≤◌, length, ap, ◌∙◌, arith, rules}
use Rattle.reading.specs.declared.Line.{Line}
use Rattle.sheets.proofs.Sheets.{head_first, head-behind, head-next, end-small, end-room, end-closing, head-last}
use Rattle.sheets.proofs.parse.Goals as goal

pub loop-i-init : goal.loop-i-init
loop-i-init g c =
    let f = c.fresh-p.ensures in
    head_first c.fresh-p.result (rw (f.queue_held, f.openers_held, f.labels_held) c.requires) f.at_start f.labels_value

pub parse_line-requires : goal.parse_line-requires
parse_line-requires g c =
    record {
      behind = head-behind c.loop-i.invariant (omega (arith, c.loop-i-test.true, c.count-i-end.ensures));
      labels_in_bounds = c.loop-i.invariant.labels;
    }

pub loop-i-preserved : goal.loop-i-preserved
loop-i-preserved g c =
    head-next c.loop-i.invariant (omega (arith, c.loop-i-test.true, c.count-i-end.ensures)) c.parse_line.ensures
    (ap (λ (z : Line). z.end) c.line-l.ensures)

pub finish-requires : goal.finish-requires
finish-requires g c =
    let past : length (g.L.Lines.listed c.args.lines) ≤ c.loop-i.i = omega (arith, c.loop-i-test.false, c.count-i-end.ensures) in
    record {
      end_bound = end-small c.loop-i.invariant past;
      room = end-room c.loop-i.invariant past;
      closing = end-closing c.loop-i.invariant past;
    }

pub returns : goal.returns
returns g c =
    let f = c.fresh-p.ensures in
    let k = head-last c.loop-i.invariant (omega (arith, c.loop-i-test.false, c.count-i-end.ensures)) c.finish.ensures.queued in
    let q = k.lent.queue ∙ f.queue_lent in
    let o = k.lent.openers ∙ f.openers_lent in
    let l = k.lent.labels ∙ f.labels_lent in
    search rules
