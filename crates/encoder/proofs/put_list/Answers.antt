-- `encoder::put_list` meets its contract, by the laws of `Putting`.
use Rattle.std.proofs.Common.{sym, ◌∙◌, rules}
use borrow.Author.Tests.{lt-leb}
use Rattle.encoder.proofs.Judging.{sound-forward}
use Rattle.encoder.proofs.Putting.{puts-counted, puts-many, puts-flaw, puts-more, puts-less, puts_all, puts-count, puts-full}
use Rattle.encoder.proofs.put_list.Goals as goal
use Rattle.encoder.proofs.put_list.Goals.{then-n, else-n, then-fits, else-fits}

pub loop-i-init : goal.loop-i-init
loop-i-init c =
    let start = c.new-out.ensures in
    elim c.if-n.branch [
      | then-n w ↦ rw (w.out-is, w.fits-is, w.is_some-fits.ensures) (puts-counted c.args.events.now c.new-out.result start.held start.at _ _ w.put_number.ensures)
      | else-n w ↦ rw (w.out-is, w.fits-is, lt-leb _ _ w.if-n.false) (puts-many c.args.events.now c.new-out.result start.held start.at w.if-n.false)
    ]

pub returns-then-not-sound-clause-answer : goal.returns-then-not-sound-clause-answer
returns-then-not-sound-clause-answer c = puts-flaw c.args.events.now c.loop-i.invariant c.loop-i-test.true _ c.record_at-r.ensures _ _ (sym c.sound.ensures ∙ c.if-not-sound.true)

pub put_event-requires : goal.put_event-requires
put_event-requires c = sound-forward c.loop-i.i _ _ (sym c.sound.ensures ∙ c.if-not-sound.false)

pub loop-i-preserved : goal.loop-i-preserved
loop-i-preserved c =
    let is_sound = sym c.sound.ensures ∙ c.if-not-sound.false in
    elim c.if-fits.branch [
      | then-fits w ↦ rw (w.out-is, w.fits-is, w.is_some-fits-then-fits.ensures) (puts-more c.args.events.now c.loop-i.invariant c.loop-i-test.true _ c.record_at-r.ensures is_sound _ _ w.if-fits.true w.put_event.ensures)
      | else-fits w ↦ rw (w.out-is, w.fits-is, w.if-fits.false) (puts-less c.args.events.now c.loop-i.invariant c.loop-i-test.true _ c.record_at-r.ensures is_sound w.if-fits.false)
    ]

pub returns-then-fits-2-clause-answer : goal.returns-then-fits-2-clause-answer
returns-then-fits-2-clause-answer c = rw c.count.ensures (puts-count c.args.events.now c.loop-i.invariant c.loop-i-test.false c.if-fits-2.true)

pub returns-then-fits-2-clause-bytes : goal.returns-then-fits-2-clause-bytes
returns-then-fits-2-clause-bytes c = let all = puts_all c.args.events.now c.loop-i.invariant c.loop-i-test.false c.if-fits-2.true in search (rules, all)

pub returns-else-fits-2-clause-answer : goal.returns-else-fits-2-clause-answer
returns-else-fits-2-clause-answer c = puts-full c.args.events.now c.loop-i.invariant c.loop-i-test.false c.if-fits-2.false
