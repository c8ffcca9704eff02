-- `inline::read_line` meets its contract, by the laws of `Turning`.
use mathlib.Core.Path.{sym, ◌∙◌}
use native.Mathlib.Omega.{arith}
use Rattle.rooms.specs.Standing.{viewed}
use Rattle.inline.proofs.Begins.{lined-begins}
use Rattle.inline.proofs.Turning.{turns-first, turns-before, turns_next, turns-over, turns-last}
use Rattle.inline.proofs.read_line.Goals as goal

pub loop-init : goal.loop-init
loop-init c =
    let a = c.args in
    turns-first a.text.now (viewed a.v.now) a.reading a.p.now (lined-begins a.text.now (viewed a.v.now) a.reading a.p.now c.requires) c.requires.labels

pub returns-then-over : goal.returns-then-over
returns-then-over c =
    let a = c.args in
    turns-over a.text.now (viewed a.v.now) a.reading a.p.now c.loop.p c.loop.counter c.loop.invariant (sym c.over.ensures ∙ c.if-over.true)

pub parse_event-requires : goal.parse_event-requires
parse_event-requires c =
    let a = c.args in
    turns-before a.text.now (viewed a.v.now) a.reading a.p.now c.loop.p c.loop.counter c.loop.invariant c.loop-test.true (sym c.over.ensures ∙ c.if-over.false)

pub loop-preserved : goal.loop-preserved
loop-preserved c =
    let a = c.args in
    turns_next a.text.now (viewed a.v.now) a.reading a.p.now c.loop.p c.loop.counter c.loop.invariant c.loop-test.true (sym c.over.ensures ∙ c.if-over.false)
    _ c.parse_event.ensures

pub returns : goal.returns
returns c =
    let a = c.args in
    turns-last a.text.now (viewed a.v.now) a.reading a.p.now c.loop.p c.loop.counter c.loop.invariant (omega (arith, c.loop-test.false))
