-- `locate::locate` meets its contract, by the laws of `Lining`.
use Rattle.std.proofs.Common.{ap, ◌<◌, arith, rules}
use Rattle.reading.specs.declared.Line.{Line}
use Rattle.locate.specs.declared.Here.{Here}
use Rattle.reading.proofs.Locating.{line-most}
use Rattle.locate.proofs.Lining.{to-first, to-line, to-next, to-all, lined-few}
use Rattle.locate.proofs.locate.Goals as goal

pub loop-i-init : goal.loop-i-init
loop-i-init g c =
    to-first (g.L.Lines.listed c.args.lines) c.args.n c.args.events.now c.requires.in_bounds _ (ap (λ (l : Line). record { line = 0; end = l.end }) c.line.ensures)
    (omega (arith, c.count.ensures, c.if-count-le1.false)) c.requires.rising

pub returns-then-count-le1 : goal.returns-then-count-le1
returns-then-count-le1 g c =
    lined-few (g.L.Lines.listed c.args.lines) c.args.n c.args.events.now c.requires.in_bounds (omega (arith, c.count.ensures, c.if-count-le1.true))
    c.requires.unlined

pub onward-here-requires-clause-before : goal.onward-here-requires-clause-before
onward-here-requires-clause-before g c =
    to-line (g.L.Lines.listed c.args.lines) c.args.n c.args.events.now c.requires.in_bounds c.loop-i.invariant c.loop-i-test.true _
    c.event_at.ensures

pub overflow_cast-here : goal.overflow_cast-here
overflow_cast-here g c =
    let few : c.onward-here.result.line < 4294967296 =
    omega (arith, ap (λ (h : Here). h.line) c.onward-here.ensures, line-most (g.L.Lines.listed c.args.lines) c.event_at.result.start.0, c.requires.few) in
    search (rules, few)

pub loop-i-preserved : goal.loop-i-preserved
loop-i-preserved g c =
    rw (c.set_line.ensures)
    (to-next (g.L.Lines.listed c.args.lines) c.args.n c.args.events.now c.requires.in_bounds c.loop-i.invariant c.loop-i-test.true _
    c.event_at.ensures _ c.onward-here.ensures)

pub returns : goal.returns
returns g c =
    to-all (g.L.Lines.listed c.args.lines) c.args.n c.args.events.now c.requires.in_bounds c.loop-i.invariant
    (omega (arith, c.loop-i-test.false, c.loop-i.auto.i-end))
