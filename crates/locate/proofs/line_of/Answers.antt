-- `locate::line_of` meets its contract, by the laws of the line of a place.
use Rattle.std.proofs.Common.{ap, ◌<◌, ◌+◌, arith, rules}
use Rattle.reading.specs.declared.Line.{Line}
use Rattle.reading.proofs.Locating.{line-most, line-here, line-on, line-last}
use Rattle.inline.specs.Lines.{none}
use Rattle.locate.proofs.line_of.Goals as goal

pub overflow_add-line : goal.overflow_add-line
overflow_add-line g c =
    let few : c.loop-line.line + 1 < 18446744073709551616 = omega (arith, c.loop-line.invariant, line-most (g.L.Lines.listed c.args.lines) c.args.at, c.requires.few) in
    search (rules, few)

pub loop-line-preserved : goal.loop-line-preserved
loop-line-preserved g c =
    line-on (g.L.Lines.listed c.args.lines) c.loop-line.line c.args.at none c.loop-line.invariant
    (omega (arith, c.loop-line-test.true, c.count.ensures)) (omega (arith, c.if-line-at.true, ap (λ (l : Line). l.end) c.line.ensures))

pub returns-else-line-at : goal.returns-else-line-at
returns-else-line-at g c =
    omega (
      arith,
      c.loop-line.invariant,
      line-here (g.L.Lines.listed c.args.lines) c.loop-line.line c.args.at none (omega (arith, c.loop-line-test.true, c.count.ensures))
          (omega (arith, c.if-line-at.false, ap (λ (l : Line). l.end) c.line.ensures)),
    )

pub returns-after-loop-line : goal.returns-after-loop-line
returns-after-loop-line g c =
    omega (
      arith,
      c.loop-line.invariant,
      line-last (g.L.Lines.listed c.args.lines) c.loop-line.line c.args.at (omega (arith, c.loop-line-test.false, c.count.ensures)),
    )
