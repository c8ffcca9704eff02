-- `locate::onward` meets its contract, by the laws of the line of a place.
use Rattle.std.proofs.Common.{ap, ◌∙◌, arith}
use Rattle.reading.specs.declared.Line.{Line}
use Rattle.reading.proofs.Locating.{line-within, line-here}
use Rattle.inline.specs.Lines.{none}
use Rattle.locate.specs.declared.Here.{Here}
use Rattle.locate.specs.Lining.{line_at}
use Rattle.locate.proofs.onward.Goals as goal

pub returns-then-at-from : goal.returns-then-at-from
returns-then-at-from g c =
    c.requires.stands
    ∙ ap (line_at (g.L.Lines.listed c.args.lines))
    (omega (
      arith,
      c.requires.before,
      line-here (g.L.Lines.listed c.args.lines) c.args.from.line c.args.at none c.requires.within
          (omega (arith, c.if-at-from.true, ap (λ (h : Here). h.end) c.requires.stands)),
    ))

pub line-requires : goal.line-requires
line-requires g c =
    omega (arith, c.line_of-line.ensures, line-within (g.L.Lines.listed c.args.lines) c.args.at (omega (arith, c.requires.within)))

pub returns : goal.returns
returns g c =
    ap (λ (l : Line). record { line = c.line_of-line.result; end = l.end }) c.line.ensures ∙ ap (line_at (g.L.Lines.listed c.args.lines)) c.line_of-line.ensures
