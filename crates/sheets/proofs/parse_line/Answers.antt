-- `sheets::parse_line` meets its contract, by the laws of `Resuming`.
use Rattle.std.proofs.Common.{refl, sym, ap, ◌∙◌, arith}
use Rattle.reading.specs.declared.Line.{Line}
use Rattle.rooms.proofs.Changing.{lent-same}
use Rattle.sheets.proofs.Beginning.{line_refused, here-long, here-ordered, here-within}
use Rattle.sheets.proofs.Resuming.{walks-first, walks-amid, walks-end, walks-last, walks-within, walks_block, walks-brace, walks_next}
use Rattle.sheets.proofs.parse_line.Goals as goal

pub returns-in_default : goal.returns-in_default
returns-in_default g c =
    record {
      same = line_refused c.requires.behind c.in_default.field-0 c.in_default.is;
      lent = lent-same c.args.p.now c.args.p.now refl refl refl;
      labels = c.requires.labels_in_bounds;
    }

pub overflow_sub-end : goal.overflow_sub-end
overflow_sub-end g c =
    omega (
      arith,
      here-ordered c.requires.behind,
      ap (λ (z : Line). z.start) c.line-l.ensures,
      ap (λ (z : Line). z.end) c.line-l.ensures,
    )

pub overflow_add-end : goal.overflow_add-end
overflow_add-end g c =
    omega (
      arith,
      here-within c.requires.behind,
      c.requires.behind.asks.small,
      ap (λ (z : Line). z.end) c.line-l.ensures,
    )

pub loop-init : goal.loop-init
loop-init g c = walks-first c.requires.behind c.requires.labels_in_bounds c.in-None.is c.begin_line.ensures.begun

pub feed_line-requires : goal.feed_line-requires
feed_line-requires g c = record { amid = walks-amid c.loop.invariant _ c.line-l.ensures; labels_in_bounds = c.loop.invariant.labels }

pub returns-in_default-refused : goal.returns-in_default-refused
returns-in_default-refused g c =
    walks-end c.loop.invariant c.line-l.ensures c.feed_line.ensures.stepped c.in_default-refused.is

pub block_at-requires : goal.block_at-requires
block_at-requires g c = walks-within c.loop.invariant c.line-l.ensures c.feed_line.ensures.stepped c.in-Some.is

pub returns-then-block_at : goal.returns-then-block_at
returns-then-block_at g c =
    walks_block c.loop.invariant c.line-l.ensures c.feed_line.ensures.stepped c.in-Some.is
    (sym c.block_at.ensures ∙ c.if-block_at.true)

pub pass_brace-requires : goal.pass_brace-requires
pass_brace-requires g c =
    walks-brace c.loop.invariant c.line-l.ensures c.feed_line.ensures.stepped c.in-Some.is
    (sym c.block_at.ensures ∙ c.if-block_at.false)

pub loop-preserved : goal.loop-preserved
loop-preserved g c =
    walks_next c.loop.invariant c.line-l.ensures c.feed_line.ensures.stepped c.in-Some.is
    (sym c.block_at.ensures ∙ c.if-block_at.false) c.pass_brace.ensures.queued

pub returns : goal.returns
returns g c =
    walks-last c.loop.invariant
    (omega (
      arith,
      c.loop-test.false,
      here-long c.requires.behind,
      ap (λ (z : Line). z.start) c.line-l.ensures,
      ap (λ (z : Line). z.end) c.line-l.ensures,
    ))
