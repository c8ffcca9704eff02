-- `groups::more` meets its contract, by the laws of `Turns`.
use native.Mathlib.Omega.{arith}
use borrow.Author.Rules.{rules}
use Rattle.groups.proofs.Turns.{reads_first, reads-cut, reads-large, reads-longer, reads-number, last_fits, reads_more}
use Rattle.groups.proofs.more.Goals as goal

pub loop-i-init : goal.loop-i-init
loop-i-init c = reads_first c.args.bytes.now c.args.at c.args.low c.requires.low_bound

pub returns-then-b-gt-FIFTH : goal.returns-then-b-gt-FIFTH
returns-then-b-gt-FIFTH c = reads-large c.loop-i.invariant c.loop-i-test.true _ c.from-b.ensures c.if-i-at.true c.if-b-gt-FIFTH.true

pub returns-then-b-eq0 : goal.returns-then-b-eq0
returns-then-b-eq0 c = reads-longer c.loop-i.invariant c.loop-i-test.true _ c.from-b.ensures (λ e. omega arith) c.if-b-eq0.true

pub overflow_mul-result : goal.overflow_mul-result
overflow_mul-result c = let fits = last_fits c.loop-i.invariant c.loop-i-test.true _ c.from-b.ensures (λ e. omega arith) c.if-b-lt-HIGH.true in search (rules, fits)

pub overflow_add-result : goal.overflow_add-result
overflow_add-result c = let fits = last_fits c.loop-i.invariant c.loop-i-test.true _ c.from-b.ensures (λ e. omega arith) c.if-b-lt-HIGH.true in search (rules, fits)

pub returns-then-b-lt-HIGH : goal.returns-then-b-lt-HIGH
returns-then-b-lt-HIGH c = reads-number c.loop-i.invariant c.loop-i-test.true _ c.from-b.ensures (λ e. omega arith) c.if-b-lt-HIGH.true c.if-b-eq0.false

pub overflow_mul-value : goal.overflow_mul-value
overflow_mul-value c = let next = reads_more c.loop-i.invariant c.loop-i-test.true _ c.from-b.ensures (λ e. omega arith) c.if-b-lt-HIGH.false (omega arith) in search (rules, next.fits)

pub overflow_add-value : goal.overflow_add-value
overflow_add-value c = let next = reads_more c.loop-i.invariant c.loop-i-test.true _ c.from-b.ensures (λ e. omega arith) c.if-b-lt-HIGH.false (omega arith) in search (rules, next.fits, next.then.less)

pub overflow_mul-weight : goal.overflow_mul-weight
overflow_mul-weight c = let next = reads_more c.loop-i.invariant c.loop-i-test.true _ c.from-b.ensures (λ e. omega arith) c.if-b-lt-HIGH.false (omega arith) in search (rules, next.fits)

pub loop-i-preserved : goal.loop-i-preserved
loop-i-preserved c = (reads_more c.loop-i.invariant c.loop-i-test.true _ c.from-b.ensures (λ e. omega arith) c.if-b-lt-HIGH.false (omega arith)).then

pub returns : goal.returns
returns c = reads-cut c.loop-i.invariant c.loop-i-test.false
