-- `Parser::seek` meets its contract, by the laws of `Search`.
use Rattle.std.proofs.Common.{rules, ◌≡◌, ◌-◌, Some, None, sym, ap, ◌∙◌, arith}
use denote.Enum.Bare.{same_true}
use Rattle.reading.specs.contracts.Closer.{the_type}
use Rattle.reading.specs.Tokens.{closed_by}
use Rattle.rooms.proofs.Search.{found-none, found_nothing, found_here, found_below, sought}
use Rattle.rooms.proofs.Parser.seek.Goals as goal

pub returns-in_err-mark-clause-sought : goal.returns-in_err-mark-clause-sought
returns-in_err-mark-clause-sought c =
    let is : c.args.closes ≡ None = search rules in
    search (rules, found-none c.args.self.now.openers.now c.args.closes c.args.n is)

pub loop-i-preserved : goal.loop-i-preserved
loop-i-preserved c =
    let a = c.args in
    let l = c.loop-i in (
      omega arith,
      found_below a.self.now.openers.now c.in_ok-mark.mark a.n l.i l.invariant.1 (omega arith) (λ e. let z : c.closed_by.result ≡ c.in_ok-mark.mark = c.closed_by.ensures ∙ ap closed_by c.into.ensures ∙ e in search rules),
    )

pub returns-then-i-eq0-clause-sought : goal.returns-then-i-eq0-clause-sought
returns-then-i-eq0-clause-sought c =
    let a = c.args in
    let l = c.loop-i in
    sought a.self.now.openers.now a.closes a.n c.in_ok-mark.mark None c.in_ok-mark.was
    (found_nothing a.self.now.openers.now c.in_ok-mark.mark a.n l.i l.invariant.1 c.if-i-eq0.true)

pub returns-then-eq-clause-sought : goal.returns-then-eq-clause-sought
returns-then-eq-clause-sought c =
    let a = c.args in
    let l = c.loop-i in
    sought a.self.now.openers.now a.closes a.n c.in_ok-mark.mark (Some (l.i - 1)) c.in_ok-mark.was
    (found_here a.self.now.openers.now c.in_ok-mark.mark a.n l.i l.invariant.1 (omega arith)
    (sym (c.closed_by.ensures ∙ ap closed_by c.into.ensures)
    ∙ same_true the_type (search rules) _ _ (sym c.eq.ensures ∙ c.if-eq.true)))
