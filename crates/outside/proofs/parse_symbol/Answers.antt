-- `outside::parse_symbol` meets its contract: what the scan accepts lies within the line.
use mathlib.Core.Path.{sym, ◌∙◌}
use native.Mathlib.Omega.{arith}
use lib.ListN.{drop}
use Rattle.std.proofs.Common.{rules}
use Rattle.scan.proofs.Laws.{symbol-some}
use Rattle.reading.specs.Reading.{outside, colon}
use Rattle.reading.specs.Looks.{seeks_by, unless_taken, looked}
use Rattle.outside.proofs.Single.{scan-within, queued_taken}
use Rattle.outside.proofs.parse_symbol.Goals as goal

pub named-requires-clause-n_bound : goal.named-requires-clause-n_bound
named-requires-clause-n_bound c =
    let line = c.args.v.now.bytes.now in
    let few = symbol-some (drop c.args.h.to line) _ (sym c.ahead_symbol.ensures ∙ c.in-Some.is) in
    let w = scan-within line c.args.h.to _ few.within c.requires.within in
    omega (arith, w, c.requires.small)

pub returns-in-None : goal.returns-in-None
unfolding outside colon seeks_by unless_taken looked
returns-in-None c x =
    let e = c.alone.ensures x in
    search rules

pub returns-in-Some : goal.returns-in-Some
unfolding outside colon seeks_by unless_taken looked
returns-in-Some c x =
    let e = queued_taken _ _ _ c.named.ensures in
    search rules
