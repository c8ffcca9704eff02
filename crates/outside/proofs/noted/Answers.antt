-- `outside::noted` meets its contract: what the scan accepts lies within the line.
use mathlib.Core.Path.{sym, ◌∙◌}
use native.Mathlib.Omega.{arith}
use lib.ListN.{drop}
use Rattle.std.proofs.Common.{rules}
use Rattle.scan.proofs.Laws.{footnote-some}
use Rattle.reading.specs.Reading.{noted}
use Rattle.reading.specs.Looks.{unless_taken, looked}
use Rattle.outside.proofs.Single.{scan-within, queued_taken}
use Rattle.outside.proofs.noted.Goals as goal

pub named-requires-clause-n_bound : goal.named-requires-clause-n_bound
named-requires-clause-n_bound c =
    let line = c.args.v.now.bytes.now in
    let few = footnote-some (drop c.args.h.to line) _ (sym c.ahead_footnote.ensures ∙ c.in-Some.is) in
    let w = scan-within line c.args.h.to _ few.within c.requires.ready.within in
    omega (arith, w, c.requires.ready.small)

pub returns-in-None : goal.returns-in-None
unfolding noted unless_taken looked
returns-in-None c x =
    let e = c.opens.ensures x in
    search rules

pub returns-in-Some : goal.returns-in-Some
unfolding noted unless_taken looked
returns-in-Some c x =
    let e = (queued_taken _ _ _ c.named.ensures).changed in
    search rules
