-- `outside::parse_autolink` meets its contract: what the scan accepts lies within the line.
use mathlib.Core.Path.{sym, ◌∙◌}
use native.Mathlib.Omega.{arith}
use lib.ListN.{drop}
use Rattle.std.proofs.Common.{rules}
use Rattle.scan.proofs.Laws.{autolink-some, autolink-long}
use Rattle.reading.specs.Reading.{outside, angle}
use Rattle.reading.specs.Looks.{seeks_by, unless_taken, looked}
use Rattle.outside.proofs.Single.{scan-within, queued_taken}
use Rattle.outside.proofs.parse_autolink.Goals as goal

pub autolinked-requires-clause-n_bound : goal.autolinked-requires-clause-n_bound
autolinked-requires-clause-n_bound c =
    let line = c.args.v.now.bytes.now in
    let few = autolink-some (drop c.args.h.to line) _ (sym c.ahead_autolink.ensures ∙ c.in-Some.is) in
    let w = scan-within line c.args.h.to _ few.within c.requires.within in
    omega (arith, w, c.requires.small)

pub autolinked-requires-clause-room : goal.autolinked-requires-clause-room
autolinked-requires-clause-room c =
    let line = c.args.v.now.bytes.now in
    let e = sym c.ahead_autolink.ensures ∙ c.in-Some.is in
    let few = autolink-some (drop c.args.h.to line) _ e in
    let w = scan-within line c.args.h.to _ few.within c.requires.within in
    omega (arith, w, autolink-long (drop c.args.h.to line) _ e, c.requires.room, c.requires.long)

pub returns-in-None : goal.returns-in-None
unfolding outside angle seeks_by unless_taken looked
returns-in-None c x =
    let e = c.alone.ensures x in
    search rules

pub returns-in-Some : goal.returns-in-Some
unfolding outside angle seeks_by unless_taken looked
returns-in-Some c x =
    let e = queued_taken _ _ _ c.autolinked.ensures in
    search rules
