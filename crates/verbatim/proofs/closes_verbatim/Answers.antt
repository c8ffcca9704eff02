-- `verbatim::closes_verbatim` meets its contract: a raw format lies within the line.
use mathlib.Core.Path.{sym, ◌∙◌}
use native.Mathlib.Omega.{arith}
use Rattle.std.proofs.Common.{rules}
use Rattle.reading.proofs.Backticks.{format-within}
use Rattle.rooms.specs.Standing.{viewed}
use Rattle.verbatim.proofs.closes_verbatim.Goals as goal

pub closes_raw-requires-clause-n_bound : goal.closes_raw-requires-clause-n_bound
closes_raw-requires-clause-n_bound c =
    let within = format-within (viewed c.args.v.now) c.args.h.to c.in-Some.n c.peek_token-peeked.result.token (sym c.format_ahead.ensures ∙ c.in-Some.is) in
    omega (arith, within, c.requires.fits.small)

pub returns-in-Some : goal.returns-in-Some
returns-in-Some c =
    let closed = c.closes_raw.ensures c.peek_token-peeked.result.cursor in
    search rules
