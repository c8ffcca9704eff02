-- Openers name events of the queue, so that a closing finds them there. Not of document 01: it is what the parser's steps ask of the state.
-- The invariant of the reading gives it (`good-named` in `proofs/Named`).
use Rattle.std.specs.Prelude.{ℕ, ◌+◌, ◌≤◌, ◌<◌, List, [], ◌∷◌}
use Rattle.reading.specs.declared.Opener.{Opener}
use Rattle.reading.specs.declared.DelimEventKind.{DelimEventKind}
use Rattle.reading.specs.declared.DelimEventKind.TheVariants as makes
use Rattle.reading.specs.Tokens.{closing_of}

-- an opener's event is one of n. Of a link's, the `[` of its text stands before, with its `]` between the two
unfoldable pub Names : DelimEventKind → Opener → ℕ → Type 0
Names (makes.Pair p) o n = o.event < n
Names (makes.Span i) o n = o.event < n
Names (makes.Link t) o n = (o.span + 2 ≤ o.event) × (o.event < n)

unfoldable pub Named : List Opener → ℕ → Type 0
Named [] n = Unit {0}
Named (o ∷ os) n = Names (closing_of o.sort) o n × Named os n
