-- How long a search gets: which tokens seek, and how many opener records each of them looks at.
use Rattle.std.specs.Prelude.{ℕ, suc, ◌+◌, ◌-◌, List, [], ◌∷◌, true, false, leb, length, drop, Option, Some, None}
use Rattle.lex.specs.declared.lex.Token.{Token}
use Rattle.lex.specs.declared.lex.Kind.{Kind}
use Rattle.lex.specs.declared.lex.Kind.TheVariants.{Text, Newline, Nbsp, Hardbreak, Escape, Open, Close, Sym, Seq}
use Rattle.lex.specs.Lexer.{peek_of}
use Rattle.scan.specs.Scans.{autolink_of, symbol_of, footnote_of}
use Rattle.reading.specs.declared.Closer.{Closer}
use Rattle.reading.specs.Closers.{same}
use Rattle.reading.specs.declared.Opener.{Opener}
use Rattle.reading.specs.declared.Role.{Role}
use Rattle.reading.specs.declared.Role.TheVariants as role
use Rattle.reading.specs.Events.{longest_run}
use Rattle.reading.specs.Machine.{View, State, Here, looking}
use Rattle.reading.specs.Tokens.{role_of, closed_by, is_caret}

-- What a token seeks: nothing; or the newest opener that a mark closes. A token without such a mark seeks too, and finds none
abbrev pub Seeks : Type 0
Seeks = Option (Option Closer)

-- a scan that accepts takes the token, and those behind it, out of the search
unfoldable pub unless_taken : Option ℕ → Seeks
unless_taken (Some n) = None
unless_taken None = Some None

-- the scan of a footnote reference behind a `[`, where `^` is the next token
unfoldable pub noted_at : View → Here → Option Token → Option ℕ
noted_at v h None = None
noted_at v h (Some t) = elim (is_caret (role_of t.kind)) [ true ↦ footnote_of (drop (h.to + t.len) v.bytes) | false ↦ None ]

-- Of the tokens outside verbatim, by role:
--   a backtick run    that opens a verbatim does not seek; one of more than 255 does
--   a brace           seeks; where an attribute block stands, the sheet is refused, and no count is answered
--   `<`, `:`          seek unless the scan ahead accepts
--   `[`, `[^`         seek once, unless the scan ahead accepts
--   `(`               seeks; one that a `]` takes along, as a `[` there, is no step of its own, and does not
--   periods, hyphens  seek, however many there are
--   all others        seek: breaks, escapes, no-break spaces, `|`, `}`, and what opens or closes
unfoldable pub seeks_by : View → Here → Role → Seeks
seeks_by v h role.Backticks = elim (leb (h.to - h.from) longest_run) [ true ↦ None | false ↦ Some None ]
seeks_by v h role.Brace = Some None
seeks_by v h role.Lt = unless_taken (autolink_of (drop h.to v.bytes))
seeks_by v h role.Colon = unless_taken (symbol_of (drop h.to v.bytes))
seeks_by v h role.Bracket = unless_taken (noted_at v h (peek_of v.bytes h.cursor).token)
seeks_by v h role.Paren = Some None
seeks_by v h role.Periods = Some None
seeks_by v h role.Hyphens = Some None
seeks_by v h (role.Other m) = Some m.closes

-- and by kind: a Text does not seek
unfoldable pub seeks_of : View → Here → Kind → Seeks
seeks_of v h Text = None
seeks_of v h Newline = seeks_by v h (role_of Newline)
seeks_of v h Nbsp = seeks_by v h (role_of Nbsp)
seeks_of v h Hardbreak = seeks_by v h (role_of Hardbreak)
seeks_of v h Escape = seeks_by v h (role_of Escape)
seeks_of v h (Open d) = seeks_by v h (role_of (Open d))
seeks_of v h (Close d) = seeks_by v h (role_of (Close d))
seeks_of v h (Sym y) = seeks_by v h (role_of (Sym y))
seeks_of v h (Seq q) = seeks_by v h (role_of (Seq q))

-- the openers, the newest first, that are looked at for a mark: back to the one that it closes, or all
unfoldable pub looked_mark : Closer → List Opener → ℕ
looked_mark c [] = 0
looked_mark c (o ∷ os) = elim (same (closed_by o.sort) c) [ true ↦ 1 | false ↦ suc (looked_mark c os) ]

unfoldable pub looked : Seeks → List Opener → ℕ
looked None os = 0
looked (Some None) os = length os
looked (Some (Some c)) os = looked_mark c os

-- they are counted
abbrev pub look : Seeks → State → State
look k s = looking (looked k s.openers) s

-- at a token outside verbatim, among the openers that are there
abbrev pub seeking : View → Here → Token → State → State
seeking v h t s = look (seeks_of v h t.kind) s
