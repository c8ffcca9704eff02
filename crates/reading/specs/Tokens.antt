-- What a token and an opener are to the rules on verbatim and containers (document 01, "Verbatim" and "Containers"): the tables of the
-- Rust's `Opener::from_token`, `Opener::closed_by`, `bidirectional` and `DelimEventKind::from`.
use Rattle.std.specs.Prelude.{ℕ, Bool, true, false, ◌||◌, Option, Some, None}
use Rattle.lex.specs.declared.lex.Kind.{Kind}
use Rattle.lex.specs.declared.lex.Kind.TheVariants.{Text, Newline, Nbsp, Hardbreak, Escape, Open, Close, Sym, Seq}
use Rattle.lex.specs.declared.lex.Delimiter.TheVariants.{Brace, BraceAsterisk, BraceCaret, BraceEqual, BraceHyphen, BracePlus, BraceTilde}
use Rattle.lex.specs.declared.lex.Delimiter.TheVariants.{BraceUnderscore, Bracket, BraceQuote1, BraceQuote2, Paren}
use Rattle.lex.specs.declared.lex.Symbol.TheVariants.{Asterisk, Caret, ExclaimBracket, Lt, Pipe, Quote1, Quote2, Tilde, Underscore, Colon}
use Rattle.lex.specs.declared.lex.Sequence.TheVariants.{Backtick, Hyphen, Period}
use Rattle.reading.specs.declared.Sort.{Sort}
use Rattle.reading.specs.declared.Sort.TheVariants as sort
use Rattle.reading.specs.declared.Marks.{Marks}
use Rattle.reading.specs.declared.Role.{Role}
use Rattle.reading.specs.declared.Role.TheVariants as role
use Rattle.reading.specs.declared.DelimEventKind.{DelimEventKind}
use Rattle.reading.specs.declared.DelimEventKind.TheVariants as makes
use Rattle.reading.specs.Events.{str, softbreak, hardbreak, escape, nbsp, left_single, right_single, left_double, right_double, enter, exit}
use Rattle.reading.specs.Events.{subscript, superscript, insert, delete, emphasis, strong, mark, reference_link, reference_image, inline_link}
use Rattle.reading.specs.Events.{inline_image}
use Rattle.reading.specs.declared.Closer.{Closer}
use Rattle.reading.specs.declared.Closer.TheVariants as closer
use Rattle.reading.specs.Closers.{same}

-- the mark that closes an opener
unfoldable pub closed_by : Sort → Closer
closed_by sort.Span = closer.Bracket
closed_by sort.Image = closer.Bracket
closed_by sort.Strong = closer.Asterisk
closed_by sort.BraceStrong = closer.BraceAsterisk
closed_by sort.Emphasis = closer.Underscore
closed_by sort.BraceEmphasis = closer.BraceUnderscore
closed_by sort.Superscript = closer.Caret
closed_by sort.BraceSuperscript = closer.BraceCaret
closed_by sort.Subscript = closer.Tilde
closed_by sort.BraceSubscript = closer.BraceTilde
closed_by sort.Mark = closer.BraceEqual
closed_by sort.Delete = closer.BraceHyphen
closed_by sort.Insert = closer.BracePlus
closed_by sort.SingleQuoted = closer.Quote1
closed_by sort.DoubleQuoted = closer.Quote2
closed_by sort.ReferenceLink = closer.Bracket
closed_by sort.ReferenceImage = closer.Bracket
closed_by sort.InlineLink = closer.Paren
closed_by sort.InlineImage = closer.Paren

-- `*`, `_`, `^`, `~` without a brace, and all quotes, can open and close (Djot: so they ask what stands beside them)
unfoldable pub both_ways : Closer → Bool
both_ways closer.Bracket = false
both_ways closer.Paren = false
both_ways closer.Asterisk = true
both_ways closer.BraceAsterisk = false
both_ways closer.Underscore = true
both_ways closer.BraceUnderscore = false
both_ways closer.Caret = true
both_ways closer.BraceCaret = false
both_ways closer.Tilde = true
both_ways closer.BraceTilde = false
both_ways closer.BraceEqual = false
both_ways closer.BraceHyphen = false
both_ways closer.BracePlus = false
both_ways closer.Quote1 = true
both_ways closer.Quote2 = true

abbrev pub two_way : Sort → Bool
two_way s = both_ways (closed_by s)

-- spans and links may be empty
abbrev pub may_be_empty : Sort → Bool
may_be_empty s = same (closed_by s) closer.Bracket || same (closed_by s) closer.Paren

abbrev pub is_single : Sort → Bool
is_single s = same (closed_by s) closer.Quote1

-- the event of an opener that is not closed: right single, left double, else Str
unfoldable pub unclosed : Sort → ℕ
unclosed s =
    elim (same (closed_by s) closer.Quote1) [ true ↦ right_single | false ↦ elim (same (closed_by s) closer.Quote2) [ true ↦ left_double | false ↦ str ] ]

abbrev container : ℕ → DelimEventKind
container k = makes.Pair record { first = enter k; second = exit k }

abbrev target : ℕ → Bool → DelimEventKind
target k inline = makes.Link record { container = k; inline = inline }

-- what the closing of an opener makes
unfoldable pub closing_of : Sort → DelimEventKind
closing_of sort.Span = makes.Span false
closing_of sort.Image = makes.Span true
closing_of sort.Strong = container strong
closing_of sort.BraceStrong = container strong
closing_of sort.Emphasis = container emphasis
closing_of sort.BraceEmphasis = container emphasis
closing_of sort.Superscript = container superscript
closing_of sort.BraceSuperscript = container superscript
closing_of sort.Subscript = container subscript
closing_of sort.BraceSubscript = container subscript
closing_of sort.Mark = container mark
closing_of sort.Delete = container delete
closing_of sort.Insert = container insert
closing_of sort.SingleQuoted = makes.Pair record { first = left_single; second = right_single }
closing_of sort.DoubleQuoted = makes.Pair record { first = left_double; second = right_double }
closing_of sort.ReferenceLink = target reference_link false
closing_of sort.ReferenceImage = target reference_image false
closing_of sort.InlineLink = target inline_link true
closing_of sort.InlineImage = target inline_image true

-- the link that a `]` begins: of an image or not, inline (`(`) or by reference (`[`)
unfoldable pub link_sort : Bool → Bool → Sort
link_sort false false = sort.ReferenceLink
link_sort false true = sort.InlineLink
link_sort true false = sort.ReferenceImage
link_sort true true = sort.InlineImage

abbrev marks : Option Sort → Option Closer → ℕ → Marks
marks o c a = record { opens = o; closes = c; alone = a }

-- a token that opens and closes nothing
abbrev pub plain : ℕ → Marks
plain kind = marks None None kind

abbrev opening : Sort → Role
opening s = role.Other (marks (Some s) None str)

abbrev closing : Closer → Role
closing c = role.Other (marks None (Some c) str)

abbrev both : Sort → Role
both s = role.Other (marks (Some s) (Some (closed_by s)) str)

-- `[` and `[^` open a span
abbrev pub bracket : Marks
bracket = marks (Some sort.Span) None str

-- every kind of token. A quote that neither opens nor closes is a left one if it was written `{'` or `{"`, else a right one
unfoldable pub role_of : Kind → Role
role_of Text = role.Other (plain str)
role_of Newline = role.Other (plain softbreak)
role_of Nbsp = role.Other (plain nbsp)
role_of Hardbreak = role.Other (plain hardbreak)
role_of Escape = role.Other (plain escape)
role_of (Open Brace) = role.Brace
role_of (Open BraceAsterisk) = opening sort.BraceStrong
role_of (Open BraceCaret) = opening sort.BraceSuperscript
role_of (Open BraceEqual) = opening sort.Mark
role_of (Open BraceHyphen) = opening sort.Delete
role_of (Open BracePlus) = opening sort.Insert
role_of (Open BraceTilde) = opening sort.BraceSubscript
role_of (Open BraceUnderscore) = opening sort.BraceEmphasis
role_of (Open Bracket) = role.Bracket
role_of (Open BraceQuote1) = role.Other (marks (Some sort.SingleQuoted) None left_single)
role_of (Open BraceQuote2) = role.Other (marks (Some sort.DoubleQuoted) None left_double)
role_of (Open Paren) = role.Paren
role_of (Close Brace) = role.Other (plain str)
role_of (Close BraceAsterisk) = closing closer.BraceAsterisk
role_of (Close BraceCaret) = closing closer.BraceCaret
role_of (Close BraceEqual) = closing closer.BraceEqual
role_of (Close BraceHyphen) = closing closer.BraceHyphen
role_of (Close BracePlus) = closing closer.BracePlus
role_of (Close BraceTilde) = closing closer.BraceTilde
role_of (Close BraceUnderscore) = closing closer.BraceUnderscore
role_of (Close Bracket) = closing closer.Bracket
role_of (Close BraceQuote1) = role.Other (marks None (Some closer.Quote1) right_single)
role_of (Close BraceQuote2) = role.Other (marks None (Some closer.Quote2) right_double)
role_of (Close Paren) = closing closer.Paren
role_of (Sym Asterisk) = both sort.Strong
role_of (Sym Caret) = both sort.Superscript
role_of (Sym ExclaimBracket) = opening sort.Image
role_of (Sym Lt) = role.Lt
role_of (Sym Pipe) = role.Other (plain str)
role_of (Sym Quote1) = role.Other (marks (Some sort.SingleQuoted) (Some closer.Quote1) right_single)
role_of (Sym Quote2) = role.Other (marks (Some sort.DoubleQuoted) (Some closer.Quote2) right_double)
role_of (Sym Tilde) = both sort.Subscript
role_of (Sym Underscore) = both sort.Emphasis
role_of (Sym Colon) = role.Colon
role_of (Seq Backtick) = role.Backticks
role_of (Seq Hyphen) = role.Hyphens
role_of (Seq Period) = role.Periods

-- a backtick run
unfoldable pub is_run : Role → Bool
is_run role.Backticks = true
is_run role.Brace = false
is_run role.Lt = false
is_run role.Colon = false
is_run role.Bracket = false
is_run role.Paren = false
is_run role.Periods = false
is_run role.Hyphens = false
is_run (role.Other m) = false

unfoldable pub opens_closed_by : Closer → Option Sort → Bool
opens_closed_by c None = false
opens_closed_by c (Some s) = same (closed_by s) c

-- an opener of the sort that a mark closes
unfoldable pub opens_a : Closer → Role → Bool
opens_a c role.Backticks = false
opens_a c role.Brace = false
opens_a c role.Lt = false
opens_a c role.Colon = false
opens_a c role.Bracket = false
opens_a c role.Paren = false
opens_a c role.Periods = false
opens_a c role.Hyphens = false
opens_a c (role.Other m) = opens_closed_by c m.opens

-- `{=`, and `^`
abbrev pub is_format : Role → Bool
is_format r = opens_a closer.BraceEqual r

abbrev pub is_caret : Role → Bool
is_caret r = opens_a closer.Caret r
