-- The leaves' values as numbers, for callers in other languages.
use Rattle.std.specs.Prelude.{ℕ, ◌+◌, List, [], ◌∷◌, ◌++◌, map, true, false, ltb, get_or, Option, Some, None}
use Rattle.lex.specs.declared.lex.Token.{Token}
use Rattle.lex.specs.declared.lex.Kind.{Kind}
use Rattle.lex.specs.declared.lex.Kind.TheVariants.{Text, Newline, Nbsp, Hardbreak, Escape, Open, Close, Sym, Seq}
use Rattle.lex.specs.declared.lex.Delimiter.{Delimiter}
use Rattle.lex.specs.declared.lex.Delimiter.TheVariants.{Brace, BraceAsterisk, BraceCaret, BraceEqual, BraceHyphen, BracePlus}
use Rattle.lex.specs.declared.lex.Delimiter.TheVariants.{BraceTilde, BraceUnderscore, Bracket, BraceQuote1, BraceQuote2, Paren}
use Rattle.lex.specs.declared.lex.Symbol.{Symbol}
use Rattle.lex.specs.declared.lex.Symbol.TheVariants.{Asterisk, Caret, ExclaimBracket, Lt, Pipe, Quote1, Quote2, Tilde, Underscore, Colon}
use Rattle.lex.specs.declared.lex.Sequence.{Sequence}
use Rattle.lex.specs.declared.lex.Sequence.TheVariants.{Backtick, Hyphen, Period}
use Rattle.lex.specs.declared.lex.Cursor.{Cursor}
use Rattle.lex.specs.declared.lex.Lexed.{Lexed}
use Rattle.attr.specs.declared.attr.State.{State}
use Rattle.attr.specs.declared.attr.State.TheVariants as state
use Rattle.dash.specs.declared.Dashes.{Dashes}
use Rattle.dash.specs.declared.Dots.{Dots}
use Rattle.exports.specs.declared.Mark.{Mark}
use Rattle.exports.specs.declared.CursorNumbers.{CursorNumbers}
use Rattle.exports.specs.declared.Step.{Step}
use Rattle.exports.specs.declared.Scanned.{Scanned}
use Rattle.exports.specs.declared.Counts.{Counts}

-- the states of the attribute validator in their order in the source
unfoldable pub states : List State
states =
    state.Start ∷ state.Whitespace ∷ state.CommentFirst ∷ state.Comment ∷ state.CommentNewline ∷ state.ClassFirst ∷ state.Class ∷ state.IdentifierFirst ∷ state.Identifier ∷ state.Key ∷ state.ValueFirst ∷ state.Value ∷ state.ValueQuoted ∷ state.ValueEscape ∷ state.ValueNewline ∷ state.ValueContinued ∷ state.Done ∷ state.Invalid ∷ []

-- the place of each in that list
abbrev pub validator_number : State → ℕ
validator_number state.Start = 0
validator_number state.Whitespace = 1
validator_number state.CommentFirst = 2
validator_number state.Comment = 3
validator_number state.CommentNewline = 4
validator_number state.ClassFirst = 5
validator_number state.Class = 6
validator_number state.IdentifierFirst = 7
validator_number state.Identifier = 8
validator_number state.Key = 9
validator_number state.ValueFirst = 10
validator_number state.Value = 11
validator_number state.ValueQuoted = 12
validator_number state.ValueEscape = 13
validator_number state.ValueNewline = 14
validator_number state.ValueContinued = 15
validator_number state.Done = 16
validator_number state.Invalid = 17

-- and back: a number that is none's is invalid
unfoldable pub validator_state : ℕ → State
validator_state n = elim (ltb n 18) [ true ↦ get_or states n state.Start | false ↦ state.Invalid ]

-- the delimiters, symbols and sequences in their order in the source
abbrev pub delimiters : List Delimiter
delimiters =
    Brace ∷ BraceAsterisk ∷ BraceCaret ∷ BraceEqual ∷ BraceHyphen ∷ BracePlus ∷ BraceTilde ∷ BraceUnderscore ∷ Bracket ∷ BraceQuote1 ∷ BraceQuote2 ∷ Paren ∷ []

abbrev pub symbols : List Symbol
symbols = Asterisk ∷ Caret ∷ ExclaimBracket ∷ Lt ∷ Pipe ∷ Quote1 ∷ Quote2 ∷ Tilde ∷ Underscore ∷ Colon ∷ []

abbrev pub sequences : List Sequence
sequences = Backtick ∷ Hyphen ∷ Period ∷ []

-- the kinds by their numbers
unfoldable pub kinds : List Kind
kinds =
    (Text ∷ Newline ∷ Nbsp ∷ Hardbreak ∷ Escape ∷ [])
    ++ map Open delimiters
    ++ map Close delimiters
    ++ map Sym symbols
    ++ map Seq sequences

-- the place of each in those lists
abbrev pub delimiter_number : Delimiter → ℕ
delimiter_number Brace = 0
delimiter_number BraceAsterisk = 1
delimiter_number BraceCaret = 2
delimiter_number BraceEqual = 3
delimiter_number BraceHyphen = 4
delimiter_number BracePlus = 5
delimiter_number BraceTilde = 6
delimiter_number BraceUnderscore = 7
delimiter_number Bracket = 8
delimiter_number BraceQuote1 = 9
delimiter_number BraceQuote2 = 10
delimiter_number Paren = 11

abbrev pub symbol_number : Symbol → ℕ
symbol_number Asterisk = 0
symbol_number Caret = 1
symbol_number ExclaimBracket = 2
symbol_number Lt = 3
symbol_number Pipe = 4
symbol_number Quote1 = 5
symbol_number Quote2 = 6
symbol_number Tilde = 7
symbol_number Underscore = 8
symbol_number Colon = 9

abbrev pub sequence_number : Sequence → ℕ
sequence_number Backtick = 0
sequence_number Hyphen = 1
sequence_number Period = 2

abbrev pub kind_number : Kind → ℕ
kind_number Text = 0
kind_number Newline = 1
kind_number Nbsp = 2
kind_number Hardbreak = 3
kind_number Escape = 4
kind_number (Open d) = 5 + delimiter_number d
kind_number (Close d) = 17 + delimiter_number d
kind_number (Sym s) = 29 + symbol_number s
kind_number (Seq q) = 39 + sequence_number q

-- a token, or none, which is 42
abbrev pub mark_of : Option Token → Mark
mark_of (Some t) = record { kind = kind_number t.kind; len = t.len }
mark_of None = record { kind = 42; len = 0 }

-- and back: 42 and every larger number is none
unfoldable pub token_of : Mark → Option Token
token_of m = elim (ltb m.kind 42) [ true ↦ Some (record { kind = get_or kinds m.kind Text; len = m.len }) | false ↦ None ]

abbrev pub cursor_of : CursorNumbers → Cursor
cursor_of s = record { pos = s.pos; escape = s.escape; next = token_of s.next; verbatim = s.verbatim }

abbrev pub state_of : Cursor → CursorNumbers
state_of c = record { pos = c.pos; escape = c.escape; verbatim = c.verbatim; next = mark_of c.next }

abbrev pub step_of : Lexed → Step
step_of l = record { token = mark_of l.token; state = state_of l.cursor }

-- what a scan found, and its length, 0 where it found nothing
abbrev pub scanned_of : Option ℕ → Scanned
scanned_of (Some n) = record { found = true; len = n }
scanned_of None = record { found = false; len = 0 }

abbrev pub dash_counts : Dashes → Counts
dash_counts d = record { first = d.em; second = d.en }

abbrev pub dot_counts : Dots → Counts
dot_counts d = record { first = d.ellipses; second = d.rest }
