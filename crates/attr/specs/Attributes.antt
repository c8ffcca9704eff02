-- An attribute block (Djot: inline attributes, here in our own words). In braces stand parts: `.class`, `#identifier`, `key=value`, and comments between
-- percent signs. A blank stands between two parts, but for a comment or a quoted value, which ends by itself. Names are of letters, digits, `:`, `_` and `-`.
-- A value is a name, or is quoted; within quotes a backslash takes the next byte along, up to a newline, behind which it is a byte as any other. A comment left
-- open is ended by the block's `}`. The tables are those of the source's `State::step`.
use Rattle.std.specs.Prelude.{ℕ, List, [], ◌∷◌, Bool, true, false, ◌||◌, eqb}
use Prim.Native.Char.{Char, code}
use Rattle.classes.specs.Classes.{bytes, among, blank, alphanumeric}
use Rattle.attr.specs.declared.attr.State.{State}
use Rattle.attr.specs.declared.attr.State.TheVariants as state

-- `is_name`
unfoldable pub name : ℕ → Bool
unfolding bytes among
name c = alphanumeric c || among (bytes ":_-") c

-- a row of a table: the bytes that a test takes lead to a state
pub record Row : Type 0 where
  pub test : ℕ → Bool
  pub next : State

abbrev pub on : Char → State → Row
on k s = record { test = λ c. eqb c (code k); next = s }

abbrev pub of : (ℕ → Bool) → State → Row
of f s = record { test = f; next = s }

-- by the first row whose test takes the byte; another byte leads elsewhere
unfoldable pub by : List Row → State → ℕ → State
by [] other c = other
by (r ∷ rs) other c = elim (r.test c) [ true ↦ r.next | false ↦ by rs other c ]

-- the brace
abbrev pub opening : ℕ → State
opening = by (on "{" state.Whitespace ∷ []) state.Invalid

-- between two parts
abbrev pub parts : ℕ → State
parts =
    by
    (on "}" state.Done ∷ on "." state.ClassFirst ∷ on "#" state.IdentifierFirst ∷ on "%" state.CommentFirst ∷ of name state.Key ∷ of blank state.Whitespace ∷ [])
    state.Invalid

abbrev pub comment : ℕ → State
comment = by (on "%" state.Whitespace ∷ on "}" state.Done ∷ on "\n" state.CommentNewline ∷ []) state.Comment

-- a name of at least one byte
abbrev pub first : State → ℕ → State
first s = by (of name s ∷ []) state.Invalid

-- the rest of it, in a class, an identifier or a value
abbrev pub rest : State → ℕ → State
rest s = by (of name s ∷ of blank state.Whitespace ∷ on "}" state.Done ∷ []) state.Invalid

-- a key is followed by `=`
abbrev pub key : ℕ → State
key = by (of name state.Key ∷ on "=" state.ValueFirst ∷ []) state.Invalid

abbrev pub value : ℕ → State
value = by (of name state.Value ∷ on "\"" state.ValueQuoted ∷ []) state.Invalid

-- in quotes: on the line they opened on, behind a backslash there, and on a later line
abbrev pub quoted : ℕ → State
quoted = by (on "\"" state.Whitespace ∷ on "\n" state.ValueNewline ∷ on "\\" state.ValueEscape ∷ []) state.ValueQuoted

abbrev pub escaped : ℕ → State
escaped = by (on "\n" state.ValueNewline ∷ []) state.ValueQuoted

abbrev pub continued : ℕ → State
continued = by (on "\"" state.Whitespace ∷ on "\n" state.ValueNewline ∷ []) state.ValueContinued

-- one byte. What is decided stays so
unfoldable pub step : State → ℕ → State
step state.Start c = opening c
step state.Whitespace c = parts c
step state.CommentFirst c = comment c
step state.Comment c = comment c
step state.CommentNewline c = comment c
step state.ClassFirst c = first state.Class c
step state.Class c = rest state.Class c
step state.IdentifierFirst c = first state.Identifier c
step state.Identifier c = rest state.Identifier c
step state.Key c = key c
step state.ValueFirst c = value c
step state.Value c = rest state.Value c
step state.ValueQuoted c = quoted c
step state.ValueEscape c = escaped c
step state.ValueNewline c = continued c
step state.ValueContinued c = continued c
step state.Done c = state.Done
step state.Invalid c = state.Invalid

-- all bytes, one after another
unfoldable pub fed : List ℕ → State → State
fed [] s = s
fed (c ∷ cs) s = fed cs (step s c)

unfoldable pub is_done : State → Bool
is_done state.Start = false
is_done state.Whitespace = false
is_done state.CommentFirst = false
is_done state.Comment = false
is_done state.CommentNewline = false
is_done state.ClassFirst = false
is_done state.Class = false
is_done state.IdentifierFirst = false
is_done state.Identifier = false
is_done state.Key = false
is_done state.ValueFirst = false
is_done state.Value = false
is_done state.ValueQuoted = false
is_done state.ValueEscape = false
is_done state.ValueNewline = false
is_done state.ValueContinued = false
is_done state.Done = true
is_done state.Invalid = false

-- no later byte changes it: done, or invalid
unfoldable pub is_decided : State → Bool
is_decided state.Start = false
is_decided state.Whitespace = false
is_decided state.CommentFirst = false
is_decided state.Comment = false
is_decided state.CommentNewline = false
is_decided state.ClassFirst = false
is_decided state.Class = false
is_decided state.IdentifierFirst = false
is_decided state.Identifier = false
is_decided state.Key = false
is_decided state.ValueFirst = false
is_decided state.Value = false
is_decided state.ValueQuoted = false
is_decided state.ValueEscape = false
is_decided state.ValueNewline = false
is_decided state.ValueContinued = false
is_decided state.Done = true
is_decided state.Invalid = true

-- an attribute block stands at the front of some bytes: a validator that is fed them, from its start state, reaches its done state
abbrev pub block : List ℕ → Bool
block cs = is_done (fed cs state.Start)
