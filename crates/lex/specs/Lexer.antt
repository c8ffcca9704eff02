-- The lexer (document 01, "Lexer"): the tokens of a line's bytes, which the rules on inlines of the Djot syntax reference speak of.
use Rattle.std.specs.Prelude.{ℕ, suc, ◌+◌, ◌-◌, List, [], ◌∷◌, Bool, true, false, not, ◌&&◌, ◌||◌, leb, ltb, eqb, length, get_or, drop, Option, Some, None}
use Prim.Native.Char.{code}
use Rattle.classes.specs.Classes.{blank, punctuation}
use Rattle.classes.specs.declared.Set.TheVariants.{Plain, SpaceTab}
use Rattle.classes.specs.Sets.{in_set, run}
use Rattle.lex.specs.declared.lex.Token.{Token}
use Rattle.lex.specs.declared.lex.Kind.{Kind}
use Rattle.lex.specs.declared.lex.Kind.TheVariants.{Text, Newline, Nbsp, Hardbreak, Escape, Open, Close, Sym, Seq}
use Rattle.lex.specs.declared.lex.Delimiter.TheVariants.{Brace, BraceAsterisk, BraceCaret, BraceEqual, BraceHyphen, BracePlus}
use Rattle.lex.specs.declared.lex.Delimiter.TheVariants.{BraceTilde, BraceUnderscore, Bracket, BraceQuote1, BraceQuote2, Paren}
use Rattle.lex.specs.declared.lex.Symbol.TheVariants.{Asterisk, Caret, ExclaimBracket, Lt, Pipe, Quote1, Quote2, Tilde, Underscore, Colon}
use Rattle.lex.specs.declared.lex.Sequence.{Sequence}
use Rattle.lex.specs.declared.lex.Sequence.TheVariants.{Backtick, Hyphen, Period}
use Rattle.lex.specs.declared.lex.Cursor.{Cursor}
use Rattle.lex.specs.declared.lex.Lexed.{Lexed}
use Rattle.lex.specs.declared.lex.Joined.{Joined}
use Rattle.lex.specs.declared.lex.Start.{Start}
use Rattle.lex.specs.declared.lex.Start.TheVariants as start

abbrev pub token : Kind → ℕ → Token
token k n = record { kind = k; len = n }

-- what a table has for a byte
unfoldable pub lookup : {A : Type 0} → A → List (ℕ × A) → ℕ → A
lookup d [] b = d
lookup d (r ∷ rs) b = elim (eqb b r.0) [ true ↦ r.1 | false ↦ lookup d rs b ]

-- what each special byte begins. `Closing` is a mark that a brace behind it makes a closer (Djot: a mark in braces, as `{_` and `_}`, can only
-- open or close)
unfoldable pub starts : List (ℕ × Start)
starts =
    (code "\\", start.Backslash)
    ∷ (code "[", start.Sole (Open Bracket))
    ∷ (code "]", start.Sole (Close Bracket))
    ∷ (code "(", start.Sole (Open Paren))
    ∷ (code ")", start.Sole (Close Paren))
    ∷ (code "{", start.Brace)
    ∷ (code "}", start.Sole (Close Brace))
    ∷ (code "*", start.Closing (Sym Asterisk) BraceAsterisk)
    ∷ (code "^", start.Closing (Sym Caret) BraceCaret)
    ∷ (code "=", start.Closing Text BraceEqual)
    ∷ (code "+", start.Closing Text BracePlus)
    ∷ (code "~", start.Closing (Sym Tilde) BraceTilde)
    ∷ (code "_", start.Closing (Sym Underscore) BraceUnderscore)
    ∷ (code "'", start.Closing (Sym Quote1) BraceQuote1)
    ∷ (code "\"", start.Closing (Sym Quote2) BraceQuote2)
    ∷ (code "-", start.Hyphen)
    ∷ (code "!", start.Exclaim)
    ∷ (code "<", start.Sole (Sym Lt))
    ∷ (code "|", start.Sole (Sym Pipe))
    ∷ (code ":", start.Sole (Sym Colon))
    ∷ (code "`", start.Run Backtick)
    ∷ (code ".", start.Run Period)
    ∷ (code "\n", start.Sole Newline)
    ∷ []

-- every other byte begins text
unfoldable pub start_of : ℕ → Start
start_of b = lookup start.Text starts b

-- the byte of a sequence
abbrev pub ch_of : Sequence → ℕ
ch_of Backtick = code "`"
ch_of Hyphen = code "-"
ch_of Period = code "."

-- what an opening brace makes of the mark behind it
unfoldable pub braces : List (ℕ × Token)
braces =
    (code "*", token (Open BraceAsterisk) 2)
    ∷ (code "^", token (Open BraceCaret) 2)
    ∷ (code "=", token (Open BraceEqual) 2)
    ∷ (code "-", token (Open BraceHyphen) 2)
    ∷ (code "+", token (Open BracePlus) 2)
    ∷ (code "~", token (Open BraceTilde) 2)
    ∷ (code "_", token (Open BraceUnderscore) 2)
    ∷ (code "'", token (Open BraceQuote1) 2)
    ∷ (code "\"", token (Open BraceQuote2) 2)
    ∷ []

-- n hyphens, and the byte behind them: a run stops before a hyphen that is followed by `}`, and `-}` closes
unfoldable pub hyphens_of : ℕ → ℕ → Token
hyphens_of n b =
    elim (eqb b (code "}")) [
      | false ↦ token (Seq Hyphen) n
      | true ↦ elim (ltb n 2) [ true ↦ token (Close BraceHyphen) 2 | false ↦ token (Seq Hyphen) (n - 1) ]
    ]

-- the token of bytes that begin so; `get_or s 1 0` is the second of them
unfoldable pub begun_by : Start → List ℕ → Token
-- text goes on up to the next special byte
begun_by start.Text s = let n = run (in_set Plain) s in token Text n
begun_by (start.Sole k) s = token k 1
begun_by (start.Closing k d) s = elim (eqb (get_or s 1 0) (code "}")) [ true ↦ token (Close d) 2 | false ↦ token k 1 ]
begun_by start.Brace s = lookup (token (Open Brace) 1) braces (get_or s 1 0)
-- Djot's escapes: a backslash before punctuation or a blank; before anything else, and at the line's end, it is text
begun_by start.Backslash s = elim (blank (get_or s 1 0) || punctuation (get_or s 1 0)) [ true ↦ token Escape 1 | false ↦ token Text 1 ]
begun_by start.Hyphen s = let n = run (eqb (code "-")) s in hyphens_of n (get_or s n 0)
begun_by start.Exclaim s = elim (eqb (get_or s 1 0) (code "[")) [ true ↦ token (Sym ExclaimBracket) 2 | false ↦ token Text 1 ]
begun_by (start.Run q) s = let n = run (eqb (ch_of q)) s in token (Seq q) n

-- the token of bytes of which the first is not escaped
abbrev pub begun_of : List ℕ → Token
begun_of s = begun_by (start_of (get_or s 0 0)) s

-- the token of bytes of which a backslash escapes the first. Djot: before a line's end, with blanks between or not, it is a hard break;
-- before another space a no-break space; anything else stands for itself, a tab too
unfoldable pub escaped_of : List ℕ → Token
escaped_of s =
    elim (eqb (get_or s 0 0) (code "\n")) [
      | true ↦ token Hardbreak 1
      | false ↦ let n = run (in_set SpaceTab) s in
          elim (ltb 0 n && eqb (get_or s n 0) (code "\n")) [
            | true ↦ token Hardbreak (n + 1)
            | false ↦ elim (eqb (get_or s 0 0) (code " ")) [ true ↦ token Nbsp 1 | false ↦ token Text 1 ]
          ]
    ]

-- the token at the front, if there is a byte left
unfoldable pub lexed : Bool → List ℕ → Option Token
lexed escape [] = None
lexed true (b ∷ bs) = Some (escaped_of (b ∷ bs))
lexed false (b ∷ bs) = Some (begun_of (b ∷ bs))

abbrev pub is_text : Kind → Bool
is_text Text = true
is_text Newline = false
is_text Nbsp = false
is_text Hardbreak = false
is_text Escape = false
is_text (Open d) = false
is_text (Close d) = false
is_text (Sym y) = false
is_text (Seq q) = false

abbrev pub is_escape : Kind → Bool
is_escape Text = false
is_escape Newline = false
is_escape Nbsp = false
is_escape Hardbreak = false
is_escape Escape = true
is_escape (Open d) = false
is_escape (Close d) = false
is_escape (Sym y) = false
is_escape (Seq q) = false

-- the byte behind a token is escaped: behind a backslash, but not in verbatim
abbrev pub pending_of : Option Token → Bool → Bool
pending_of None verbatim = false
pending_of (Some t) verbatim = is_escape t.kind && not verbatim

-- neighbouring Text tokens are joined: the bytes one after another at which a Text token begins
unfoldable pub texts : List ℕ → ℕ
texts [] = 0
texts (b ∷ bs) = elim (is_text (begun_of (b ∷ bs)).kind) [ true ↦ suc (texts bs) | false ↦ 0 ]

-- the end of the Text tokens from a place of a line on, and the token there
unfoldable pub joined_of : List ℕ → ℕ → Joined
joined_of src from = let end = from + texts (drop from src) in record { end = end; next = lexed false (drop end src) }

-- a cursor with other values for its place, and the token held there
abbrev pub holding_of : Cursor → ℕ → Option Token → Cursor
holding_of c pos next = record { pos = pos; escape = pending_of next c.verbatim; next = next; verbatim = c.verbatim }

-- a fresh cursor
abbrev pub fresh_of : ℕ → Bool → Cursor
fresh_of pos verbatim = record { pos = pos; escape = false; next = None; verbatim = verbatim }

-- the next token of a line, and the cursor after it, where no token is held: of the bytes s from the cursor's place on, a Text token is
-- joined with those behind it, and the token behind them is then held
unfoldable pub found_by : Cursor → List ℕ → Option Token → Lexed
found_by c s None = record { token = None; cursor = holding_of c c.pos None }
found_by c s (Some t) =
    elim (is_text t.kind) [
      | false ↦ record {
        token = Some t;
        cursor = record { pos = c.pos + t.len; escape = pending_of (Some t) c.verbatim; next = None; verbatim = c.verbatim };
      }
      | true ↦ let n = t.len + texts (drop t.len s) in
          record { token = Some (token Text n); cursor = holding_of c (c.pos + n) (lexed false (drop n s)) }
    ]

-- a held token is the next one as it is, if it lies within the line; else there is none
unfoldable pub taken_of : List ℕ → Cursor → Token → Lexed
taken_of src c t =
    elim (leb (c.pos + t.len) (length src)) [
      | true ↦ record {
        token = Some t;
        cursor = record { pos = c.pos + t.len; escape = c.escape; next = None; verbatim = c.verbatim };
      }
      | false ↦ record { token = None; cursor = c }
    ]

unfoldable pub next_by : List ℕ → Cursor → Option Token → Lexed
next_by src c (Some t) = taken_of src c t
next_by src c None = let s = drop c.pos src in found_by c s (lexed c.escape s)

-- the next token of a line
abbrev pub next_of : List ℕ → Cursor → Lexed
next_of src c = next_by src c c.next

unfoldable pub peek_by : List ℕ → Cursor → Option Token → Lexed
peek_by src c (Some t) = record { token = Some t; cursor = c }
peek_by src c None = let t = lexed c.escape (drop c.pos src) in record { token = t; cursor = holding_of c c.pos t }

-- a peek holds the token
abbrev pub peek_of : List ℕ → Cursor → Lexed
peek_of src c = peek_by src c c.next
