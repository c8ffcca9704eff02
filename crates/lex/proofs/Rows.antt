-- Worked lines, by computation: named cases of the comparison with the Rust, read without peeks. A row has the line, whether it is read in
-- verbatim, and its tokens.
use Rattle.std.specs.Prelude.{None, Some}
use Prim.Native.Nat.{ℕ, zero, suc}
use Prim.Native.String.{String}
use mathlib.Core.Path.{◌≡◌, refl}
use mathlib.Core.List.{List, [], ◌∷◌, map}
use mathlib.Core.Bool.{Bool, true, false}
use lib.ListN.{length}
use Rattle.classes.specs.Classes.{bytes, among, special, blank, punctuation, alphanumeric}
use Rattle.classes.specs.Sets.{in_set, run}
use Rattle.lex.specs.declared.lex.Token.{Token}
use Rattle.lex.specs.declared.lex.Kind.TheVariants.{Text, Newline, Nbsp, Hardbreak, Escape, Open, Close, Sym, Seq}
use Rattle.lex.specs.declared.lex.Delimiter.TheVariants.{Brace, BraceEqual, BraceHyphen, BracePlus, Bracket, Paren}
use Rattle.lex.specs.declared.lex.Symbol.TheVariants.{Asterisk, ExclaimBracket, Lt, Pipe, Colon}
use Rattle.lex.specs.declared.lex.Sequence.TheVariants.{Backtick, Hyphen, Period}
use Rattle.lex.specs.declared.lex.Cursor.{Cursor}
use Rattle.lex.specs.Lexer.{token, lookup, starts, start_of, braces, hyphens_of, begun_by, escaped_of, lexed, texts, fresh_of, found_by, taken_of}
use Rattle.lex.specs.Lexer.{next_by, next_of}

-- the tokens of a line, n at the most
tokens : ℕ → List ℕ → Cursor → List Token
tokens zero src c = []
tokens (suc n) src c = let r = next_of src c in elim r.token [ Some t ↦ t ∷ tokens n src r.cursor | None ↦ [] ]

record Row : Type 0 where
  line : String
  verbatim : Bool
  tokens : List Token

abbrev row : String → Bool → List Token → Row
row line verbatim tokens = record { line = line; verbatim = verbatim; tokens = tokens }

table : List Row
table =
    row "" false []
    ∷ row "a=b+c!d\\e" false (token Text 9 ∷ [])
    ∷ row "a=b+c!d\\e" true (token Text 9 ∷ [])
    ∷ row "\\\n" false (token Escape 1 ∷ token Hardbreak 1 ∷ [])
    ∷ row "\\\n" true (token Escape 1 ∷ token Newline 1 ∷ [])
    ∷ row "\\ \n" false (token Escape 1 ∷ token Hardbreak 2 ∷ [])
    ∷ row "\\ \n" true (token Escape 1 ∷ token Text 1 ∷ token Newline 1 ∷ [])
    ∷ row "\\ \t \nb" false (token Escape 1 ∷ token Hardbreak 4 ∷ token Text 1 ∷ [])
    ∷ row "\\ \t \nb" true (token Escape 1 ∷ token Text 3 ∷ token Newline 1 ∷ token Text 1 ∷ [])
    ∷ row "\\\t\n" false (token Escape 1 ∷ token Hardbreak 2 ∷ [])
    ∷ row "\\\t\n" true (token Escape 1 ∷ token Text 1 ∷ token Newline 1 ∷ [])
    ∷ row "\\ a" false (token Escape 1 ∷ token Nbsp 1 ∷ token Text 1 ∷ [])
    ∷ row "\\ a" true (token Escape 1 ∷ token Text 2 ∷ [])
    ∷ row "\\\ta" false (token Escape 1 ∷ token Text 2 ∷ [])
    ∷ row "\\\ta" true (token Escape 1 ∷ token Text 2 ∷ [])
    ∷ row "a\\" false (token Text 2 ∷ [])
    ∷ row "a\\" true (token Text 2 ∷ [])
    ∷ row "\\" false (token Text 1 ∷ [])
    ∷ row "\\" true (token Text 1 ∷ [])
    ∷ row "\\a" false (token Text 2 ∷ [])
    ∷ row "\\a" true (token Text 2 ∷ [])
    ∷ row "\\\u{b}" false (token Text 2 ∷ [])
    ∷ row "\\\u{b}" true (token Text 2 ∷ [])
    ∷ row "\\\u{c}" false (token Escape 1 ∷ token Text 1 ∷ [])
    ∷ row "\\\u{c}" true (token Escape 1 ∷ token Text 1 ∷ [])
    ∷ row "\\*a" false (token Escape 1 ∷ token Text 2 ∷ [])
    ∷ row "\\*a" true (token Escape 1 ∷ token (Sym Asterisk) 1 ∷ token Text 1 ∷ [])
    ∷ row "\\\\*" false (token Escape 1 ∷ token Text 1 ∷ token (Sym Asterisk) 1 ∷ [])
    ∷ row "\\\\*" true (token Escape 1 ∷ token Escape 1 ∷ token (Sym Asterisk) 1 ∷ [])
    ∷ row "-}" false (token (Close BraceHyphen) 2 ∷ [])
    ∷ row "--}" false (token (Seq Hyphen) 1 ∷ token (Close BraceHyphen) 2 ∷ [])
    ∷ row "---" false (token (Seq Hyphen) 3 ∷ [])
    ∷ row "---}-" false (token (Seq Hyphen) 2 ∷ token (Close BraceHyphen) 2 ∷ token (Seq Hyphen) 1 ∷ [])
    ∷ row "{--}" false (token (Open BraceHyphen) 2 ∷ token (Close BraceHyphen) 2 ∷ [])
    ∷ row "{-a-}" false (token (Open BraceHyphen) 2 ∷ token Text 1 ∷ token (Close BraceHyphen) 2 ∷ [])
    ∷ row "=}=" false (token (Close BraceEqual) 2 ∷ token Text 1 ∷ [])
    ∷ row "+}+" false (token (Close BracePlus) 2 ∷ token Text 1 ∷ [])
    ∷ row "![a]!" false (token (Sym ExclaimBracket) 2 ∷ token Text 1 ∷ token (Close Bracket) 1 ∷ token Text 1 ∷ [])
    ∷ row "!" false (token Text 1 ∷ [])
    ∷ row "``````" false (token (Seq Backtick) 6 ∷ [])
    ∷ row "...." false (token (Seq Period) 4 ∷ [])
    ∷ row "{a}" false (token (Open Brace) 1 ∷ token Text 1 ∷ token (Close Brace) 1 ∷ [])
    ∷ row "<a|b>:c:" false (token (Sym Lt) 1 ∷ token Text 1 ∷ token (Sym Pipe) 1 ∷ token Text 2 ∷ token (Sym Colon) 1 ∷ token Text 1 ∷ token (Sym Colon) 1 ∷ [])
    ∷ row "(a)[b]" false (token (Open Paren) 1 ∷ token Text 1 ∷ token (Close Paren) 1 ∷ token (Open Bracket) 1 ∷ token Text 1 ∷ token (Close Bracket) 1 ∷ [])
    ∷ row "one two\nthree" false (token Text 7 ∷ token Newline 1 ∷ token Text 5 ∷ [])
    ∷ []

all-rows : map (λ (r : Row). let s = bytes r.line in tokens (length s) s (fresh_of 0 r.verbatim)) table ≡ map (λ (r : Row). r.tokens) table
unfolding tokens table bytes among special blank punctuation alphanumeric in_set run lookup starts start_of braces hyphens_of begun_by escaped_of lexed texts found_by taken_of next_by
all-rows = refl
