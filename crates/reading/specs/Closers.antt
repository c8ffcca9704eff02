-- The closing marks (document 01, "Containers"): what a token closes. A quote closes with a brace or without, so that each quote is one mark.
use Rattle.std.specs.Prelude.{ℕ, Bool, eqb}
use Rattle.reading.specs.declared.Closer.{Closer}
use Rattle.reading.specs.declared.Closer.TheVariants as closer

-- each mark has its number
unfoldable pub number : Closer → ℕ
number closer.Bracket = 1
number closer.Paren = 2
number closer.Asterisk = 3
number closer.BraceAsterisk = 4
number closer.Underscore = 5
number closer.BraceUnderscore = 6
number closer.Caret = 7
number closer.BraceCaret = 8
number closer.Tilde = 9
number closer.BraceTilde = 10
number closer.BraceEqual = 11
number closer.BraceHyphen = 12
number closer.BracePlus = 13
number closer.Quote1 = 14
number closer.Quote2 = 15

-- two marks are the same
abbrev pub same : Closer → Closer → Bool
same c d = eqb (number c) (number d)
