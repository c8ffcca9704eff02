-- Runs of bytes of one set: what the lexer's text and the scans ahead go over (document 01, "Lexer" and "Scans ahead").
use Rattle.std.specs.Prelude.{ℕ, List, Bool, not, ◌||◌, length}
use Rattle.std.specs.List.{take_while}
use Rattle.classes.specs.declared.Set.{Set}
use Rattle.classes.specs.declared.Set.TheVariants.{Plain, SpaceTab, Address, Unmarked, Name, Label, Format}
use Rattle.classes.specs.Classes.{bytes, among, special, blank, alphanumeric}

-- the bytes of a set
unfoldable pub in_set : Set → ℕ → Bool
-- text: not special
in_set Plain b = not (special b)
-- what may stand between a backslash and a newline
in_set SpaceTab b = among (bytes " \t") b
-- an autolink's address: no angle bracket, no blank
in_set Address b = not (among (bytes "<>") b || blank b)
-- an address before its first `:` or `@`
in_set Unmarked b = not (among (bytes "<>:@") b || blank b)
-- a symbol's name
in_set Name b = among (bytes "-+_") b || alphanumeric b
-- a footnote's label: no bracket, no newline
in_set Label b = not (among (bytes "[]\n") b)
-- a raw format: no brace, no blank
in_set Format b = not (among (bytes "{}") b || blank b)

-- how many bytes at the front are of a set
unfoldable pub run : (ℕ → Bool) → List ℕ → ℕ
run p s = length (take_while p s)
