-- Scans ahead (document 01, "Scans ahead"): each over the bytes from the place behind what opens. The answer is the length up to what
-- closes, or nothing. Djot's rules on autolinks, symbols, footnote references and raw inlines are stated by them.
use Rattle.std.specs.Prelude.{ℕ, List, [], ◌∷◌, Bool, true, false, ◌||◌, eqb, get_or, take, Option, Some, None}
use Prim.Native.Char.{code}
use Rattle.classes.specs.Classes.{bytes, among}
use Rattle.classes.specs.declared.Set.{Set}
use Rattle.classes.specs.declared.Set.TheVariants.{Address, Name, Label, Format}
use Rattle.classes.specs.Sets.{in_set, run}

-- n bytes, if the byte behind them closes
unfoldable pub closed_at : List ℕ → ℕ → ℕ → Option ℕ
closed_at s n close = elim (eqb (get_or s n 0) close) [ true ↦ Some n | false ↦ None ]

-- the bytes of a set, up to a byte that closes
unfoldable pub upto_of : Set → ℕ → List ℕ → Option ℕ
upto_of set close s = closed_at s (run (in_set set) s) close

-- a byte that makes an address of what stands in angle brackets
unfoldable pub mark : ℕ → Bool
mark b = among (bytes ":@") b

unfoldable pub marked : List ℕ → Bool
marked [] = false
marked (b ∷ bs) = mark b || marked bs

-- autolink, behind `<`: up to `>`, with no `<` or blank, and at least one `:` or `@`
unfoldable pub autolink_of : List ℕ → Option ℕ
autolink_of s = elim (marked (take (run (in_set Address) s) s)) [ true ↦ upto_of Address (code ">") s | false ↦ None ]

-- symbol, behind `:`: up to `:`, only alphanumerics and `-`, `+`, `_`; empty allowed
unfoldable pub symbol_of : List ℕ → Option ℕ
symbol_of s = upto_of Name (code ":") s

-- footnote, behind `[^`: up to `]`, no `[` or newline; empty allowed
unfoldable pub footnote_of : List ℕ → Option ℕ
footnote_of s = upto_of Label (code "]") s

-- raw format, behind `{=`: at least one byte, up to `}`, no `{` or blank
unfoldable pub raw_format_of : List ℕ → Option ℕ
raw_format_of s = elim (eqb (run (in_set Format) s) 0) [ true ↦ None | false ↦ upto_of Format (code "}") s ]
