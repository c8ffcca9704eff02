-- The lines of a text: each with its newline, and the last without one too, unless it is empty (document 01, "Program").
use Rattle.std.specs.Prelude.{ℕ, suc, List, [], ◌∷◌, true, false, ltb, eqb}
use Prim.Native.Char.{code}
use Rattle.reading.specs.declared.Line.{Line}

-- from a place on, in the line that began at `from`
unfoldable pub lines_from : ℕ → ℕ → List ℕ → List Line
lines_from from at [] = elim (ltb from at) [ true ↦ record { start = from; end = at } ∷ [] | false ↦ [] ]
lines_from from at (b ∷ bs) =
    elim (eqb b (code "\n")) [
      | true ↦ record { start = from; end = suc at } ∷ lines_from (suc at) (suc at) bs
      | false ↦ lines_from from (suc at) bs
    ]

unfoldable pub text_lines : List ℕ → List Line
text_lines text = lines_from 0 0 text
