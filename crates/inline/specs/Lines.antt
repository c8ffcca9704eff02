-- The line list as two lists of numbers (document 01, "What changes shape"): line i runs from start i to before end i.
use Rattle.std.specs.Prelude.{ℕ, List, [], ◌∷◌}
use Rattle.reading.specs.declared.Line.{Line}

-- a start without an end, or an end without a start: it stands as a line that ends before it starts, which question 3 refuses
abbrev pub unpaired : Line
unpaired = record { start = 1; end = 0 }

unfoldable pub lines_of : List ℕ → List ℕ → List Line
lines_of [] [] = []
lines_of (a ∷ starts) [] = unpaired ∷ lines_of starts []
lines_of [] (b ∷ ends) = unpaired ∷ lines_of [] ends
lines_of (a ∷ starts) (b ∷ ends) = record { start = a; end = b } ∷ lines_of starts ends

-- what stands past the end of a line list
abbrev pub none : Line
none = record { start = 0; end = 0 }
