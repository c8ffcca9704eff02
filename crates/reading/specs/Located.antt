-- Which line an event is on (document 02, L5): "the index of the first fed line that ends after its span starts; the exit of a verbatim left open carries
-- the last line's index".
use Rattle.std.specs.Prelude.{ℕ, suc, List, [], ◌∷◌, true, false, ltb}
use Rattle.reading.specs.declared.Line.{Line}
use Rattle.reading.specs.declared.Event.{Event}
use Rattle.reading.specs.declared.Located.{Located}

-- the index of the first of some lines that ends after a place; of the last, where none does: only that exit begins where the last line ends
unfoldable pub line_of : List Line → ℕ → ℕ
line_of [] at = 0
line_of (l ∷ []) at = 0
line_of (l ∷ m ∷ ls) at = elim (ltb at l.end) [ true ↦ 0 | false ↦ suc (line_of (m ∷ ls) at) ]

-- an event, and each of some, with the line that it is on
abbrev pub located_of : List Line → Event → Located
located_of ls e = record { event = e; line = line_of ls e.start.0 }

unfoldable pub located : List Line → List Event → List Located
located ls [] = []
located ls (e ∷ es) = located_of ls e ∷ located ls es
