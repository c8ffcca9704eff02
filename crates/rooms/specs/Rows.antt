-- The records of a room of numbers, whatever a record is: `read room i` is the record at place i.
use Rattle.std.specs.Prelude.{ℕ, zero, suc, List, [], ◌∷◌, ◌++◌}

-- the first n records, the oldest first: a queue
unfoldable pub rows : {R : Type 0} → (List ℕ → ℕ → R) → ℕ → List ℕ → List R
rows read zero room = []
rows read (suc n) room = rows read n room ++ (read room n ∷ [])

-- the first n records, the newest first: a stack
unfoldable pub stack : {R : Type 0} → (List ℕ → ℕ → R) → ℕ → List ℕ → List R
stack read zero room = []
stack read (suc n) room = read room n ∷ stack read n room
