-- What is handed out of an input: all of it, if it is shorter than the room.
use Rattle.std.specs.Prelude.{ℕ, List, length, nat_lt, Option, Some, None, if◌then◌else◌}

abbrev pub short_input : ℕ → List ℕ → Option (List ℕ)
short_input room input = if nat_lt (length input) room then Some input else None
