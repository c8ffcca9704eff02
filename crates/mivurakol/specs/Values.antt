-- What the values of the C interface stand for.
use Rattle.std.specs.Prelude.{ℕ, ◌-◌, List, true, false, eqb, take, drop, Option, Some, None}
use Rattle.reading.specs.Events.{home_text, home_labels}
use Rattle.lookup.specs.declared.Source.{Source}
use Rattle.lookup.specs.Lookup.{number_of}
use Rattle.mivurakol.specs.declared.Part.{Part}

-- the part from a to before b of a home; no home gives an empty part of the text
abbrev pub part_of : Option Source → ℕ → ℕ → Part
part_of (Some s) a b = record { home = number_of s; start = a; len = b - a }
part_of None a b = record { home = home_text; start = 0; len = 0 }

-- the bytes of a part
abbrev pub bytes_of : Part → List ℕ → List ℕ → List ℕ
bytes_of r text labels =
    elim (eqb r.home home_labels) [ true ↦ take r.len (drop r.start labels) | false ↦ take r.len (drop r.start text) ]
