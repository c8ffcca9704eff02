-- The end of a link in the definition's words, of any sheet with a text and a label room. The parser has asked no brace: a block is taken to stand at each.
use Rattle.std.specs.Prelude.{ℕ, List, length}
use Rattle.reading.specs.declared.Opener.{Opener}
use Rattle.reading.specs.declared.Target.{Target}
use Rattle.reading.specs.Machine.{View, Rules, Sheet, State, Here}
use Rattle.reading.specs.Containers.{labelled, closes_link}
use Rattle.reading.specs.Blocks.{everywhere}

abbrev pub sheet_of : Rules → List ℕ → List ℕ → Sheet
sheet_of rules text room = record { rules = rules; text = text; room = length room; block = everywhere }

abbrev pub linked : Rules → List ℕ → List ℕ → View → Here → Target → Opener → State → State
linked rules text room v h t o s = closes_link t.container (labelled (sheet_of rules text room) v h t.inline o s) v h o s
