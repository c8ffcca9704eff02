-- The sheets of `Worked`, by computation.
use mathlib.Core.Path.{◌≡◌, refl}
use mathlib.Core.List.{map}
use Rattle.classes.specs.Classes.{bytes}
use Rattle.markup.specs.Markup.{opening, closing, breaking, atoms, find, tag, characters, entities, escape_by, escaped, raw_behind, unless_raw}
use Rattle.markup.specs.Markup.{outside_raw}
use Rattle.markup.specs.Worked.{worked, found, expected}

pub written-rows : map found worked ≡ map expected worked
unfolding worked bytes opening closing breaking atoms find tag characters entities escape_by escaped raw_behind unless_raw outside_raw
written-rows = refl
