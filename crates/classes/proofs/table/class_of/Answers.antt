-- `classes::table::class_of` meets its contract: the table's rule is one test over all 256 entries, computed here, and carried to each by `ruled`.
use Prim.Native.Nat.{◌<◌}
use mathlib.Core.Path.{refl}
use borrow.Author.Rules.{rules}
use Rattle.classes.specs.declared.table.TheConstants.{CLASSES}
use Rattle.classes.specs.Classes.{bytes, among, special, blank, alphanumeric, punctuation, class_of}
use Rattle.classes.proofs.Rule.{ruled, ruled_from}
use Rattle.classes.proofs.table.class_of.Goals as goal

pub returns : goal.returns
unfolding ruled_from bytes among special blank alphanumeric punctuation class_of
returns c = let within : c.args.b < 256 = search rules in (ruled CLASSES refl refl).rule c.args.b within
