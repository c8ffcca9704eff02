-- `inline::feed_line` meets its contract: the line is of the text.
use mathlib.Core.Path.{refl}
use Rattle.std.proofs.Common.{rules}
use Rattle.reading.specs.Machine.{view_of}
use Rattle.inline.specs.Asks.{Lined}
use Rattle.inline.proofs.Begins.{fed-ordered, fed-within}
use Rattle.inline.proofs.Holding.{fed-holding}
use Rattle.inline.proofs.feed_line.Goals as goal

pub view_of-requires-clause-ordered : goal.view_of-requires-clause-ordered
view_of-requires-clause-ordered c = fed-ordered c.args.text.now _ c.args.reading _ _ _ _ c.requires.amid

pub view_of-requires-clause-within : goal.view_of-requires-clause-within
view_of-requires-clause-within c = fed-within c.args.text.now _ c.args.reading _ _ _ _ c.requires.amid

pub returns-clause-held : goal.returns-clause-held
returns-clause-held c =
    let a = c.args in
    let l : Lined a.text.now (view_of a.text.now a.l) a.reading a.p.now = record { here = a.l; seen = refl; amid = c.requires.amid; labels = c.requires.labels_in_bounds } in
    let k = fed-holding a.text.now (view_of a.text.now a.l) a.reading _ a.p.now _ l (rw c.view_of.ensures at c.read_line.ensures) in
    search rules
