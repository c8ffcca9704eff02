-- `outside::hyphens` meets its contract.
use mathlib.Core.Path.{refl}
use Rattle.std.proofs.Common.{rules}
use Rattle.reading.specs.Reading.{outside}
use Rattle.reading.specs.Looks.{seeks_by, looked}
use Rattle.outside.proofs.Single.{queued_counted}
use Rattle.outside.proofs.hyphens.Goals as goal

pub returns-then-h-lt2 : goal.returns-then-h-lt2
unfolding outside seeks_by looked
returns-then-h-lt2 c x =
    let e = c.alone.ensures x in
    search rules

pub returns : goal.returns
unfolding outside seeks_by
returns c x =
    let e = queued_counted c.args.p.now _ _ _ c.dashes.ensures refl refl refl refl refl refl in
    search rules
