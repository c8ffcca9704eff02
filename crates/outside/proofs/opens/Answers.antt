-- `outside::opens` meets its contract: all openers are counted, and one more is put.
use mathlib.Core.Path.{refl}
use Rattle.rooms.specs.Standing.{viewed}
use Rattle.rooms.proofs.Changing.{changed-from}
use Rattle.outside.proofs.Single.{opening-looked}
use Rattle.outside.proofs.opens.Goals as goal

pub returns : goal.returns
returns c x = changed-from c.args.p.now _ _ _ _ c.open_as.ensures refl refl refl refl (opening-looked x (viewed c.args.v.now) c.args.h c.args.p.now)
