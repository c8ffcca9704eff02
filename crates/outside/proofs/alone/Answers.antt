-- `outside::alone` meets its contract: all openers are counted, and the token is Str.
use mathlib.Core.Path.{refl}
use Rattle.rooms.specs.Standing.{viewed}
use Rattle.rooms.proofs.Changing.{queued-from}
use Rattle.outside.proofs.Single.{alone-looked}
use Rattle.outside.proofs.alone.Goals as goal

pub returns : goal.returns
returns c x = queued-from c.args.p.now _ _ _ _ c.put.ensures.queued refl refl refl refl refl (alone-looked x (viewed c.args.v.now) c.args.h c.args.p.now)
