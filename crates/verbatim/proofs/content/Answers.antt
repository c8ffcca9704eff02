-- `verbatim::content` meets its contract, by the laws of `Closing`.
use mathlib.Core.Path.{refl}
use Rattle.rooms.specs.Standing.{viewed}
use Rattle.rooms.proofs.Changing.{queued-to}
use Rattle.verbatim.proofs.Closing.{content-turn}
use Rattle.verbatim.proofs.content.Goals as goal

pub returns : goal.returns
returns c t isr =
    let p = c.args.p.now in
    queued-to p _ _ _ _ c.put.ensures.queued refl refl refl refl refl
    (content-turn (viewed c.args.v.now) c.args.h c.args.w p _ c.args.run t isr c.put.ensures.queued c.put.new.p.at.events c.put.ensures.count)
