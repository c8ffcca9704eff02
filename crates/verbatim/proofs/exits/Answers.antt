-- `verbatim::exits` meets its contract, by the laws of `Closing`.
use mathlib.Core.Path.{refl}
use Rattle.rooms.proofs.Changing.{queued-on, queued-to}
use Rattle.verbatim.proofs.Closing.{opened-low, exits-turn}
use Rattle.verbatim.proofs.exits.Goals as goal

pub returns : goal.returns
returns c =
    let p = c.args.p.now in
    queued-to p _ _ _ _ (queued-on p _ _ _ _ c.cut.ensures.queued c.push.ensures.queued) refl refl refl refl refl
    (exits-turn c.args.w p _ _ (opened-low c.args.w p c.requires.opened) c.args.n c.args.start.0 c.args.end.0 c.exit_of-e.result c.exit_of-e.ensures
    c.cut.ensures.queued c.push.ensures.queued)
