-- `Parser::set_kind` meets its contract, by that of `set_kind_to`: the end that is given is the event's own.
use Prim.Native.Nat.{ℕ}
use mathlib.Core.Path.{◌≡◌, refl, sym, ap, ◌∙◌}
use mathlib.Core.List.{List}
use Rattle.reading.specs.declared.Event.{Event}
use Rattle.reading.specs.Events.{becomes, becomes_to}
use Rattle.reading.specs.Machine.{amend, with_queue}
use Rattle.rooms.specs.Records.{event_at, events}
use Rattle.rooms.specs.Steps.{state, staying}
use Rattle.rooms.proofs.Laws.{replaced}
use Rattle.rooms.proofs.Changing.{queued-as}
use Rattle.rooms.proofs.Parser.set_kind.Goals as goal

-- the event is one and the same
kept : (c : goal.After-set_kind_to) (n : ℕ)
    → amend (becomes_to c.args.kind c.args.h c.event_at.result.end.0) c.args.i (events n c.args.self.now.queue.now)
    ≡ amend (becomes c.args.kind c.args.h) c.args.i (events n c.args.self.now.queue.now)
kept c n =
    let room = c.args.self.now.queue.now in
    let e = becomes c.args.kind c.args.h (event_at room c.args.i) in
    rw c.event_at.ensures
    (sym (replaced room c.args.i e c.requires (becomes_to c.args.kind c.args.h (event_at room c.args.i).end.0) refl n)
    ∙ replaced room c.args.i e c.requires (becomes c.args.kind c.args.h) refl n)

pub returns-clause-queued : goal.returns-clause-queued
returns-clause-queued c =
    let p = c.args.self.now in
    queued-as p _ _ c.set_kind_to.ensures.queued _
    (ap (λ (x : List Event). staying p (with_queue x) (state p)) (kept c p.at.events))

pub returns-clause-all : goal.returns-clause-all
returns-clause-all c n = c.set_kind_to.ensures.all n ∙ kept c n
