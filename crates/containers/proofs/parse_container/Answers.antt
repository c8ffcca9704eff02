-- `containers::parse_container` meets its contract, by the laws of `Sought`.
use Prim.Native.Nat.{ℕ, ◌-◌, ◌<◌}
use mathlib.Core.Path.{refl, ap, ◌∙◌}
use Rattle.std.proofs.Common.{rules}
use native.Mathlib.Omega.{arith}
use Rattle.reading.specs.Machine.{looking}
use Rattle.reading.specs.Containers.{container}
use Rattle.rooms.specs.Standing.{viewed, here}
use Rattle.rooms.specs.Steps.{state}
use Rattle.rooms.proofs.Changing.{stepped-from, changed-stepped, looked_at}
use Rattle.links.specs.Linked.{sheet_of}
use Rattle.containers.proofs.Sought.{looked-count, none-tried, found-named, found-names, closed-tried}
use Rattle.containers.proofs.parse_container.Goals as goal

pub returns-in_default : goal.returns-in_default
returns-in_default c x =
    let p = c.args.p.now in
    let y = sheet_of x c.args.text.now p.labels.now in
    stepped-from p _ _ _ _ (changed-stepped _ _ _ c.opens_or.ensures c.requires.label_room.labels) refl refl refl
    (none-tried (viewed c.args.v.now) c.args.h c.args.k (looked_at (c.args.p.now.at.openers - c.unwrap_or.result) c.args.p.now) c.tried.result c.tried.ensures.value c.in_default.is y
    ∙ ap (λ (n : ℕ). container y (viewed c.args.v.now) (here c.args.h p.at) c.args.k (looking n (state p)))
    (looked-count c.args.k.closes p c.seek-found.result c.seek-found.ensures.sought _ c.unwrap_or.ensures))

pub close_as-requires-clause-ready : goal.close_as-requires-clause-ready
close_as-requires-clause-ready c =
    let w = c.requires.ready in
    let few : c.in-Some.i < c.args.p.now.at.openers = search rules in
    record {
      long = w.long;
      within = w.within;
      small = w.small;
      place = w.place;
      sound = w.sound;
      room = w.room;
      few = w.few;
      shallow = omega (arith, few, w.shallow);
      stack = omega (arith, few, w.stack);
      named = found-named (viewed c.args.v.now) c.args.h c.args.k (looked_at (c.args.p.now.at.openers - c.unwrap_or.result) c.args.p.now) c.tried.result c.tried.ensures.value _ c.in-Some.is w.named;
    }

pub close_as-requires-clause-names : goal.close_as-requires-clause-names
close_as-requires-clause-names c =
    found-names (viewed c.args.v.now) c.args.h c.args.k (looked_at (c.args.p.now.at.openers - c.unwrap_or.result) c.args.p.now) c.tried.result c.tried.ensures.value _ c.in-Some.is
    c.opener_at-o.result c.opener_at-o.ensures c.requires.ready.named

pub returns : goal.returns
returns c x =
    let p = c.args.p.now in
    let y = sheet_of x c.args.text.now p.labels.now in
    stepped-from p _ _ _ _ (c.close_as.ensures x) refl refl refl
    (closed-tried (viewed c.args.v.now) c.args.h c.args.k (looked_at (c.args.p.now.at.openers - c.unwrap_or.result) c.args.p.now) c.tried.result c.tried.ensures.value _ c.in-Some.is c.opener_at-o.result c.opener_at-o.ensures y
    ∙ ap (λ (n : ℕ). container y (viewed c.args.v.now) (here c.args.h p.at) c.args.k (looking n (state p)))
    (looked-count c.args.k.closes p c.seek-found.result c.seek-found.ensures.sought _ c.unwrap_or.ensures))
