-- `containers::tried` meets its contract, by the laws of `Sought`.
use mathlib.Core.Path.{◌≡◌, sym, ◌∙◌}
use Rattle.std.proofs.Common.{rules, Some, None}
use Rattle.rooms.specs.Standing.{viewed, here}
use Rattle.rooms.specs.Steps.{state}
use Rattle.containers.proofs.Sought.{sought_none, sought-names, sought-closes, sought-not}
use Rattle.containers.proofs.tried.Goals as goal

pub returns-in_err-i-clause-value : goal.returns-in_err-i-clause-value
returns-in_err-i-clause-value c =
    let p = c.args.p.now in
    let is : c.args.found ≡ None = search rules in
    search (rules, sought_none (viewed c.args.v.now) (here c.args.h p.at) (state p) p.openers.now c.args.closes p.at.openers c.args.found c.requires.found is)

pub may_close-requires-clause-event_lt_events : goal.may_close-requires-clause-event_lt_events
may_close-requires-clause-event_lt_events c =
    let p = c.args.p.now in
    let is : c.args.found ≡ Some c.in_ok-i.i = search rules in
    sought-names (viewed c.args.v.now) (here c.args.h p.at) (state p) p.openers.now c.args.closes p.at.openers c.args.found c.requires.found
    _ is c.opener_at.result c.opener_at.ensures p.at.events c.requires.named

pub returns-then-may_close-clause-value : goal.returns-then-may_close-clause-value
returns-then-may_close-clause-value c =
    let p = c.args.p.now in
    let is : c.args.found ≡ Some c.in_ok-i.i = search rules in
    sought-closes (viewed c.args.v.now) (here c.args.h p.at) (state p) p.openers.now c.args.closes p.at.openers c.args.found c.requires.found
    _ is c.opener_at.result c.opener_at.ensures (sym c.may_close.ensures ∙ c.if-may_close.true)

pub returns-clause-value : goal.returns-clause-value
returns-clause-value c =
    let p = c.args.p.now in
    let is : c.args.found ≡ Some c.in_ok-i.i = search rules in
    sought-not (viewed c.args.v.now) (here c.args.h p.at) (state p) p.openers.now c.args.closes p.at.openers c.args.found c.requires.found
    _ is c.opener_at.result c.opener_at.ensures (sym c.may_close.ensures ∙ c.if-may_close.false)
