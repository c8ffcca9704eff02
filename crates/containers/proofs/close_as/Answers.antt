-- `containers::close_as` meets its contract, by the laws of `Sought`.
use mathlib.Core.Path.{sym, ◌∙◌}
use Rattle.std.proofs.Common.{rules}
use Rattle.reading.specs.Containers.{close_as}
use Rattle.rooms.specs.Rows.{rows, stack}
use Rattle.containers.proofs.Sought.{named-pair, named-span, named-link, link-small}
use Rattle.containers.proofs.close_as.Goals as goal

pub closes_pair-requires-clause-event_lt_events : goal.closes_pair-requires-clause-event_lt_events
closes_pair-requires-clause-event_lt_events c = named-pair c.args.o _ _ _ c.requires.names (sym c.closing_of.ensures ∙ c.in-Pair.is)

pub closes_span-requires-clause-event_lt_events : goal.closes_span-requires-clause-event_lt_events
closes_span-requires-clause-event_lt_events c = named-span c.args.o _ _ _ c.requires.names (sym c.closing_of.ensures ∙ c.in-Span.is)

pub closes_link-requires-clause-container_lt_enter_from : goal.closes_link-requires-clause-container_lt_enter_from
closes_link-requires-clause-container_lt_enter_from c = link-small c.args.o.sort _ (sym c.closing_of.ensures ∙ c.in-Link.is)

pub closes_link-requires-clause-span_bound : goal.closes_link-requires-clause-span_bound
closes_link-requires-clause-span_bound c = (named-link c.args.o _ _ _ c.requires.names (sym c.closing_of.ensures ∙ c.in-Link.is)).0

pub closes_link-requires-clause-event_lt_events : goal.closes_link-requires-clause-event_lt_events
closes_link-requires-clause-event_lt_events c = (named-link c.args.o _ _ _ c.requires.names (sym c.closing_of.ensures ∙ c.in-Link.is)).1

pub returns-in-Link : goal.returns-in-Link
unfolding close_as rows stack
returns-in-Link c x =
    let linked = c.closes_link.ensures.stepped x in
    search rules
