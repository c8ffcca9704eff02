-- Each turn writes the first of the events that are left.
use Rattle.std.proofs.Common.{ap, sym, subst, ◌∙◌, arith}
use Rattle.std.proofs.KnownBytes.{Appends-nil, Appends-trans}
use Rattle.std.specs.Io.KnownBytes.{Appends}
use Rattle.printing.specs.Printed.{events_text}
use Rattle.printing.proofs.Lines.{events_text-first, events_text-none}
use Rattle.printing.proofs.write_events.Goals as goal

pub loop-event-preserved : goal.loop-event-preserved
loop-event-preserved g c =
    let wide = c.loop-event.invariant.0 in
    let step = c.in-Some.ensures.steps in (
      step.0 ∙ wide,
      λ all left. c.loop-event.invariant.1 all
          (subst (Appends _ all) (events_text-first _ _ (step.1.1 ∙ wide) ∙ ap events_text (sym step.1.0))
          (Appends-trans _ _ _ _ _ c.in_ok-write_line.ensures left)),
    )

pub returns : goal.returns
returns g c =
    c.loop-event.invariant.1 _
    (subst (Appends _ _) (sym (events_text-none _ (omega (arith, c.in-None.ensures.steps.1.0)))) (Appends-nil _))
