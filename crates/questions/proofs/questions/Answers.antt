-- `questions::questions` meets its contract: the definition's chain, step by step.
use Rattle.std.proofs.Common.{◌∙◌}
use Rattle.std.proofs.lemmas.Result.{err_from_is_err_and}
use Rattle.questions.proofs.Asking.{asked_limit, asked_lines, asked_rooms}
use Rattle.questions.proofs.questions.Goals as goal

pub returns-in_err-limits : goal.returns-in_err-limits
returns-in_err-limits g c =
    let p = err_from_is_err_and c.from_residual.result c.from_residual.ensures.1 in
    rw (p.1, p.2) (asked_limit _ _ _ _ _ c.limits.ensures c.count.ensures c.in_err-limits.was)

pub returns-in_err-n : goal.returns-in_err-n
returns-in_err-n g c =
    let p = err_from_is_err_and c.from_residual-in_err-n.result c.from_residual-in_err-n.ensures.1 in
    rw (p.1, p.2) (asked_lines _ _ _ _ _ c.limits.ensures c.count.ensures c.in_ok-limits.was
    c.check_lines.ensures.value c.in_err-n.was)

pub returns : goal.returns
returns g c =
    c.ask_rooms.ensures
    ∙ asked_rooms _ _ _ _ _ c.limits.ensures c.count.ensures c.in_ok-limits.was
    c.check_lines.ensures.value c.in_ok-n.was
