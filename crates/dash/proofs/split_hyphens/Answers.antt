-- `dash::split_hyphens` meets its contract: each arm of the `match` is its case of `by-six`.
use mathlib.Core.Logic.{⊎_elim}
use mathlib.Core.Path.{◌∙◌}
use borrow.Author.Rules.{rules}
use Rattle.dash.specs.BySix.{six_cases, by_six}
use Rattle.dash.proofs.Splits.{split-none, by-six}
use Rattle.dash.proofs.split_hyphens.Goals as goal

pub returns-then-len-lt2 : goal.returns-then-len-lt2
returns-then-len-lt2 c = c.split.ensures ∙ split-none _ c.if-len-lt2.true

pub returns-in-0 : goal.returns-in-0
unfolding six_cases by_six
returns-in-0 c = let case = by-six _ c.if-len-lt2.false in c.split-in-0.ensures ∙ ⊎_elim (case 0) (case 3) c.in-0.is

pub returns-in-2 : goal.returns-in-2
unfolding six_cases by_six
returns-in-2 c = let case = by-six _ c.if-len-lt2.false in c.split-in-2.ensures ∙ ⊎_elim (case 2) (case 4) c.in-2.is

pub returns-in-5 : goal.returns-in-5
unfolding six_cases by_six
returns-in-5 c = c.split-in-5.ensures ∙ by-six _ c.if-len-lt2.false 5 c.in-5.is

pub returns-in_default : goal.returns-in_default
unfolding six_cases by_six
returns-in_default c = c.split-in_default.ensures ∙ by-six _ c.if-len-lt2.false 1 (search rules)
