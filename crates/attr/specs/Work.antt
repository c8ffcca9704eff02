-- How many bytes are looked at, if a validator is started at each `{` of a text and goes on until it is decided.
use Rattle.std.specs.Prelude.{ℕ, suc, ◌+◌, List, [], ◌∷◌, true, false, eqb}
use Prim.Native.Char.{code}
use Rattle.attr.specs.declared.attr.State.{State}
use Rattle.attr.specs.declared.attr.State.TheVariants as state
use Rattle.attr.specs.Attributes.{step, is_decided}

-- by one validator, from a state on
unfoldable pub looks : List ℕ → State → ℕ
looks [] s = 0
looks (c ∷ cs) s = elim (is_decided s) [ true ↦ 0 | false ↦ suc (looks cs (step s c)) ]

-- by all of them
unfoldable pub work : List ℕ → ℕ
work [] = 0
work (c ∷ cs) = (elim (eqb c (code "{")) as (λ _. ℕ) [ true ↦ looks (c ∷ cs) state.Start | false ↦ 0 ]) + work cs

-- how many `{` there are
unfoldable pub braces : List ℕ → ℕ
braces [] = 0
braces (c ∷ cs) = elim (eqb c (code "{")) [ true ↦ suc (braces cs) | false ↦ braces cs ]
