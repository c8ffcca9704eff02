-- Only an attribute block refuses, and it is met outside verbatim: every other rule leaves `refused` as it was. So the end adds nothing to a refused
-- sheet. And the links of a line are at most its bytes.
use Rattle.std.specs.Prelude.{None, Option, Some}
use Rattle.reading.specs.declared.Verbatim.{Verbatim}
use Prim.Native.Nat.{ℕ, zero, suc, ◌+◌, ◌≤◌}
use mathlib.Core.Path.{◌≡◌, refl, sym, ap, ◌∙◌}
use mathlib.Core.List.{List, [], ◌∷◌}
use mathlib.Core.Logic.{◌⊎◌, inl, inr, ⊎_elim}
use native.Mathlib.Omega.{arith}
use lib.ListN.{length}
use Rattle.lex.specs.declared.lex.Token.{Token}
use Rattle.lex.specs.declared.lex.Cursor.{Cursor}
use Rattle.lex.specs.Lexer.{next_of}
use Rattle.reading.specs.declared.Place.{Place}
use Rattle.reading.specs.declared.Role.{Role}
use Rattle.reading.specs.Machine.{View, Sheet, State, Turn, Here}
use Rattle.reading.specs.Tokens.{role_of}
use Rattle.reading.specs.Verbatim.{moved_on, ended_at}
use Rattle.reading.specs.Containers.{close_as}
use Rattle.reading.specs.Reading.{outside, by_place, here_at, on_token, step, steps, begun, line, lines, start}
use Rattle.reading.specs.Looks.{seeking}
use Rattle.reading.proofs.Stepping.{met, either}
use Rattle.reading.proofs.Ruling.{in_kept, ruled}
use Rattle.reading.proofs.Links.{links-step}

-- a turn that does not refuse, unless the state did, or that is in the state's verbatim
abbrev Spared : State → Turn → Type 0
Spared s a = (a.state.refused ≡ s.refused) ⊎ (a.state.inside ≡ s.inside)

module _ (x : Sheet) (v : View) where
  -- the brace is the one that may refuse
  outside-spared : (s : State) (h : Here) (r : Role) → Spared s (outside x v h r s)
  unfolding close_as
  outside-spared s h r = ruled x x v s (λ a b. Spared s a) (λ a k. inl (ap (λ z. z.0) k)) (λ h o t os. inl refl) (λ h. inl refl) (λ p. refl) (λ h. inr refl) h r

  by-spared : (s : State) (h : Here) (t : Token) (w : Option Verbatim) → s.inside ≡ w
      → ((by_place x v h t w s).state.refused ≡ s.refused) ⊎ ((by_place x v h t w s).state.inside ≡ None)
  unfolding by_place
  by-spared s h t None is =
      let b = outside x v h (role_of t.kind) (seeking v h t s) in
      ⊎_elim (λ (e : b.state.refused ≡ s.refused). inl e) (λ (e : b.state.inside ≡ s.inside). inr (e ∙ is)) (outside-spared (seeking v h t s) h (role_of t.kind))
  by-spared s h t (Some w) is = inl (ap (λ z. z.0) (in_kept v h s x.rules t w))

  on-spared : (a : Turn) (t : Option Token) (c : Cursor)
      → ((on_token x v a t c).state.refused ≡ a.state.refused) ⊎ ((on_token x v a t c).state.inside ≡ None)
  unfolding on_token
  on-spared a None c = inl refl
  on-spared a (Some t) c = by-spared a.state (here_at a.cursor t c) t a.state.inside refl

-- a step that refuses is outside verbatim
brace-step : (x : Sheet) (v : View) (a : Turn) → a.state.refused ≡ None → (p : Place) → (step x v a).state.refused ≡ Some p
    → (step x v a).state.inside ≡ None
brace-step x v a un p at =
    ⊎_elim (λ (e : (step x v a).state.refused ≡ a.state.refused). absurd (met p (sym at ∙ e ∙ un))) (λ (e : (step x v a).state.inside ≡ None). e)
    (on-spared x v a (next_of v.bytes a.cursor).token (next_of v.bytes a.cursor).cursor)

-- refused only outside verbatim
abbrev pub Outside : State → Type 0
Outside s = (p : Place) → s.refused ≡ Some p → s.inside ≡ None

steps-outside : (n : ℕ) (x : Sheet) (v : View) (a : Turn) → Outside a.state → Outside (steps n x v a).state
unfolding steps
steps-outside zero x v a o = o
steps-outside (suc n) x v a o =
    either (λ (b : Turn). Outside b.state) a.state.refused _ _ (λ p e. o) (λ e. steps-outside n x v (step x v a) (brace-step x v a e))

begun-outside : (x : Sheet) (v : View) (s : State) → Outside s → Outside (begun x v s).state
unfolding moved_on
begun-outside x v s o p e = ap moved_on (o p e)

pub line-outside : (x : Sheet) (v : View) (s : State) → Outside s → Outside (line x v s)
line-outside x v s o = steps-outside (length v.bytes) x v (begun x v s) (begun-outside x v s o)

pub lines-outside : (x : Sheet) (vs : List View) (s : State) → Outside s → Outside (lines x vs s)
unfolding lines
lines-outside x [] s o = o
lines-outside x (v ∷ vs) s o = lines-outside x vs (line x v s) (line-outside x v s o)

pub start_outside : Outside start
start_outside p e = refl

-- a link for each step at most
pub links-steps : (n : ℕ) (x : Sheet) (v : View) (a : Turn) → (steps n x v a).state.links.0 ≤ n + a.state.links.0
unfolding steps
links-steps zero x v a = omega arith
links-steps (suc n) x v a =
    either (λ (b : Turn). b.state.links.0 ≤ suc n + a.state.links.0) a.state.refused _ _ (λ p e. omega arith)
    (λ e. omega (arith, links-steps n x v (step x v a), links-step x v a))

pub links-line : (x : Sheet) (v : View) (s : State) → (line x v s).links.0 ≤ length v.bytes + s.links.0
links-line x v s = links-steps (length v.bytes) x v (begun x v s)

-- the end refuses nothing
pub ended-un : (b : ℕ) (w : Option Verbatim) (s : State) → (ended_at b w s).refused ≡ s.refused
unfolding ended_at
ended-un b None s = refl
ended-un b (Some w) s = refl
