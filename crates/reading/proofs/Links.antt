-- One step closes at most one link: only the closing of a link counts one, and every other rule leaves the count as it was.
use Rattle.std.specs.Prelude.{None, Option, Some}
use Rattle.reading.specs.declared.Verbatim.{Verbatim}
use Prim.Native.Nat.{suc, ◌≤◌}
use mathlib.Core.Path.{◌≡◌, refl, ap}
use native.Mathlib.Omega.{arith}
use Rattle.lex.specs.declared.lex.Token.{Token}
use Rattle.lex.specs.declared.lex.Cursor.{Cursor}
use Rattle.reading.specs.declared.Link.{Link}
use Rattle.reading.specs.Machine.{View, Sheet, State, Turn, Here}
use Rattle.reading.specs.Tokens.{role_of}
use Rattle.reading.specs.Verbatim.{in_verbatim}
use Rattle.reading.specs.Containers.{close_as}
use Rattle.reading.specs.Reading.{by_place, here_at, on_token, step}
use Rattle.reading.specs.Looks.{seeking}
use Rattle.reading.proofs.Ruling.{in_kept, ruled}

-- as many links as of a state, or one more
abbrev Once : State → Turn → Type 0
Once s a = (s.links.0 ≤ a.state.links.0) × (a.state.links.0 ≤ suc s.links.0)

as_many : (s : State) (a : Turn) → a.state.links ≡ s.links → Once s a
as_many s a e = (omega (arith, ap (λ (n : Link). n.0) e), omega (arith, ap (λ (n : Link). n.0) e))

module _ (x : Sheet) (v : View) where
  by-links : (s : State) (h : Here) (t : Token) (w : Option Verbatim) → Once s (by_place x v h t w s)
  unfolding by_place close_as
  by-links s h t None =
      ruled x x v (seeking v h t s) (λ a b. Once s a) (λ a k. as_many s a (ap (λ z. z.2) k)) (λ h o t os. (omega arith, omega arith))
      (λ h. (omega arith, omega arith)) (λ p. refl) (λ h. (omega arith, omega arith)) h (role_of t.kind)
  by-links s h t (Some w) = as_many s (in_verbatim x.rules v h t w s) (ap (λ z. z.1) (in_kept v h s x.rules t w))

  on-links : (a : Turn) (t : Option Token) (c : Cursor) → Once a.state (on_token x v a t c)
  unfolding on_token
  on-links a None c = (omega arith, omega arith)
  on-links a (Some t) c = by-links a.state (here_at a.cursor t c) t a.state.inside

pub links-step : (x : Sheet) (v : View) (a : Turn) → (step x v a).state.links.0 ≤ suc a.state.links.0
links-step x v a = (on-links x v a _ _).1

-- nor does a step take one back
pub links-up : (x : Sheet) (v : View) (a : Turn) → a.state.links.0 ≤ (step x v a).state.links.0
links-up x v a = (on-links x v a _ _).0
