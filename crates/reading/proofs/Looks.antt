-- What tokens look at while they seek: no rule moves the count but by what is said of the token, and it is never more than the openers.
use Rattle.std.specs.Prelude.{None, Option, Some}
use Prim.Native.Nat.{ℕ, suc, ◌+◌, ◌≤◌}
use mathlib.Core.Path.{◌≡◌, refl, ap}
use mathlib.Core.List.{List, [], ◌∷◌}
use native.Mathlib.Nat.{add-zero}
use native.Mathlib.Omega.{arith}
use lib.ListN.{length}
use Rattle.lex.specs.declared.lex.Cursor.{Cursor}
use Rattle.lex.specs.declared.lex.Token.{Token}
use Rattle.lex.specs.declared.lex.Kind.{Kind}
use Rattle.lex.specs.declared.lex.Kind.TheVariants.{Text, Newline, Nbsp, Hardbreak, Escape, Open, Close, Sym, Seq}
use Rattle.lex.specs.Lexer.{next_of}
use Rattle.reading.specs.declared.Closer.{Closer}
use Rattle.reading.specs.Closers.{same}
use Rattle.reading.specs.declared.Opener.{Opener}
use Rattle.reading.specs.declared.Role.{Role}
use Rattle.reading.specs.declared.Verbatim.{Verbatim}
use Rattle.reading.specs.Machine.{View, Sheet, State, Turn, Here, looking}
use Rattle.reading.specs.Tokens.{role_of, closed_by}
use Rattle.reading.specs.Verbatim.{ended_at}
use Rattle.reading.specs.Containers.{seek_mark, seek, close_as}
use Rattle.reading.specs.Looks.{Seeks, seeks_by, seeks_of, looked_mark, looked, seeking}
use Rattle.reading.specs.Reading.{outside, by_place, here_at, on_token, step}
use Rattle.reading.proofs.Choose.{choose, choose₂}
use Rattle.reading.proofs.Ruling.{in_kept, ruled}

-- what does not seek changes nothing
pub looking-none : (s : State) → looking 0 s ≡ s
looking-none s =
    ap
    (λ (n : ℕ).
    record {
      queue = s.queue;
      openers = s.openers;
      inside = s.inside;
      last = s.last;
      labels = s.labels;
      fits = s.fits;
      links = s.links;
      refused = s.refused;
      looks = n;
    }) (add-zero s.looks)

-- what a seek finds: behind it stand all openers but those looked at
mark-left : (c : Closer) (os : List Opener) (o : Opener) (older : List Opener) → seek_mark c os ≡ o ∷ older → looked_mark c os + length older ≡ length os
unfolding seek_mark looked_mark
mark-left c [] o older e = let z : ◌≡◌ {A = ℕ} 0 1 = cc in absurd (omega arith)
mark-left c (p ∷ os) o older e =
    choose₂ (λ (found : List Opener) (n : ℕ). found ≡ o ∷ older → n + length older ≡ suc (length os)) (same (closed_by p.sort) c) _ _ _ _
    (λ k e. let z : os ≡ older = cc in rw z (omega arith))
    (λ k e. omega (arith, mark-left c os o older e)) e

mark-all : (c : Closer) (os : List Opener) → seek_mark c os ≡ [] → looked_mark c os ≡ length os
unfolding seek_mark looked_mark
mark-all c [] e = refl
mark-all c (p ∷ os) e =
    choose₂ (λ (found : List Opener) (n : ℕ). found ≡ [] → n ≡ suc (length os)) (same (closed_by p.sort) c) _ _ _ _
    (λ k e. let z : ◌≡◌ {A = ℕ} 0 1 = cc in absurd (omega arith))
    (λ k e. omega (arith, mark-all c os e)) e

pub looked-left : (c : Option Closer) (os : List Opener) (o : Opener) (older : List Opener) → seek c os ≡ o ∷ older → looked (Some c) os + length older ≡ length os
unfolding seek looked
looked-left None os o older e = let z : ◌≡◌ {A = ℕ} 0 1 = cc in absurd (omega arith)
looked-left (Some m) os o older e = mark-left m os o older e

pub looked-all : (c : Option Closer) (os : List Opener) → seek c os ≡ [] → looked (Some c) os ≡ length os
unfolding seek looked
looked-all None os e = refl
looked-all (Some m) os e = mark-all m os e

-- never more than all
mark-most : (c : Closer) (os : List Opener) → looked_mark c os ≤ length os
unfolding looked_mark
mark-most c [] = omega arith
mark-most c (p ∷ os) =
    choose (λ (n : ℕ). n ≤ suc (length os)) (same (closed_by p.sort) c) _ _ (λ e. omega arith) (λ e. omega (arith, mark-most c os))

looked-most : (k : Seeks) (os : List Opener) → looked k os ≤ length os
unfolding looked
looked-most None os = omega arith
looked-most (Some None) os = omega arith
looked-most (Some (Some c)) os = mark-most c os

-- all but a Text seek as their role says
pub seeks-role : (v : View) (h : Here) (k : Kind) → (k ≡ Text → ⊥) → seeks_of v h k ≡ seeks_by v h (role_of k)
unfolding seeks_of
seeks-role v h Text n = absurd (n refl)
seeks-role v h Newline n = refl
seeks-role v h Nbsp n = refl
seeks-role v h Hardbreak n = refl
seeks-role v h Escape n = refl
seeks-role v h (Open d) n = refl
seeks-role v h (Close d) n = refl
seeks-role v h (Sym y) n = refl
seeks-role v h (Seq q) n = refl

-- no rule moves the count
outside-left : (x : Sheet) (v : View) (s : State) (h : Here) (r : Role) → (outside x v h r s).state.looks ≡ s.looks
unfolding close_as
outside-left x v s h r =
    ruled x x v s (λ a b. a.state.looks ≡ s.looks) (λ a k. ap (λ z. z.4) k) (λ h o t os. refl) (λ h. refl) (λ p. refl) (λ h. refl) h r

-- what a step looks at: in verbatim nothing
unfoldable pub on_looks : View → Here → Token → Option Verbatim → List Opener → ℕ
on_looks v h t None os = looked (seeks_of v h t.kind) os
on_looks v h t (Some w) os = 0

unfoldable pub taken_looks : View → Cursor → Option Token → Cursor → Option Verbatim → List Opener → ℕ
taken_looks v at None c w os = 0
taken_looks v at (Some t) c w os = on_looks v (here_at at t c) t w os

abbrev pub step_looks : View → Turn → ℕ
step_looks v a = let l = next_of v.bytes a.cursor in taken_looks v a.cursor l.token l.cursor a.state.inside a.state.openers

module _ (x : Sheet) (v : View) (a : Turn) where
  by-looks : (h : Here) (t : Token) (w : Option Verbatim) → (by_place x v h t w a.state).state.looks ≡ a.state.looks + on_looks v h t w a.state.openers
  unfolding by_place on_looks
  by-looks h t None = outside-left x v (seeking v h t a.state) h (role_of t.kind)
  by-looks h t (Some w) = omega (arith, ap (λ z. z.3) (in_kept v h a.state x.rules t w))

  pub looks-step : (step x v a).state.looks ≡ a.state.looks + step_looks v a
  unfolding on_token taken_looks
  looks-step = go (next_of v.bytes a.cursor).token
    where
      go : (t : Option Token) → let c = (next_of v.bytes a.cursor).cursor in
          (on_token x v a t c).state.looks ≡ a.state.looks + taken_looks v a.cursor t c a.state.inside a.state.openers
      go None = omega arith
      go (Some t) = by-looks _ t a.state.inside

on-most : (v : View) (h : Here) (t : Token) (w : Option Verbatim) (os : List Opener) → on_looks v h t w os ≤ length os
unfolding on_looks
on-most v h t None os = looked-most (seeks_of v h t.kind) os
on-most v h t (Some w) os = omega arith

pub step-most : (v : View) (a : Turn) → step_looks v a ≤ length a.state.openers
unfolding taken_looks
step-most v a = go (next_of v.bytes a.cursor).token
  where
    go : (t : Option Token) → taken_looks v a.cursor t (next_of v.bytes a.cursor).cursor a.state.inside a.state.openers ≤ length a.state.openers
    go None = omega arith
    go (Some t) = on-most v _ t a.state.inside a.state.openers

-- and the end looks at none
pub ended-looks : (b : ℕ) (w : Option Verbatim) (s : State) → (ended_at b w s).looks ≡ s.looks
unfolding ended_at
ended-looks b None s = refl
ended-looks b (Some w) s = refl
