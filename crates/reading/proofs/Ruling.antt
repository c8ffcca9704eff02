-- The rules of a token, gone through once, for two sheets side by side, in two states (`by-rule-where`) or in one (`by-rule`). All but three leave five sides of the state as they were: the refusal, the
-- open verbatim, the count of links, whether all labels fitted and what was looked at. The three are a link that closes, a run that opens a verbatim, an attribute block (`ruled`).
use Rattle.std.specs.Prelude.{None, Option, Some}
use Rattle.reading.specs.declared.Closer.{Closer}
use Rattle.reading.specs.declared.Sort.{Sort}
use Rattle.reading.specs.declared.Place.{Place}
use Prim.Native.Nat.{ℕ, ◌+◌, ◌-◌, ◌≤◌}
use mathlib.Core.Path.{◌≡◌, refl, sym, subst}
use mathlib.Core.List.{List, [], ◌∷◌}
use mathlib.Core.Bool.{Bool, true, false}
use native.Mathlib.Omega.{arith}
use lib.Dec.{leb, ltb}
use lib.ListN.{drop}
use Rattle.lex.specs.declared.lex.Token.{Token}
use Rattle.lex.specs.declared.lex.Cursor.{Cursor}
use Rattle.lex.specs.declared.lex.Lexed.{Lexed}
use Rattle.lex.specs.Lexer.{peek_of}
use Rattle.scan.specs.Scans.{autolink_of, symbol_of}
use Rattle.reading.specs.declared.Link.{Link}
use Rattle.reading.specs.declared.Opener.{Opener}
use Rattle.reading.specs.declared.Marks.{Marks}
use Rattle.reading.specs.declared.Role.{Role}
use Rattle.reading.specs.declared.Role.TheVariants as role
use Rattle.reading.specs.declared.Target.{Target}
use Rattle.reading.specs.declared.Verbatim.{Verbatim}
use Rattle.reading.specs.declared.DelimEventKind.{DelimEventKind}
use Rattle.reading.specs.declared.DelimEventKind.TheVariants as makes
use Rattle.dash.specs.Dashes.{dashes_of}
use Rattle.reading.specs.Events.{str, symbol, footnote}
use Rattle.reading.specs.Machine.{View, Rules, Sheet, State, Turn, Here, puts, with_openers}
use Rattle.reading.specs.Atoms.{dashes, dots, autolinked, named}
use Rattle.reading.specs.Tokens.{role_of, is_caret, closing_of, plain, bracket}
use Rattle.reading.specs.Verbatim.{opens_verbatim, closes, closed_with, all_blank, bytes_of, skips, blank_content, in_verbatim}
use Rattle.reading.specs.Containers.{seek, may_close, takes, span_with, closes_span, close_as, may_open, opens_or}
use Rattle.reading.specs.Containers.{tried, container}
use Rattle.reading.specs.Reading.{refuse, angle, colon, noted, bracketed, braced, outside}
use Rattle.reading.proofs.Choose.{choose, choose₂}

-- the five sides, and, inside a verbatim, those besides it
abbrev sides : State → Option Place × Option Verbatim × Link × Bool × ℕ
sides s = (s.refused, s.inside, s.links, s.fits, s.looks)

abbrev others : State → Option Place × Link × Bool × ℕ
others s = (s.refused, s.links, s.fits, s.looks)

abbrev pub Kept : State → Turn → Type 0
Kept s a = sides a.state ≡ sides s

abbrev pub KeptBut : State → Turn → Type 0
KeptBut s a = others a.state ≡ others s

module _ (v : View) (h : Here) (s : State) where
  closed-kept : (c : Cursor) (w : Verbatim) (f : Option ℕ) → KeptBut s (closed_with v h c w f s)
  unfolding closed_with
  closed-kept c w None = refl
  closed-kept c w (Some n) = refl

  blank-kept : (w : Verbatim) → KeptBut s (blank_content v h w s)
  unfolding blank_content
  blank-kept w =
      choose (KeptBut s) w.seen _ _ (λ e. refl)
      (λ e. choose (λ (t : State). others t ≡ others s) (skips w (peek_of v.bytes h.cursor).token) _ _ (λ y. refl) (λ y. refl))

  -- a token inside a verbatim
  pub in_kept : (r : Rules) (t : Token) (w : Verbatim) → KeptBut s (in_verbatim r v h t w s)
  unfolding in_verbatim
  in_kept r t w =
      choose (KeptBut s) (closes w h t) _ _ (λ e. closed-kept _ w _)
      (λ e. choose (KeptBut s) (all_blank (bytes_of v h)) _ _ (λ y. blank-kept w) (λ y. refl))

  opens_kept : (alone : ℕ) (o : Option Sort) → sides (opens_or v h alone o s) ≡ sides s
  unfolding opens_or
  opens_kept alone None = refl
  opens_kept alone (Some o) = choose (λ (t : State). sides t ≡ sides s) (may_open v h s o) _ _ (λ e. refl) (λ e. refl)

  span-kept : (image : Bool) (o : Opener) (c : Cursor) (t : Option Token) → Kept s (closes_span v h image o c t s)
  unfolding closes_span span_with
  span-kept image o c None = refl
  span-kept image o c (Some t) = go (takes (role_of t.kind))
    where
      go : (b : Option Bool) → Kept s (span_with v h image o c t.len b s)
      go None = refl
      go (Some inline) = refl

-- a brace at which a block stands in both sheets, or in neither
by-brace : (x y : Sheet) (v : View) (s r : State) (P : Turn → Turn → Type 0) (h : Here) → x.block (v.base + h.from) ≡ y.block (v.base + h.from)
    → P (record { cursor = h.cursor; state = refuse (v.base + h.from) s }) (record { cursor = h.cursor; state = refuse (v.base + h.from) r })
    → P (container x v h (plain str) s) (container y v h (plain str) r)
    → P (braced x v h (x.block (v.base + h.from)) s) (braced y v h (y.block (v.base + h.from)) r)
unfolding braced
by-brace x y v s r P h e refuses alone =
    subst (λ (b : Bool). P (braced x v h (x.block (v.base + h.from)) s) (braced y v h b r)) e (go (x.block (v.base + h.from)))
  where
    go : (b : Bool) → P (braced x v h b s) (braced y v h b r)
    go true = refuses
    go false = alone

-- P is of the turns that two sheets x and y make of two states s and r, with the same openers and of which the same may close, at a token that stands as `At` says
-- and whose role is as `Ok` says. It is to be shown of what stands alone or opens, of what closes an opener that was sought, of what the scans accept, of
-- periods and hyphens, of a run that opens a verbatim, and of a brace
module _ (x y : Sheet) (v : View) (s r : State) (openers : r.openers ≡ s.openers) (tests : (h : Here) (o : Opener) → may_close v h r o ≡ may_close v h s o)
    (P : Turn → Turn → Type 0) (At : Here → Type 0) (Ok : Role → Type 0)
    (moves : (h : Here) (j : ℕ) (c : Cursor) → h.to ≤ j → At h → At (record { from = h.from; to = j; cursor = c }))
    (as-str : Ok (role.Other (plain str)))
    (as-bracket : Ok (role.Other bracket))
    (alone : (h : Here) → At h → (m : Marks) → Ok (role.Other m)
    → P (record { cursor = h.cursor; state = opens_or v h m.alone m.opens s }) (record { cursor = h.cursor; state = opens_or v h m.alone m.opens r }))
    (closes : (h : Here) → At h → (c : Option Closer) (o : Opener) (os : List Opener) → seek c s.openers ≡ o ∷ os
    → P (close_as x v h o (closing_of o.sort) (with_openers os s)) (close_as y v h o (closing_of o.sort) (with_openers os r)))
    (links : (h : Here) → At h → (n : ℕ) → P (autolinked v h n s) (autolinked v h n r))
    (names : (h : Here) → At h → (kind n : ℕ) → symbol ≤ kind → kind ≤ footnote → P (named kind v h n s) (named kind v h n r))
    (periods : (h : Here) → At h
    → P (record { cursor = h.cursor; state = dots v h.from (h.to - h.from) s }) (record { cursor = h.cursor; state = dots v h.from (h.to - h.from) r }))
    (hyphens : (h : Here) → At h
    → let es = dashes (dashes_of (h.to - h.from)) (v.base + h.from) in
    P (record { cursor = h.cursor; state = puts es None s }) (record { cursor = h.cursor; state = puts es None r }))
    (opens : (h : Here) → At h → P (opens_verbatim v h s) (opens_verbatim v h r)) where
  by-trial : (h : Here) → At h → (m : Marks) → Ok (role.Other m) → (os : List Opener) → seek m.closes s.openers ≡ os
      → P (tried x v h m os s) (tried y v h m os r)
  unfolding tried
  by-trial h e m ok [] k = alone h e m ok
  by-trial h e m ok (o ∷ os) k =
      rw (tests h o, tried)
      (choose₂ P (may_close v h s o) _ _ _ _ (λ z. closes h e m.closes o os k) (λ z. alone h e m ok))

  contained : (h : Here) → At h → (m : Marks) → Ok (role.Other m) → P (container x v h m s) (container y v h m r)
  contained h e m ok =
      subst (λ (os : List Opener). P (container x v h m s) (tried y v h m (seek m.closes os) r)) (sym openers) (by-trial h e m ok (seek m.closes s.openers) refl)

  lone : (h : Here) → At h → P (container x v h (plain str) s) (container y v h (plain str) r)
  lone h e = contained h e (plain str) as-str

  by-angle : (h : Here) → At h → (f : Option ℕ) → P (angle x v h f s) (angle y v h f r)
  unfolding angle
  by-angle h e (Some n) = links h e n
  by-angle h e None = lone h e

  by-colon : (h : Here) → At h → (f : Option ℕ) → P (colon x v h f s) (colon y v h f r)
  unfolding colon
  by-colon h e (Some n) = names h e symbol n (omega arith) (omega arith)
  by-colon h e None = lone h e

  by-note : (h : Here) → At h → (f : Option ℕ) → P (noted x v h f s) (noted y v h f r)
  unfolding noted
  by-note h e (Some n) = names h e footnote n (omega arith) (omega arith)
  by-note h e None = contained h e bracket as-bracket

  by-bracket : (h : Here) → At h → (p : Lexed) (t : Option Token) → P (bracketed x v h p t s) (bracketed y v h p t r)
  unfolding bracketed
  by-bracket h e p None = contained _ (moves h h.to p.cursor (omega arith) e) bracket as-bracket
  by-bracket h e p (Some t) = choose₂ P (is_caret (role_of t.kind)) _ _ _ _
      (λ z. by-note _ (moves h (h.to + t.len) _ (omega arith) e) _)
      (λ z. contained _ (moves h h.to p.cursor (omega arith) e) bracket as-bracket)

  -- a token outside verbatim. Of a brace it is to be shown apart, since a block may stand there in one sheet and not in the other
  pub each-rule-where : (h : Here) → At h → (P (container x v h (plain str) s) (container y v h (plain str) r)
      → P (braced x v h (x.block (v.base + h.from)) s) (braced y v h (y.block (v.base + h.from)) r))
      → (k : Role) → Ok k → P (outside x v h k s) (outside y v h k r)
  unfolding outside
  each-rule-where h e b role.Backticks ok = choose₂ P (leb (h.to - h.from) 255) _ _ _ _ (λ z. opens h e) (λ z. lone h e)
  each-rule-where h e b role.Brace ok = b (lone h e)
  each-rule-where h e b role.Lt ok = by-angle h e (autolink_of (drop h.to v.bytes))
  each-rule-where h e b role.Colon ok = by-colon h e (symbol_of (drop h.to v.bytes))
  each-rule-where h e b role.Bracket ok = by-bracket h e _ _
  each-rule-where h e b role.Paren ok = lone h e
  each-rule-where h e b role.Periods ok = periods h e
  each-rule-where h e b role.Hyphens ok = choose₂ P (ltb (h.to - h.from) 2) _ _ _ _ (λ z. lone h e) (λ z. hyphens h e)
  each-rule-where h e b (role.Other m) ok = contained h e m ok

  -- with blocks at the same places: of one that refuses the sheet
  pub by-rule-where : ((p : ℕ) → x.block p ≡ y.block p)
      → ((h : Here) → At h
      → P (record { cursor = h.cursor; state = refuse (v.base + h.from) s }) (record { cursor = h.cursor; state = refuse (v.base + h.from) r }))
      → (h : Here) → At h → (k : Role) → Ok k → P (outside x v h k s) (outside y v h k r)
  by-rule-where same refuses h e = each-rule-where h e (by-brace x y v s r P h (same (v.base + h.from)) (refuses h e))

-- the same of a token of any role: P is of the turns that two sheets x and y make of a state, at a token that stands as `At` says. It is to be shown of what stands alone or opens, of what closes
-- an opener that was sought, of what the scans accept, of periods and hyphens, of a run that opens a verbatim, and of a brace
module _ (x y : Sheet) (v : View) (s : State) (P : Turn → Turn → Type 0) (At : Here → Type 0)
    (moves : (h : Here) (j : ℕ) (c : Cursor) → h.to ≤ j → At h → At (record { from = h.from; to = j; cursor = c }))
    (alone : (h : Here) → At h → (m : Marks) → let a : Turn = record { cursor = h.cursor; state = opens_or v h m.alone m.opens s } in P a a)
    (closes : (h : Here) → At h → (c : Option Closer) (o : Opener) (os : List Opener) → seek c s.openers ≡ o ∷ os
    → P (close_as x v h o (closing_of o.sort) (with_openers os s)) (close_as y v h o (closing_of o.sort) (with_openers os s)))
    (links : (h : Here) → At h → (n : ℕ) → P (autolinked v h n s) (autolinked v h n s))
    (names : (h : Here) → At h → (kind n : ℕ) → P (named kind v h n s) (named kind v h n s))
    (periods : (h : Here) → At h → let a : Turn = record { cursor = h.cursor; state = dots v h.from (h.to - h.from) s } in P a a)
    (hyphens : (h : Here) → At h
    → let a : Turn = record { cursor = h.cursor; state = puts (dashes (dashes_of (h.to - h.from)) (v.base + h.from)) None s } in P a a)
    (opens : (h : Here) → At h → P (opens_verbatim v h s) (opens_verbatim v h s)) where
  -- a token outside verbatim. Of a brace it is to be shown apart, since a block may stand there in one sheet and not in the other
  pub each-rule : (h : Here) → At h → (P (container x v h (plain str) s) (container y v h (plain str) s)
      → P (braced x v h (x.block (v.base + h.from)) s) (braced y v h (y.block (v.base + h.from)) s))
      → (r : Role) → P (outside x v h r s) (outside y v h r s)
  each-rule h e b r =
      each-rule-where x y v s s refl (λ h o. refl) P At (λ r. Unit {0}) moves tt tt (λ h e m ok. alone h e m) closes links (λ h e kind n l u. names h e kind n) periods hyphens opens h e b r tt

  -- with blocks at the same places: of one that refuses the sheet
  pub by-rule : ((p : ℕ) → x.block p ≡ y.block p)
      → ((h : Here) → At h → let a : Turn = record { cursor = h.cursor; state = refuse (v.base + h.from) s } in P a a)
      → (h : Here) → At h → (r : Role) → P (outside x v h r s) (outside y v h r s)
  by-rule same refuses h e = each-rule h e (by-brace x y v s s P h (same (v.base + h.from)) (refuses h e))

-- where P is of all that keeps the five sides, it is to be shown of a link that closes, of a run that opens a verbatim, and of a brace
module _ (x y : Sheet) (v : View) (s : State) (P : Turn → Turn → Type 0) (keeps : (a : Turn) → Kept s a → P a a)
    (links : (h : Here) (o : Opener) (t : Target) (os : List Opener)
    → P (close_as x v h o (makes.Link t) (with_openers os s)) (close_as y v h o (makes.Link t) (with_openers os s)))
    (opens : (h : Here) → P (opens_verbatim v h s) (opens_verbatim v h s)) where
  closed : (h : Here) (o : Opener) (d : DelimEventKind) (os : List Opener) → P (close_as x v h o d (with_openers os s)) (close_as y v h o d (with_openers os s))
  unfolding close_as
  closed h o (makes.Pair p) os = keeps _ refl
  closed h o (makes.Span image) os = keeps _ (span-kept v h (with_openers os s) image o _ _)
  closed h o (makes.Link t) os = links h o t os

  pub each-ruled : (h : Here) → (P (container x v h (plain str) s) (container y v h (plain str) s)
      → P (braced x v h (x.block (v.base + h.from)) s) (braced y v h (y.block (v.base + h.from)) s))
      → (r : Role) → P (outside x v h r s) (outside y v h r s)
  each-ruled h b r =
      each-rule x y v s P (λ h. Unit {0}) (λ h j c l e. tt) (λ h e m. keeps _ (opens_kept v h s m.alone m.opens)) (λ h e c o os k. closed h o (closing_of o.sort) os)
      (λ h e n. keeps _ refl) (λ h e kind n. keeps _ refl) (λ h e. keeps _ refl) (λ h e. keeps _ refl) (λ h e. opens h) h tt b r

  pub ruled : ((p : ℕ) → x.block p ≡ y.block p) → ((h : Here) → let a : Turn = record { cursor = h.cursor; state = refuse (v.base + h.from) s } in P a a)
      → (h : Here) (r : Role) → P (outside x v h r s) (outside y v h r s)
  ruled same refuses h = each-ruled h (by-brace x y v s s P h (same (v.base + h.from)) (refuses h))
