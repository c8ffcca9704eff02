-- What a lone brace changes: a sheet that was read when every brace refused gets the same answer (`as_before`), and 7 is answered only where a block
-- stands (`at_block`).
use Rattle.std.specs.Prelude.{None, Option, Some}
use Rattle.reading.specs.declared.Verbatim.{Verbatim}
use Prim.Native.Nat.{ℕ, zero, suc, ◌+◌, ◌*◌, ◌/◌}
use mathlib.Core.Path.{◌≡◌, refl, sym, ap, ◌∙◌}
use mathlib.Core.List.{List, [], ◌∷◌}
use mathlib.Core.Bool.{Bool, true, false, ◌&&◌}
use native.Mathlib.Omega.{arith}
use lib.Dec.{leb, ltb}
use lib.ListN.{length}
use Rattle.lex.specs.declared.lex.Token.{Token}
use Rattle.lex.specs.declared.lex.Cursor.{Cursor}
use Rattle.reading.specs.declared.Line.{Line}
use Rattle.reading.specs.declared.Place.{Place}
use Rattle.reading.specs.Events.{str, event_numbers, queue_numbers, opener_numbers, largest}
use Rattle.reading.specs.Machine.{View, Sheet, State, Turn, Here}
use Rattle.reading.specs.Tokens.{role_of, plain}
use Rattle.reading.specs.Verbatim.{ended_at}
use Rattle.reading.specs.Containers.{close_as, container}
use Rattle.reading.specs.Draining.{drain}
use Rattle.reading.specs.Blocks.{everywhere}
use Rattle.reading.specs.Reading.{braced, by_place, here_at, on_token, step, steps, begun, line, lines, start, views, end_of, sheet_with, read}
use Rattle.reading.specs.Looks.{seeking}
use Rattle.reading.specs.Questions.{Rooms, Outcome, total, first_outside, first_early, label_room, handed_out, judged, outcome_with}
use Rattle.reading.proofs.Choose.{choose, choose₂}
use Rattle.reading.proofs.Ruling.{in_kept, each-ruled}
use Rattle.reading.proofs.Stepping.{met, either, either₂}
use Rattle.reading.proofs.Answers.{asks-with}
use Rattle.reading.proofs.Braces.{ended-un}

-- what is not refused behind some steps or lines was not refused before them
steps-un : (n : ℕ) (x : Sheet) (v : View) (a : Turn) → (steps n x v a).state.refused ≡ None → a.state.refused ≡ None
unfolding steps
steps-un zero x v a e = e
steps-un (suc n) x v a e =
    either (λ (b : Turn). b.state.refused ≡ None → a.state.refused ≡ None) a.state.refused _ _ (λ p r z. z) (λ r z. r) e

lines-un : (x : Sheet) (vs : List View) (s : State) → (lines x vs s).refused ≡ None → s.refused ≡ None
unfolding lines
lines-un x [] s e = e
lines-un x (v ∷ vs) s e = steps-un (length v.bytes) x v (begun x v s) (lines-un x vs (line x v s) e)

module _ (x : Sheet) where
  -- the same sheet, with a block at every brace
  abbrev y : Sheet
  y = record { rules = x.rules; text = x.text; room = x.room; block = everywhere }

  -- the same, unless that refuses
  abbrev Same : Turn → Turn → Type 0
  Same a b = b.state.refused ≡ None → a ≡ b

  module _ (v : View) where
    by-same : (s : State) (h : Here) (t : Token) (w : Option Verbatim) → Same (by_place x v h t w s) (by_place y v h t w s)
    unfolding by_place close_as braced
    by-same s h t None = each-ruled x y v (seeking v h t s) Same (λ a k e. refl) (λ h o t os e. refl) (λ h e. refl) h (λ c e. absurd (met _ e)) (role_of t.kind)
    by-same s h t (Some w) = λ e. refl

    on_same : (a : Turn) (t : Option Token) (c : Cursor) → Same (on_token x v a t c) (on_token y v a t c)
    unfolding on_token
    on_same a None c = λ e. refl
    on_same a (Some t) c = by-same a.state (here_at a.cursor t c) t a.state.inside

    steps-same : (n : ℕ) (a : Turn) → Same (steps n x v a) (steps n y v a)
    unfolding steps
    steps-same zero a = λ e. refl
    steps-same (suc n) a =
        either₂ Same a.state.refused _ _ _ _ (λ p r e. refl)
        (λ r e.
        ap (λ (b : Turn). steps n x v b) (on_same a _ _ (steps-un n y v (step y v a) e)) ∙ steps-same n (step y v a) e)

  lines_same : (vs : List View) (s : State) → (lines y vs s).refused ≡ None → lines x vs s ≡ lines y vs s
  unfolding lines
  lines_same [] s e = refl
  lines_same (v ∷ vs) s e =
      ap (λ (b : Turn). lines x vs b.state) (steps-same v (length v.bytes) (begun y v s) (lines-un y vs (line y v s) e)) ∙ lines_same vs (line y v s) e

  read_same : (ls : List Line) → (read y ls).refused ≡ None → read x ls ≡ read y ls
  read_same ls e =
      ap (λ (s : State). ended_at (end_of ls 0) s.inside s) (lines_same (views x.text ls) start (sym (ended-un _ _ _) ∙ e))

  -- a refusal is at a block
  abbrev At : Option Place → Type 0
  At r = (p : Place) → r ≡ Some p → x.block p.0 ≡ true

  none-at : (r : Option Place) → r ≡ None → At r
  none-at r e p is = absurd (met p (sym is ∙ e))

  braced-at : (v : View) (h : Here) (s : State) → s.refused ≡ None → (b : Bool) → x.block (v.base + h.from) ≡ b
      → At (container x v h (plain str) s).state.refused → At (braced x v h b s).state.refused
  unfolding braced
  braced-at v h s un true e c = λ p is. ap (λ (q : Place). x.block q.0) (sym (injective is)) ∙ e
    where
      injective : {p q : Place} → Some p ≡ Some q → p ≡ q
      injective e = cc
  braced-at v h s un false e c = c

  module _ (v : View) where
    by-at : (s : State) → s.refused ≡ None → (h : Here) (t : Token) (w : Option Verbatim) → At (by_place x v h t w s).state.refused
    unfolding by_place close_as
    by-at s un h t None =
        each-ruled x x v (seeking v h t s) (λ a b. At a.state.refused) (λ a k. none-at _ (ap (λ z. z.0) k ∙ un)) (λ h o t os. none-at _ un) (λ h. none-at _ un) h
        (λ c. braced-at v h (seeking v h t s) un _ refl c) (role_of t.kind)
    by-at s un h t (Some w) = none-at _ (ap (λ z. z.0) (in_kept v h s x.rules t w) ∙ un)

    on-at : (a : Turn) → a.state.refused ≡ None → (t : Option Token) (c : Cursor) → At (on_token x v a t c).state.refused
    unfolding on_token
    on-at a un None c = none-at _ un
    on-at a un (Some t) c = by-at a.state un (here_at a.cursor t c) t a.state.inside

    steps-at : (n : ℕ) (a : Turn) → At a.state.refused → At (steps n x v a).state.refused
    unfolding steps
    steps-at zero a h = h
    steps-at (suc n) a h =
        either (λ (b : Turn). At b.state.refused) a.state.refused _ _ (λ p r. h) (λ r. steps-at n (step x v a) (on-at a r _ _))

  lines_at : (vs : List View) (s : State) → At s.refused → At (lines x vs s).refused
  unfolding lines
  lines_at [] s h = h
  lines_at (v ∷ vs) s h = lines_at vs (line x v s) (steps-at v (length v.bytes) (begun x v s) h)

  read_at : (ls : List Line) → At (read x ls).refused
  read_at ls p e = lines_at (views x.text ls) start (none-at _ refl) p (sym (ended-un _ _ _) ∙ e)

module _ (block : ℕ → Bool) (text : List ℕ) (ls : List Line) (reading : ℕ) (rooms : Rooms) where
  abbrev now : Sheet
  now = sheet_with block text reading (label_room rooms.labels)

  abbrev before : Sheet
  before = sheet_with everywhere text reading (label_room rooms.labels)

  abbrev AsBefore : Outcome → Outcome → Type 0
  AsBefore a b = (b.answer.code ≡ 7 → ⊥) → a ≡ b

  judged_as : (s t : State) → (t.refused ≡ None → s ≡ t) → (r : Option Place) → t.refused ≡ r
      → AsBefore (judged ls s.refused s.fits s rooms) (judged ls r t.fits t rooms)
  unfolding judged
  judged_as s t same (Some p) e = λ n. absurd (n refl)
  judged_as s t same None e = λ n. ap (λ (z : State). judged ls z.refused z.fits z rooms) (same e) ∙ ap (λ (r : Option Place). judged ls r t.fits t rooms) e

  -- a sheet that was read, or refused under another number, when every brace refused
  pub as_before : ((outcome_with everywhere text ls reading rooms).answer.code ≡ 7 → ⊥)
      → outcome_with block text ls reading rooms ≡ outcome_with everywhere text ls reading rooms
  unfolding outcome_with
  as_before =
      choose₂ AsBefore (leb reading 1) _ _ _ _
      (λ a. choose₂ AsBefore (leb (length text) largest && leb (length ls) largest) _ _ _ _
      (λ b. choose₂ AsBefore (ltb (first_outside text ls) (length ls)) _ _ _ _
      (λ c n. refl)
      (λ c. choose₂ AsBefore (ltb (first_early 0 ls) (length ls)) _ _ _ _
      (λ d n. refl)
      (λ d. choose₂ AsBefore (leb (2 * total ls + 1) (length rooms.queue / queue_numbers)) _ _ _ _
      (λ f. choose₂ AsBefore (leb (total ls) (length rooms.openers / opener_numbers)) _ _ _ _
      (λ g. judged_as (read now ls) (read before ls) (read_same now ls) (read before ls).refused refl)
      (λ g n. refl))
      (λ f n. refl))))
      (λ b n. refl))
      (λ a n. refl)

  -- 7 is answered only where a block stands
  abbrev AtBlock : Outcome → Type 0
  AtBlock o = o.answer.code ≡ 7 → block o.answer.place ≡ true

  judged-at : (r : Option Place) (f : Bool) (s : State) → ((p : Place) → r ≡ Some p → block p.0 ≡ true) → AtBlock (judged ls r f s rooms)
  unfolding judged handed_out
  judged-at (Some p) f s h = λ e. h p refl
  judged-at None false s h = λ e. absurd (omega (arith, e))
  judged-at None true s h =
      choose AtBlock (leb (length (drain s.queue)) (length rooms.events / event_numbers)) _ _ (λ c e. absurd (omega (arith, e))) (λ c e. absurd (omega (arith, e)))

  pub at_block : (outcome_with block text ls reading rooms).answer.code ≡ 7 → block (outcome_with block text ls reading rooms).answer.place ≡ true
  at_block =
      asks-with text ls reading rooms block AtBlock (λ code at l u e. absurd (omega (arith, e, u)))
      (λ fed. let s = read now ls in judged-at s.refused s.fits s (read_at now ls))
