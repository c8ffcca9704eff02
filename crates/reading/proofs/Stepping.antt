-- One step keeps the invariant, and takes at least a byte; only at the line's end does it take none. The one case analysis over the rules.
use Rattle.std.specs.Prelude.{None, Option, Some}
use Rattle.reading.specs.declared.Verbatim.{Verbatim}
use Prim.Native.Nat.{ℕ, suc, ◌+◌, ◌-◌, ◌≤◌}
use mathlib.Core.Path.{◌≡◌, refl, sym, ap, ◌∙◌}
use mathlib.Core.List.{List}
use mathlib.Core.Bool.{Bool, true, false}
use mathlib.Core.Logic.{◌⊎◌, inl, inr}
use native.Mathlib.Omega.{arith}
use borrow.Author.Tests.{ltb-false}
use lib.Dec.{leb, ltb}
use lib.ListN.{length, get_or, drop}
use Rattle.classes.specs.Classes.{blank}
use Rattle.lex.specs.declared.lex.Token.{Token}
use Rattle.lex.specs.declared.lex.Cursor.{Cursor}
use Rattle.lex.specs.declared.lex.Lexed.{Lexed}
use Rattle.lex.specs.Lexer.{next_of, peek_of}
use Rattle.lex.proofs.Laws.{Sound, next-sounded, peek-kept}
use Rattle.scan.specs.Scans.{autolink_of, symbol_of, footnote_of}
use Rattle.scan.proofs.Laws.{autolink-some, autolink-long, symbol-some, footnote-some}
use Rattle.reading.specs.declared.Place.{Place}
use Rattle.reading.specs.declared.Marks.{Marks}
use Rattle.reading.specs.declared.Role.{Role}
use Rattle.reading.specs.declared.Role.TheVariants as role
use Rattle.reading.specs.Events.{str, symbol, footnote}
use Rattle.reading.specs.Machine.{View, Sheet, State, Turn, Here}
use Rattle.reading.specs.Tokens.{role_of, is_caret, plain, bracket}
use Rattle.reading.specs.Containers.{container}
use Rattle.reading.specs.Reading.{angle, colon, noted, bracketed, braced, outside, by_place, here_at, on_token, unless, step}
use Rattle.reading.specs.Looks.{seeking}
use Rattle.reading.specs.Walked.{Of}
use Rattle.reading.proofs.Removed.{removes_in, removes_on, step_removes}
use Rattle.reading.proofs.Choose.{choose}
use Rattle.reading.proofs.Good.{Out, Good, GoodBy, good-few, out-looking}
use Rattle.reading.proofs.Tables.{MarksOk, RoleOk, plain_ok, bracket-ok, role-ok}
use Rattle.reading.proofs.Places.{HereOk, here-ok, here-with, peek-sound, peek-place, Taken, peeked-taken, Fine}
use Rattle.reading.proofs.Containing.{container-fine}
use Rattle.reading.proofs.Scanning.{dashes-fine, dots-fine, named-fine, autolinked-fine}
use Rattle.reading.proofs.Backticks.{Shows, opens-fine, in-fine, drops-blank}

-- a turn that is as it should be, unless an attribute block was met; the queue and the openers are bounded also then
pub record Held (Loose : ℕ → Type 0) (text : List ℕ) (v : View) (m lo : ℕ) (a : Turn) : Type 0 where
  pub sound : Sound v.bytes a.cursor
  pub few : length a.state.queue ≤ m + a.cursor.pos
  pub opens : length a.state.openers ≤ m + a.cursor.pos
  pub good : a.state.refused ≡ None → Fine Loose text v m lo a

pub met : (p : Place) → Some p ≡ None → ⊥
met p e = let z : ◌≡◌ {A = ℕ} 0 1 = cc in omega arith

-- what holds of a refused turn and of any other holds of the one that is taken
pub either : {A : Type 0} (P : A → Type 0) (r : Option Place) (x y : A) → ((p : Place) → r ≡ Some p → P x) → (r ≡ None → P y) → P (unless r x y)
unfolding unless
either P (Some p) x y f g = f p refl
either P None x y f g = g refl

pub either₂ : {A B : Type 0} (P : A → B → Type 0) (r : Option Place) (x y : A) (u w : B) → ((p : Place) → r ≡ Some p → P x u)
    → (r ≡ None → P y w) → P (unless r x y) (unless r u w)
unfolding unless
either₂ P (Some p) x y u w f g = f p refl
either₂ P None x y u w f g = g refl

module _ (Loose : ℕ → Type 0) (text : List ℕ) (x : Sheet) (v : View) (m : ℕ) where
  held : (lo : ℕ) (a : Turn) → Fine Loose text v m lo a → Held Loose text v m lo a
  held lo a f =
      let b = good-few Loose text a.state.inside _ _ a.state f.good in
      record { sound = f.sound; few = b.0; opens = b.1; good = λ e. f }

  module _ (s : State) (no : s.inside ≡ None) (i : ℕ) (g : Out Loose text (v.base + i) (m + i) s) where
    -- scans, at a token that begins at the i-th byte
    module _ (j : ℕ) (c : Cursor) (k : HereOk v (record { from = i; to = j; cursor = c })) where
      abbrev h : Here
      h = record { from = i; to = j; cursor = c }

      contained : (mk : Marks) → MarksOk mk → Fine Loose text v m (suc i) (container x v h mk s)
      contained mk ok = container-fine Loose text v m h k s no g x mk ok

      str-fine : Fine Loose text v m (suc i) (container x v h (plain str) s)
      str-fine = contained (plain str) (plain_ok str (omega arith))

      angle-fine : (f : Option ℕ) → autolink_of (drop j v.bytes) ≡ f → Fine Loose text v m (suc i) (angle x v h f s)
      unfolding angle
      angle-fine (Some n) e =
          autolinked-fine Loose text v m h k s no g n (autolink-some (drop j v.bytes) n e).within (autolink-long (drop j v.bytes) n e)
      angle-fine None e = str-fine

      colon-fine : (f : Option ℕ) → symbol_of (drop j v.bytes) ≡ f → Fine Loose text v m (suc i) (colon x v h f s)
      unfolding colon
      colon-fine (Some n) e = named-fine Loose text v m h k s no g n (symbol-some (drop j v.bytes) n e).within symbol (omega arith)
      colon-fine None e = str-fine

      noted-fine : (f : Option ℕ) → footnote_of (drop j v.bytes) ≡ f → Fine Loose text v m (suc i) (noted x v h f s)
      unfolding noted
      noted-fine (Some n) e = named-fine Loose text v m h k s no g n (footnote-some (drop j v.bytes) n e).within footnote (omega arith)
      noted-fine None e = contained bracket bracket-ok

    module _ (j : ℕ) (c : Cursor) (k : HereOk v (record { from = i; to = j; cursor = c })) where
      abbrev now : Here
      now = record { from = i; to = j; cursor = c }

      abbrev ahead_of : Lexed
      ahead_of = peek_of v.bytes c

      -- the cursor of the peek
      sound-there : Sound v.bytes ahead_of.cursor
      sound-there = peek-sound v.bytes c k.sound

      place-there : ahead_of.cursor.pos ≡ j
      place-there = peek-place v.bytes c j k.place

      here-there : HereOk v (record { from = i; to = j; cursor = ahead_of.cursor })
      here-there = here-with v now ahead_of.cursor k place-there sound-there

      bracketed-fine : (t : Option Token) → ahead_of.token ≡ t → Fine Loose text v m (suc i) (bracketed x v now ahead_of t s)
      unfolding bracketed
      bracketed-fine None e = contained j ahead_of.cursor here-there bracket bracket-ok
      bracketed-fine (Some t) e =
          choose (Fine Loose text v m (suc i)) (is_caret (role_of t.kind)) _ _
          (λ c. noted-fine (j + t.len) behind both (footnote_of (drop (j + t.len) v.bytes)) refl)
          (λ c. contained j ahead_of.cursor here-there bracket bracket-ok)
        where
          u : Taken v.bytes ahead_of.cursor t.len
          u = peeked-taken v.bytes ahead_of.cursor t sound-there ((peek-kept v.bytes c).held ∙ e)

          behind : Cursor
          behind = (next_of v.bytes ahead_of.cursor).cursor

          both : HereOk v (record { from = i; to = j + t.len; cursor = behind })
          both =
              record {
                long = omega (arith, k.long);
                within = omega (arith, u.within, place-there);
                place = u.place ∙ ap (λ (n : ℕ). n + t.len) place-there;
                sound = u.sound;
              }

      braced-held : (b : Bool) → Held Loose text v m (suc i) (braced x v now b s)
      unfolding braced
      braced-held true =
          record {
            sound = k.sound;
            few = omega (arith, g.few, k.long, k.place);
            opens = omega (arith, g.opens, k.long, k.place);
            good = λ e. absurd (met _ e);
          }
      braced-held false = held (suc i) _ (str-fine j c k)

      -- a token outside verbatim
      outside-held : (r : Role) → RoleOk r → Held Loose text v m (suc i) (outside x v now r s)
      unfolding outside RoleOk
      outside-held role.Backticks ok =
          held (suc i) _
          (choose (Fine Loose text v m (suc i)) (leb (j - i) 255) _ _ (λ e. opens-fine Loose text v m now k s g) (λ e. str-fine j c k))
      outside-held role.Brace ok = braced-held (x.block (v.base + i))
      outside-held role.Lt ok = held (suc i) _ (angle-fine j c k (autolink_of (drop j v.bytes)) refl)
      outside-held role.Colon ok = held (suc i) _ (colon-fine j c k (symbol_of (drop j v.bytes)) refl)
      outside-held role.Bracket ok = held (suc i) _ (bracketed-fine ahead_of.token refl)
      outside-held role.Paren ok = held (suc i) _ (str-fine j c k)
      outside-held role.Periods ok = held (suc i) _ (dots-fine Loose text v m now k s no g)
      outside-held role.Hyphens ok =
          held (suc i) _
          (choose (Fine Loose text v m (suc i)) (ltb (j - i) 2) _ _ (λ e. str-fine j c k)
          (λ e. dashes-fine Loose text v m now k s no g (omega (arith, ltb-false (j - i) 2 e))))
      outside-held (role.Other mk) ok = held (suc i) _ (contained j c k mk ok)

  -- of a refused turn only the bounds are claimed
  pub held-refused : (lo hi : ℕ) (a : Turn) (p : Place) → a.state.refused ≡ Some p → Held Loose text v m lo a → Held Loose text v m hi a
  held-refused lo hi a p e h = record { sound = h.sound; few = h.few; opens = h.opens; good = λ z. absurd (met p (sym e ∙ z)) }

  -- another bound
  pub held-less : (lo hi : ℕ) (a : Turn) → hi ≤ lo → Held Loose text v m lo a → Held Loose text v m hi a
  held-less lo hi a l f =
      record { sound = f.sound; few = f.few; opens = f.opens; good = λ e. record { sound = (f.good e).sound; far = omega (arith, l, (f.good e).far); good = (f.good e).good } }

  module _ (shows : Shows text v) (a : Turn) (so : Sound v.bytes a.cursor) where
    module _ (g : Good Loose text (v.base + a.cursor.pos) (m + a.cursor.pos) a.state) (t : Token)
        (e : (next_of v.bytes a.cursor).token ≡ Some t) where
      abbrev there : Here
      there = here_at a.cursor t (next_of v.bytes a.cursor).cursor

      ok : HereOk v there
      ok = here-ok v a.cursor t so e

      by-held : (w : Option Verbatim) → a.state.inside ≡ w → GoodBy Loose text w (v.base + a.cursor.pos) (m + a.cursor.pos) a.state
          → ((i : ℕ) → Of (removes_in v there t w a.state) i → Loose i)
          → Held Loose text v m (suc a.cursor.pos) (by_place x v there t w a.state)
      unfolding by_place GoodBy removes_in
      by-held None is o loose =
          outside-held (seeking v there t a.state) is a.cursor.pos (out-looking Loose text _ _ _ a.state o) there.to there.cursor ok (role_of t.kind) (role-ok t.kind)
      by-held (Some w) is o loose = held _ _ (in-fine Loose text w v shows m there ok a.state is o x.rules t loose)

      by-blank : (w : Option Verbatim) → a.state.inside ≡ w → GoodBy Loose text w (v.base + a.cursor.pos) (m + a.cursor.pos) a.state
          → (i : ℕ) → Of (removes_in v there t w a.state) i → blank (get_or text i 0) ≡ true
      unfolding GoodBy removes_in Of
      by-blank None is o i d = absurd d
      by-blank (Some w) is o i d = drops-blank Loose text w v shows m there ok a.state is o t i d

    -- a step takes a byte at least, or the line is at its end
    abbrev Taken-on : ℕ → Turn → Type 0
    Taken-on lo b = Held Loose text v m (suc lo) b ⊎ Held Loose text v m (length v.bytes) b

    module _ (lo : ℕ) (hd : Held Loose text v m lo a) where
      on-held : (un : a.state.refused ≡ None) (t : Option Token) → (next_of v.bytes a.cursor).token ≡ t
          → ((i : ℕ) → Of (removes_on v a t (next_of v.bytes a.cursor).cursor) i → Loose i)
          → Taken-on lo (on_token x v a t (next_of v.bytes a.cursor).cursor)
      unfolding on_token removes_on
      on-held un None e loose =
          let f = hd.good un in
          inr record {
            sound = so;
            few = hd.few;
            opens = hd.opens;
            good = λ z. record { sound = so; far = omega (arith, (next-sounded v.bytes a.cursor so).end e); good = f.good };
          }
      on-held un (Some t) e loose =
          let f = hd.good un in
          inl (held-less (suc a.cursor.pos) (suc lo) _ (omega (arith, f.far)) (by-held f.good t e a.state.inside refl f.good loose))

      pub step-held : a.state.refused ≡ None → ((i : ℕ) → Of (step_removes v a) i → Loose i) → Taken-on lo (step x v a)
      unfolding step_removes
      step-held un loose = on-held un (next_of v.bytes a.cursor).token refl loose

      pub step-blank : a.state.refused ≡ None → (i : ℕ) → Of (step_removes v a) i → blank (get_or text i 0) ≡ true
      unfolding step_removes removes_on Of
      step-blank un i d = on (next_of v.bytes a.cursor).token refl d
        where
          on : (t : Option Token) → (next_of v.bytes a.cursor).token ≡ t
              → Of (removes_on v a t (next_of v.bytes a.cursor).cursor) i → blank (get_or text i 0) ≡ true
          on None e d = absurd d
          on (Some t) e d = by-blank (hd.good un).good t e a.state.inside refl (hd.good un).good i d
