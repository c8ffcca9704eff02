-- Where no brace has been asked the reading stops at each (`unasked`). What it gives up to there is what the sheet gives, and behind the stop the sheet goes
-- on, unless a block stands at the brace. So a line can be read from stop to stop, and each brace be asked where the reading stands.
use Rattle.std.specs.Prelude.{None, Option, Some}
use Rattle.reading.specs.declared.Verbatim.{Verbatim}
use Prim.Native.Nat.{ℕ, zero, suc, ◌+◌, ◌-◌, ◌≤◌, ◌<◌}
use mathlib.Core.Path.{◌≡◌, refl, sym, ap, ◌∙◌, subst}
use mathlib.Core.List.{List}
use mathlib.Core.Bool.{Bool, true, false}
use mathlib.Core.Logic.{◌⊎◌, inl, inr, ⊎_elim}
use native.Mathlib.Omega.{arith}
use lib.ListN.{length}
use Rattle.lex.specs.declared.lex.Token.{Token}
use Rattle.lex.specs.Lexer.{next_of}
use Rattle.lex.proofs.Laws.{Sound}
use Rattle.reading.specs.declared.Place.{Place}
use Rattle.reading.specs.Events.{place, str}
use Rattle.reading.specs.Machine.{View, Sheet, State, Turn, Here, put}
use Rattle.reading.specs.Tokens.{role_of}
use Rattle.reading.specs.Containers.{close_as, tried, opens_or}
use Rattle.reading.specs.Blocks.{everywhere}
use Rattle.reading.specs.Reading.{with_refused, braced, by_place, on_token, step, unless, steps, resumed}
use Rattle.reading.specs.Looks.{seeking}
use Rattle.reading.proofs.Ends.{seek-none}
use Rattle.reading.proofs.Spans.{Any}
use Rattle.reading.proofs.Places.{HereOk, here-ok}
use Rattle.reading.proofs.Backticks.{Shows}
use Rattle.reading.proofs.Ruling.{in_kept, each-ruled}
use Rattle.reading.proofs.Stepping.{Held, met}
use Rattle.reading.proofs.Feeding.{step-on, steps-some, steps_all}
use Rattle.reading.proofs.Theorems.{step_end, steps-still, steps-more}

-- one step, where the sheet is not refused
pub step-off : (x : Sheet) (v : View) (n : ℕ) (a : Turn) → a.state.refused ≡ None → steps (suc n) x v a ≡ steps n x v (step x v a)
unfolding steps unless
step-off x v n a e = ap (λ (r : Option Place). unless r a (steps n x v (step x v a))) e

-- a sheet that is refused stays so
pub steps-refused : (x : Sheet) (v : View) (n : ℕ) (a : Turn) (p : Place) → a.state.refused ≡ Some p → steps n x v a ≡ a
steps-refused x v n a p e = steps-still x n v a (λ z. absurd (met p (sym e ∙ z)))

module _ (x : Sheet) (v : View) where
  -- the same sheet, with no brace asked
  abbrev y : Sheet
  y = record { rules = x.rules; text = x.text; room = x.room; block = everywhere }

  -- at a brace the one refuses; the other does too, or puts the brace as Str
  record AtBrace (a b : Turn) : Type 0 where
    at : Place
    refused : b.state.refused ≡ Some at
    same : a ≡ elim (x.block at.0) [ true ↦ b | false ↦ resumed v at.0 b ]
    low : v.base ≤ at.0
    short : at.0 - v.base < b.cursor.pos

  abbrev One : Turn → Turn → Type 0
  One a b = ((b.state.refused ≡ None) × (a ≡ b)) ⊎ AtBrace a b

  module _ (s : State) (un : s.refused ≡ None) where
    at-brace : (h : Here) → HereOk v h → One (braced x v h (x.block (v.base + h.from)) s) (braced y v h true s)
    unfolding braced tried opens_or
    at-brace h ok =
        let p = v.base + h.from in
        inr record {
          at = place p;
          refused = refl;
          same = go (x.block p);
          low = omega arith;
          short = omega (arith, ok.place, ok.long);
        }
      where
        from : v.base + h.from - v.base ≡ h.from
        from = omega arith

        unrefused : with_refused None s ≡ s
        unrefused = ap (λ (r : Option Place). with_refused r s) (sym un)

        go : (b : Bool) → braced x v h b s
            ≡ elim b [ true ↦ braced y v h true s | false ↦ resumed v (v.base + h.from) (braced y v h true s) ]
        go true = refl
        go false =
            rw (seek-none s.openers)
            (sym (ap (λ (t : State). record { cursor = h.cursor; state = put v str (v.base + h.from - v.base) h.cursor.pos t }) unrefused
            ∙ ap (λ (i : ℕ). record { cursor = h.cursor; state = put v str i h.cursor.pos s }) from
            ∙ ap (λ (j : ℕ). record { cursor = h.cursor; state = put v str h.from j s }) ok.place))

  by_one : (s : State) → s.refused ≡ None → (h : Here) → HereOk v h → (t : Token) (w : Option Verbatim) → One (by_place x v h t w s) (by_place y v h t w s)
  unfolding by_place close_as
  by_one s un h ok t None =
      each-ruled x y v (seeking v h t s) One (λ a k. inl (ap (λ z. z.0) k ∙ un, refl)) (λ h o t os. inl (un, refl)) (λ h. inl (un, refl)) h
      (λ c. at-brace (seeking v h t s) un h ok) (role_of t.kind)
  by_one s un h ok t (Some w) = inl (ap (λ z. z.0) (in_kept v h s x.rules t w) ∙ un, refl)

  one : (a : Turn) → Sound v.bytes a.cursor → a.state.refused ≡ None → One (step x v a) (step y v a)
  unfolding on_token
  one a so un = on (next_of v.bytes a.cursor).token refl
    where
      on : (t : Option Token) → (next_of v.bytes a.cursor).token ≡ t
          → One (on_token x v a t (next_of v.bytes a.cursor).cursor) (on_token y v a t (next_of v.bytes a.cursor).cursor)
      on None e = inl (un, refl)
      on (Some t) e = by_one a.state un _ (here-ok v a.cursor t so e) t a.state.inside

  -- so many steps, up to a stop. None, and the sheet gives the same
  pub record Goes (n : ℕ) (a b : Turn) : Type 0 where
    pub refused : b.state.refused ≡ None
    pub same : steps n x v a ≡ b

  -- a block stands there, and the sheet gives the same
  pub record Stops (n : ℕ) (a b : Turn) : Type 0 where
    pub at : Place
    pub refused : b.state.refused ≡ Some at
    pub block : x.block at.0 ≡ true
    pub low : v.base ≤ at.0
    pub short : at.0 - v.base < b.cursor.pos
    pub same : steps n x v a ≡ b

  -- or none does, and some steps of the sheet lead behind the brace
  pub record Resumes (n : ℕ) (a b : Turn) : Type 0 where
    pub at : Place
    pub refused : b.state.refused ≡ Some at
    pub block : x.block at.0 ≡ false
    pub low : v.base ≤ at.0
    pub short : at.0 - v.base < b.cursor.pos
    pub count : ℕ
    pub some : 0 < count
    pub most : count ≤ n
    pub same : steps count x v a ≡ resumed v at.0 b

  abbrev pub Settled : ℕ → Turn → Turn → Type 0
  Settled n a b = Goes n a b ⊎ (Stops n a b ⊎ Resumes n a b)

  -- one step more before it
  before : (n : ℕ) (a b c : Turn) → a.state.refused ≡ None → step x v a ≡ c → Settled n c b → Settled (suc n) a b
  before n a b c un is (inl g) =
      inl record { refused = g.refused; same = step-off x v n a un ∙ ap (λ (z : Turn). steps n x v z) is ∙ g.same }
  before n a b c un is (inr (inl g)) =
      inr (inl record {
        at = g.at;
        refused = g.refused;
        block = g.block;
        low = g.low;
        short = g.short;
        same = step-off x v n a un ∙ ap (λ (z : Turn). steps n x v z) is ∙ g.same;
      })
  before n a b c un is (inr (inr g)) =
      inr (inr record {
        at = g.at;
        refused = g.refused;
        block = g.block;
        low = g.low;
        short = g.short;
        count = suc g.count;
        some = omega arith;
        most = omega (arith, g.most);
        same = step-off x v g.count a un ∙ ap (λ (z : Turn). steps g.count x v z) is ∙ g.same;
      })

  -- the step is a stop
  stopped : (n : ℕ) (a c : Turn) → a.state.refused ≡ None → AtBrace (step x v a) c → Settled (suc n) a (steps n y v c)
  unfolding steps
  stopped n a c un r = subst (Settled (suc n) a) (sym (steps-refused y v n c r.at r.refused)) (go (x.block r.at.0) refl r.same)
    where
      go : (b : Bool) → x.block r.at.0 ≡ b → step x v a ≡ elim b [ true ↦ c | false ↦ resumed v r.at.0 c ] → Settled (suc n) a c
      go true e same =
          inr (inl record {
            at = r.at;
            refused = r.refused;
            block = e;
            low = r.low;
            short = r.short;
            same = step-off x v n a un ∙ ap (λ (z : Turn). steps n x v z) same ∙ steps-refused x v n c r.at r.refused;
          })
      go false e same =
          inr (inr record {
            at = r.at;
            refused = r.refused;
            block = e;
            low = r.low;
            short = r.short;
            count = 1;
            some = omega arith;
            most = omega arith;
            same = step-off x v 0 a un ∙ same;
          })

  module _ (text : List ℕ) (m : ℕ) (shows : Shows text v) where
    pub settled : (n : ℕ) (a : Turn) → Held Any text v m 0 a → a.state.refused ≡ None → Settled n a (steps n y v a)
    unfolding steps
    settled zero a h un = inl record { refused = un; same = refl }
    settled (suc n) a h un =
        subst (Settled (suc n) a) (sym (step-off y v n a un))
        (⊎_elim
        (λ (g : ((step y v a).state.refused ≡ None) × (step x v a ≡ step y v a)).
        before n a _ (step y v a) un g.1 (settled n (step y v a) (step-on Any text y v m shows (λ i. tt) a un h) g.0))
        (λ (g : AtBrace (step x v a) (step y v a)). stopped n a (step y v a) un g)
        (one a h.sound un))

    -- from any moment of a line on, as many steps as it has bytes lead to its end
    module _ (a₀ : Turn) (h₀ : Held Any text v m 0 a₀) (j : ℕ) where
      abbrev n : ℕ
      n = length v.bytes

      end-held : Held Any text v m n (steps n x v a₀)
      end-held = steps_all Any text x v m shows n 0 a₀ (omega arith) h₀ (λ i o. tt)

      end-still : (z : Sheet) (k : ℕ) → steps k z v (steps n x v a₀) ≡ steps n x v a₀
      end-still z k = steps-still z k v (steps n x v a₀) (λ e. step_end z v (steps n x v a₀) end-held.sound (end-held.good e).far)

      pub moment-held : Held Any text v m 0 (steps j x v a₀)
      moment-held = steps-some Any text x v m shows j a₀ h₀ (λ i o. tt)

      pub moment-end : steps n x v (steps j x v a₀) ≡ steps n x v a₀
      moment-end =
          sym (steps-more x j n v a₀)
          ∙ ap (λ (k : ℕ). steps k x v a₀) (omega arith)
          ∙ steps-more x n j v a₀
          ∙ end-still x j

      -- behind so many nothing changes, nor is there a stop
      pub moment-still : n ≤ j → steps j x v a₀ ≡ steps n x v a₀
      moment-still l = ap (λ (k : ℕ). steps k x v a₀) z ∙ steps-more x n (j - n) v a₀ ∙ end-still x (j - n)
        where
          z : j ≡ n + (j - n)
          z = omega arith

      pub moment-last : n ≤ j → steps n y v (steps j x v a₀) ≡ steps n x v a₀
      moment-last l = ap (λ (z : Turn). steps n y v z) (moment-still l) ∙ end-still y n
