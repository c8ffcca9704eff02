-- Where a token stands, and the cursor behind it.
use Rattle.std.specs.Prelude.{Some}
use Prim.Native.Nat.{ℕ, ◌+◌, ◌≤◌, ◌<◌}
use mathlib.Core.Path.{◌≡◌, sym, ap, ◌∙◌, subst}
use mathlib.Core.List.{List}
use mathlib.Core.Bool.{Bool}
use native.Mathlib.Omega.{arith}
use lib.ListN.{length, length-drop}
use Rattle.lex.specs.declared.lex.Token.{Token}
use Rattle.lex.specs.declared.lex.Cursor.{Cursor}
use Rattle.lex.specs.declared.lex.Lexed.{Lexed}
use Rattle.lex.specs.Lexer.{next_of, peek_of}
use Rattle.lex.proofs.Walk.{taken_in, next-held}
use Rattle.lex.proofs.Laws.{Sound, next-stepped, next-sounded, peek-sounded, peek-kept}
use Rattle.reading.specs.Machine.{View, State, Turn, Here}
use Rattle.reading.specs.Verbatim.{flagged}
use Rattle.reading.specs.Reading.{here_at}
use Rattle.reading.proofs.Good.{Good}

-- a token of a line, at least one byte long, and a sound cursor behind it
pub record HereOk (v : View) (h : Here) : Type 0 where
  pub long : h.from < h.to
  pub within : h.to ≤ length v.bytes
  pub place : h.cursor.pos ≡ h.to
  pub sound : Sound v.bytes h.cursor

pub here-ok : (v : View) (c : Cursor) (t : Token) → Sound v.bytes c → (next_of v.bytes c).token ≡ Some t
    → HereOk v (here_at c t (next_of v.bytes c).cursor)
here-ok v c t s e =
    let st = next-stepped v.bytes c in
    let so = next-sounded v.bytes c s in
    record { long = omega (arith, so.some t e); within = st.within t e; place = st.place t e; sound = so.sound }

-- the same token with another sound cursor there
pub here-with : (v : View) (h : Here) (c : Cursor) → HereOk v h → c.pos ≡ h.to → Sound v.bytes c
    → HereOk v (record { from = h.from; to = h.to; cursor = c })
here-with v h c k p s = record { long = k.long; within = k.within; place = p; sound = s }

pub sound-flagged : (src : List ℕ) (b : Bool) (c : Cursor) → Sound src c → Sound src (flagged b c)
sound-flagged src b c s = record { place = s.place; held = s.held }

pub peek-sound : (src : List ℕ) (c : Cursor) → Sound src c → Sound src (peek_of src c).cursor
peek-sound src c s = (peek-sounded src c s).sound

pub peek-place : (src : List ℕ) (c : Cursor) (j : ℕ) → c.pos ≡ j → (peek_of src c).cursor.pos ≡ j
peek-place src c j e = (peek-kept src c).place ∙ e

-- the token that was peeked at, taken
pub record Taken (src : List ℕ) (c : Cursor) (n : ℕ) : Type 0 where
  pub long : 1 ≤ n
  pub within : c.pos + n ≤ length src
  pub place : (next_of src c).cursor.pos ≡ c.pos + n
  pub sound : Sound src (next_of src c).cursor

pub peeked-taken : (src : List ℕ) (c : Cursor) (t : Token) → Sound src c → c.next ≡ Some t → Taken src c t.len
peeked-taken src c t s e =
    let z = s.held t e in
    let fit : c.pos + t.len ≤ length src = omega (arith, z.within, z.some, length-drop c.pos src) in
    record {
      long = z.some;
      within = fit;
      place = ap (λ (r : Lexed). r.cursor.pos) (sym (sym (taken_in src c t fit) ∙ next-held src c t e));
      sound = (next-sounded src c s).sound;
    }

-- a turn of a line that is as it should be, at the lo-th byte or behind it: m bytes of the lines lie before the line
pub record Fine (Loose : ℕ → Type 0) (text : List ℕ) (v : View) (m lo : ℕ) (a : Turn) : Type 0 where
  pub sound : Sound v.bytes a.cursor
  pub far : lo ≤ a.cursor.pos
  pub good : Good Loose text (v.base + a.cursor.pos) (m + a.cursor.pos) a.state

pub fine-at : (Loose : ℕ → Type 0) (text : List ℕ) (v : View) (m lo j : ℕ) → lo ≤ j → (c : Cursor) (s : State) → Sound v.bytes c → c.pos ≡ j
    → Good Loose text (v.base + j) (m + j) s → Fine Loose text v m lo (record { cursor = c; state = s })
fine-at Loose text v m lo j l c s so e g =
    record { sound = so; far = omega (arith, l, e); good = subst (λ (k : ℕ). Good Loose text (v.base + k) (m + k) s) (sym e) g }
