-- What is noted, if anything is, is of the queue's last event (`LastIs`), at any moment of a sheet's
-- reading and behind it, of a refused sheet too.
use Rattle.std.specs.Prelude.{None, Option, Some}
use Prim.Native.Nat.{ℕ, zero, suc, ◌+◌, ◌-◌, ◌*◌, ◌≤◌}
use mathlib.Core.List.{List, [], ◌∷◌}
use mathlib.Core.Bool.{Bool}
use mathlib.Core.Path.{refl}
use native.Mathlib.Omega.{arith}
use lib.ListN.{length, take, drop}
use Rattle.dash.specs.Dashes.{dots_of}
use Rattle.dash.proofs.Splits.{dots-whole}
use Rattle.lex.specs.declared.lex.Token.{Token}
use Rattle.lex.specs.declared.lex.Cursor.{Cursor}
use Rattle.lex.specs.Lexer.{next_of, peek_of}
use Rattle.reading.specs.declared.DelimEventKind.{DelimEventKind}
use Rattle.reading.specs.declared.DelimEventKind.TheVariants as makes
use Rattle.reading.specs.declared.Line.{Line}
use Rattle.reading.specs.declared.Opener.{Opener}
use Rattle.reading.specs.declared.Role.{Role}
use Rattle.reading.specs.declared.Sort.{Sort}
use Rattle.reading.specs.declared.Verbatim.{Verbatim}
use Rattle.reading.specs.Events.{str, ellipsis}
use Rattle.reading.specs.Machine.{View, Rules, Sheet, State, Turn, Here, puts, put, with_openers}
use Rattle.reading.specs.Atoms.{row, dots}
use Rattle.reading.specs.Tokens.{role_of, closing_of}
use Rattle.reading.specs.Verbatim.{closes, closed_with, all_blank, bytes_of, skips, blank_content, in_verbatim, ended_at}
use Rattle.reading.specs.Containers.{takes, span_with, closes_span, close_as, may_open, opens_or}
use Rattle.reading.specs.Reading.{outside, by_place, here_at, on_token, step, steps, begun, line, lines, start, end_of, views, read, during, moment}
use Rattle.reading.specs.Looks.{seeking}
use Rattle.reading.proofs.Choose.{choose}
use Rattle.reading.proofs.Good.{LastIs, last-is}
use Rattle.reading.proofs.Stepping.{either}
use Rattle.reading.proofs.Ruling.{by-rule}

abbrev pub Noted : State → Type 0
Noted s = LastIs s.last s.queue

module _ (v : View) where
  put-noted : (kind i j : ℕ) (s : State) → i ≤ j → Noted (put v kind i j s)
  put-noted kind i j s l = last-is v kind i j s.queue l

  -- each rule keeps it, at a token that does not end before it begins
  module _ (h : Here) (up : h.from ≤ h.to) (s : State) where
    opens-noted : (alone : ℕ) (o : Option Sort) → Noted (opens_or v h alone o s)
    unfolding opens_or
    opens-noted alone None = put-noted alone h.from h.to s up
    opens-noted alone (Some o) = choose Noted (may_open v h s o) _ _ (λ e. put-noted _ h.from h.to s up) (λ e. put-noted alone h.from h.to s up)

    span-noted : (image : Bool) (o : Opener) (c : Cursor) (t : Option Token) → Noted (closes_span v h image o c t s).state
    unfolding closes_span span_with
    span-noted image o c None = put-noted str h.from h.to s up
    span-noted image o c (Some t) = go (takes (role_of t.kind))
      where
        go : (b : Option Bool) → Noted (span_with v h image o c t.len b s).state
        go None = put-noted str h.from h.to s up
        go (Some inline) = put-noted str h.to (h.to + t.len) (put v str h.from h.to s) (omega arith)

    close-noted : (x : Sheet) (o : Opener) (d : DelimEventKind) → Noted (close_as x v h o d s).state
    unfolding close_as
    close-noted x o (makes.Pair p) = tt
    close-noted x o (makes.Span image) = span-noted image o _ _
    close-noted x o (makes.Link t) = tt

    dots-noted : Noted (dots v h.from (h.to - h.from) s)
    dots-noted =
        let k = (dots_of (h.to - h.from)).ellipses in
        put-noted str (h.from + 3 * k) (h.from + (h.to - h.from)) (puts (row ellipsis 3 k (v.base + h.from)) None s)
        (omega (arith, (dots-whole (h.to - h.from)).0))

    -- inside a verbatim
    closed-noted : (c : Cursor) (w : Verbatim) (f : Option ℕ) → Noted (closed_with v h c w f s).state
    unfolding closed_with
    closed-noted c w None = tt
    closed-noted c w (Some n) = tt

    blank-noted : (w : Verbatim) → Noted s → Noted (blank_content v h w s).state
    unfolding blank_content
    blank-noted w k =
        choose (λ (a : Turn). Noted a.state) w.seen _ _ (λ e. put-noted str h.from h.to s up)
        (λ e. choose Noted (skips w (peek_of v.bytes h.cursor).token) _ _ (λ y. k) (λ y. put-noted str h.from h.to s up))

    in-noted : (r : Rules) (t : Token) (w : Verbatim) → Noted s → Noted (in_verbatim r v h t w s).state
    unfolding in_verbatim
    in-noted r t w k =
        choose (λ (a : Turn). Noted a.state) (closes w h t) _ _ (λ e. closed-noted _ w _)
        (λ e. choose (λ (a : Turn). Noted a.state) (all_blank (bytes_of v h)) _ _ (λ y. blank-noted w k) (λ y. put-noted str h.from h.to s up))

  module _ (x : Sheet) where
    outside-noted : (s : State) → Noted s → (h : Here) → h.from ≤ h.to → (r : Role) → Noted (outside x v h r s).state
    outside-noted s k =
        by-rule x x v s (λ a b. Noted b.state) (λ h. h.from ≤ h.to) (λ h j c l up. omega (arith, l, up)) (λ h up m. opens-noted h up s m.alone m.opens)
        (λ h up c o os e. close-noted h up (with_openers os s) x o (closing_of o.sort)) (λ h up n. tt) (λ h up kind n. tt) (λ h up. dots-noted h up s)
        (λ h up. tt) (λ h up. tt) (λ p. refl) (λ h up. k)

    by-noted : (s : State) → Noted s → (h : Here) → h.from ≤ h.to → (t : Token) (w : Option Verbatim) → Noted (by_place x v h t w s).state
    unfolding by_place
    by-noted s k h up t None = outside-noted (seeking v h t s) k h up (role_of t.kind)
    by-noted s k h up t (Some w) = in-noted h up s x.rules t w k

    on-noted : (a : Turn) → Noted a.state → (t : Option Token) (c : Cursor) → Noted (on_token x v a t c).state
    unfolding on_token
    on-noted a k None c = k
    on-noted a k (Some t) c = by-noted a.state k (here_at a.cursor t c) (omega arith) t a.state.inside

    -- steps
    pub step-noted : (a : Turn) → Noted a.state → Noted (step x v a).state
    step-noted a k = on-noted a k (next_of v.bytes a.cursor).token (next_of v.bytes a.cursor).cursor

    pub steps-noted : (n : ℕ) (a : Turn) → Noted a.state → Noted (steps n x v a).state
    unfolding steps
    steps-noted zero a k = k
    steps-noted (suc n) a k =
        either (λ (b : Turn). Noted b.state) a.state.refused _ _ (λ p e. k) (λ e. steps-noted n (step x v a) (step-noted a k))

-- lines
pub lines-noted : (x : Sheet) (vs : List View) (s : State) → Noted s → Noted (lines x vs s)
unfolding lines
lines-noted x [] s k = k
lines-noted x (v ∷ vs) s k = lines-noted x vs (line x v s) (steps-noted v x (length v.bytes) (begun x v s) k)

-- behind some lines, and some steps of the next
during-noted : (j : ℕ) (x : Sheet) (vs : List View) (s : State) → Noted s → Noted (during j x vs s)
unfolding during
during-noted j x [] s k = k
during-noted j x (v ∷ vs) s k = steps-noted v x j (begun x v s) k

pub moment-noted : (x : Sheet) (ls : List Line) (i j : ℕ) → Noted (moment x ls i j)
moment-noted x ls i j = during-noted j x (views x.text (drop i ls)) (lines x (views x.text (take i ls)) start) (lines-noted x (views x.text (take i ls)) start tt)

-- the end
ended-noted : (b : ℕ) (w : Option Verbatim) (s : State) → Noted s → Noted (ended_at b w s)
unfolding ended_at
ended-noted b None s k = k
ended-noted b (Some w) s k = tt

-- a whole sheet
pub read-noted : (x : Sheet) (ls : List Line) → Noted (read x ls)
read-noted x ls =
    let s = lines x (views x.text ls) start in
    ended-noted (end_of ls 0) s.inside s (lines-noted x (views x.text ls) start tt)
