-- A token that closes nothing: what it is alone, or a span's opener.
use Rattle.std.specs.Prelude.{None, Option, Some}
use Prim.Native.Nat.{ℕ, ◌+◌, ◌≤◌, ◌<◌}
use mathlib.Core.Path.{◌≡◌, sym, ap, ◌∙◌, subst}
use mathlib.Core.List.{List}
use mathlib.Core.Logic.{inl, inr}
use native.Mathlib.Omega.{arith}
use borrow.Author.Tests.{eqb-true}
use lib.Dec.{eqb}
use lib.ListN.{length, drop, length-drop}
use Rattle.lex.specs.declared.lex.Token.{Token}
use Rattle.lex.specs.declared.lex.Lexed.{Lexed}
use Rattle.lex.specs.Lexer.{next_of, peek_of}
use Rattle.lex.proofs.Laws.{Sound, peek-kept}
use Rattle.lex.specs.declared.lex.Kind.{Kind}
use Rattle.lex.specs.declared.lex.Kind.TheVariants as kinds
use Rattle.reading.specs.declared.Role.TheVariants as roles
use Rattle.reading.specs.declared.Sort.TheVariants as sort
use Rattle.reading.specs.declared.Last.{Last}
use Rattle.reading.specs.Events.{str}
use Rattle.reading.proofs.Choose.{choose}
use Rattle.reading.specs.Machine.{View, Sheet, State, Turn, put, looking}
use Rattle.reading.specs.Tokens.{plain, bracket, closed_by, both_ways, role_of}
use Rattle.reading.specs.Closers.{number}
use Rattle.reading.specs.Looks.{looked, look}
use Rattle.reading.specs.Containers.{tried, opens_or, open_as, may_open}
use Rattle.reading.specs.Verbatim.{taken}
use Rattle.reading.proofs.Ends.{seek-none}
use Rattle.reading.proofs.Looks.{looking-none}
use Rattle.reading.proofs.Places.{Taken, peeked-taken, peek-sound, peek-place}
use Rattle.rooms.specs.declared.Parser.{Parser}
use Rattle.rooms.specs.declared.span.Span.{Span}
use Rattle.rooms.specs.Standing.{here}
use Rattle.rooms.specs.Steps.{state, staying, Queued}
use Rattle.rooms.proofs.Changing.{queued-as, queued-from, openers_long}
use Rattle.verbatim.specs.Opened.{Dollars}
use Rattle.containers.specs.Ready.{Ready, container_looking}
use Rattle.outside.specs.Outside.{Ended, EndedBy}

-- it looks at all openers
pub counted_all : (p : Parser) (f : State → Turn) → f (looking p.at.openers (state p)) ≡ f (look (Some None) (state p))
unfolding looked
counted_all p f = ap (λ (n : ℕ). f (looking n (state p))) (sym (openers_long p))

pub queued_counted : (p u r : Parser) (f : State → Turn) → Queued u r f → u.queue ≡ p.queue → u.openers ≡ p.openers → u.labels ≡ p.labels
    → u.at.openers ≡ p.at.openers → u.at.labels ≡ p.at.labels → state u ≡ looking p.at.openers (state p) → Queued p r (λ s. f (look (Some None) s))
queued_counted p u r f c q o l n k e = queued-from p u r f _ c q o l n k (ap f e ∙ counted_all p f)

pub alone-looked : (x : Sheet) (v : View) (h : Span) (p : Parser)
    → staying p (put v str h.from h.to) (looking p.at.openers (state p)) ≡ container_looking x v (here h p.at) (plain str) (state p)
unfolding tried opens_or
alone-looked x v h p = counted_all p (staying p (put v str h.from h.to)) ∙ rw (seek-none (state p).openers)

pub opening-looked : (x : Sheet) (v : View) (h : Span) (p : Parser)
    → staying p (open_as v (here h p.at) sort.Span) (looking p.at.openers (state p)) ≡ container_looking x v (here h p.at) bracket (state p)
unfolding tried opens_or may_open closed_by both_ways number
opening-looked x v h p = counted_all p (staying p (open_as v (here h p.at) sort.Span)) ∙ rw (seek-none (state p).openers)

-- what a scan takes, and a run that opens a verbatim, looks at nothing
pub queued_taken : (p r : Parser) (f : State → Turn) → Queued p r f → Queued p r (λ s. f (looking 0 s))
queued_taken p r f c = queued-as p r f c _ (ap f (sym (looking-none (state p))))

-- what a scan accepts lies within the line
pub scan-within : (line : List ℕ) (to n : ℕ) → n < length (drop to line) → to ≤ length line → to + n + 1 ≤ length line
scan-within line to n h t = omega (arith, h, length-drop to line)

-- the dollars that a run takes are those of the newest event
pub dollars-ended : (p : Parser) (at : ℕ) → Ended p → Dollars (taken p.at.last at) p.at.events p.queue.now × (taken p.at.last at ≤ at)
unfolding taken
dollars-ended p at e = go p.at.last e
  where
    At : ℕ → Type 0
    At d = Dollars d p.at.events p.queue.now × (d ≤ at)

    none : At 0
    none = (record { some = λ z. absurd (omega arith); within = λ z. absurd (omega arith) }, omega arith)

    go : (last : Option Last) → EndedBy last p → At (taken last at)
    go None e = none
    go (Some l) (inl z) =
        choose At (eqb l.end.0 at) _ _ (λ is. subst At (sym z) none) (λ is. none)
    go (Some l) (inr e) =
        choose At (eqb l.end.0 at) _ _
        (λ is. (record { some = λ y. e.some; within = λ y. e.within }, omega (arith, e.ends, eqb-true l.end.0 at is)))
        (λ is. none)

-- what is asked of the rooms, at another cursor behind a token that begins at the same place
pub ready-at : (v : View) (h b : Span) (p u : Parser) → Ready v h p → b.from ≡ h.from → h.from < b.to → b.to ≤ length v.bytes → u.at.cursor.pos ≡ b.to
    → Sound v.bytes u.at.cursor → u.at.events ≡ p.at.events → u.at.openers ≡ p.at.openers → u.queue ≡ p.queue → u.openers ≡ p.openers
    → Ready v b u
ready-at v h b p u w same long within place sound e n q o =
    record {
      long = rw same long;
      within = within;
      small = w.small;
      place = place;
      sound = sound;
      room = rw (same, e, q) w.room;
      few = rw (same, e) w.few;
      shallow = rw (same, n) w.shallow;
      stack = rw (same, n, o) w.stack;
      named = rw (e, n, o) w.named;
    }

-- a bracket, and the token behind it, which is peeked at
module _ (v : View) (h : Span) (p : Parser) (w : Ready v h p) (a : Lexed) (isa : a ≡ peek_of v.bytes p.at.cursor) where
  pub peeked-pos : a.cursor.pos ≡ h.to
  peeked-pos = rw isa (peek-place v.bytes p.at.cursor h.to w.place)

  pub peeked-sound : Sound v.bytes a.cursor
  peeked-sound = rw isa (peek-sound v.bytes p.at.cursor w.sound)

  module _ (t : Token) (e : a.token ≡ Some t) where
    both-taken : Taken v.bytes (peek_of v.bytes p.at.cursor).cursor t.len
    both-taken =
        peeked-taken v.bytes (peek_of v.bytes p.at.cursor).cursor t (peek-sound v.bytes p.at.cursor w.sound)
        ((peek-kept v.bytes p.at.cursor).held ∙ rw isa at e)

    -- the two lie within the line, with a sound cursor behind them
    pub both-within : h.to + t.len ≤ length v.bytes
    both-within = omega (arith, both-taken.within, peek-place v.bytes p.at.cursor h.to w.place)

    pub both-pos : (next_of v.bytes a.cursor).cursor.pos ≡ h.to + t.len
    both-pos = rw isa (both-taken.place ∙ ap (λ (n : ℕ). n + t.len) (peek-place v.bytes p.at.cursor h.to w.place))

    pub both-sound : Sound v.bytes (next_of v.bytes a.cursor).cursor
    both-sound = rw isa both-taken.sound

-- text
pub text-role : (k : Kind) → k ≡ kinds.Text → role_of k ≡ roles.Other (plain str)
unfolding role_of
text-role k e = rw e
