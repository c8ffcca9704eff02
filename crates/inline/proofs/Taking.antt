-- One token: what it asks of the layers below, and that their answer is the definition's step.
use Rattle.std.specs.Prelude.{None, Option, Some}
use Prim.Native.Nat.{ℕ, ◌+◌, ◌≤◌}
use mathlib.Core.Path.{◌≡◌, refl, sym, ap, ◌∙◌, subst}
use mathlib.Core.List.{List}
use mathlib.Core.Logic.{inl, inr}
use native.Mathlib.Omega.{arith}
use lib.ListN.{length}
use Rattle.lex.specs.declared.lex.Kind.{Kind}
use Rattle.lex.specs.declared.lex.Kind.TheVariants as kinds
use Rattle.lex.specs.declared.lex.Token.{Token}
use Rattle.lex.specs.declared.lex.Lexed.{Lexed}
use Rattle.lex.specs.Lexer.{next_of}
use Rattle.reading.specs.declared.Last.{Last}
use Rattle.reading.specs.declared.Place.{Place}
use Rattle.reading.specs.declared.Role.{Role}
use Rattle.reading.specs.Events.{str}
use Rattle.reading.specs.declared.Verbatim.{Verbatim}
use Rattle.reading.specs.Machine.{View, Sheet, State, Here, rules_of, put, looking}
use Rattle.reading.specs.Tokens.{role_of}
use Rattle.reading.specs.Looks.{Seeks, seeks_of, looked, look}
use Rattle.reading.specs.Containers.{tried, opens_or}
use Rattle.reading.specs.Verbatim.{in_verbatim, ended_at}
use Rattle.reading.specs.Reading.{outside, outside_looking, by_place, here_at, on_token, step, unasked}
use Rattle.reading.proofs.Ends.{seek-none}
use Rattle.reading.proofs.Looks.{looking-none, seeks-role}
use Rattle.reading.proofs.Places.{HereOk, here-ok}
use Rattle.rooms.specs.declared.Parser.{Parser}
use Rattle.rooms.specs.declared.span.Span.{Span}
use Rattle.rooms.specs.Standing.{Fits}
use Rattle.rooms.specs.Steps.{state, turn, staying, Room}
use Rattle.verbatim.specs.Opened.{Opened, OpenedBy}
use Rattle.containers.specs.Ready.{Ready}
use Rattle.outside.specs.Outside.{Ended, EndedBy}
use Rattle.outside.proofs.Single.{text-role}
use Rattle.inline.specs.Asks.{Before, ending, Closing}

module _ (text : List ℕ) (reading : ℕ) (v : View) (p : Parser) (b : Before v p) (a : Lexed) (isa : a ≡ next_of v.bytes p.at.cursor) where
  abbrev x : Sheet
  x = unasked text reading (length p.labels.now)

  -- the step, by the token that was taken
  by_token : on_token x v (turn p) a.token a.cursor ≡ step x v (turn p)
  by_token = ap (λ (y : Lexed). on_token x v (turn p) y.token y.cursor) isa

  pub event-none : a.token ≡ None → turn p ≡ step x v (turn p)
  unfolding on_token
  event-none e = sym (ap (λ (y : Option Token). on_token x v (turn p) y a.cursor) e) ∙ by_token

  module _ (t : Token) (ist : a.token ≡ Some t) (o : p.at.cursor.pos ≤ p.at.cursor.pos + t.len) where
    abbrev h : Span
    h = record { from = p.at.cursor.pos; to = p.at.cursor.pos + t.len; ordered = o }

    abbrev there : Here
    there = record { from = h.from; to = h.to; cursor = a.cursor }

    ok : HereOk v (here_at p.at.cursor t (next_of v.bytes p.at.cursor).cursor)
    ok = here-ok v p.at.cursor t b.sound (subst (λ (y : Lexed). y.token ≡ Some t) isa ist)

    pub event-within : p.at.cursor.pos + t.len ≤ length v.bytes
    event-within = ok.within

    pub event-fits : Fits v h
    event-fits = record { within = ok.within; small = b.small }

    pub event-room : Room 1 p
    event-room = omega (arith, b.room, ok.long, ok.within)

    -- u is the parser at the cursor behind the token
    pub event-ready : (u : Parser) → u.at.cursor ≡ a.cursor → u.at.events ≡ p.at.events → u.at.openers ≡ p.at.openers → u.queue ≡ p.queue
        → u.openers ≡ p.openers → Ready v h u
    event-ready u c e n q o =
        record {
          long = ok.long;
          within = ok.within;
          small = b.small;
          place = rw (c, isa) ok.place;
          sound = rw (c, isa) ok.sound;
          room = rw (e, q) b.room;
          few = rw e b.few;
          shallow = rw n b.shallow;
          stack = rw (n, o) b.stack;
          named = rw (e, n, o) b.named;
        }

    pub event-ended : p.at.inside ≡ None → (u : Parser) → u.at.events ≡ p.at.events → u.at.last ≡ p.at.last → u.queue ≡ p.queue → Ended u
    event-ended e u n l q = subst (λ (last : Option Last). EndedBy last u) (sym l) (go p.at.last (b.ended e))
      where
        go : (last : Option Last) → EndedBy last p → EndedBy last u
        go None w = tt
        go (Some k) (inl z) = inl z
        go (Some k) (inr w) = inr record { some = rw n w.some; within = rw (n, q) w.within; ends = w.ends }

    pub event-opened : (w : Verbatim) → p.at.inside ≡ Some w → (u : Parser) → u.at.events ≡ p.at.events → u.queue ≡ p.queue → Opened w u
    unfolding OpenedBy
    event-opened w e u n q =
        let k = subst (λ (y : Option Verbatim). OpenedBy y p) e b.opened in
        record { low = k.low; high = rw n k.high; enters = rw q k.enters; below = rw q k.below }

    -- the token at its place
    placed : (w : Option Verbatim) → p.at.inside ≡ w → by_place x v there t w (state p) ≡ step x v (turn p)
    unfolding on_token
    placed w e =
        sym (ap (λ (y : Option Verbatim). by_place x v there t y (state p)) e)
        ∙ sym (ap (λ (y : Option Token). on_token x v (turn p) y a.cursor) ist)
        ∙ by_token

    pub event-outside : p.at.inside ≡ None → (t.kind ≡ kinds.Text → ⊥) → (y : Role) → y ≡ role_of t.kind
        → outside_looking x v there y (state p) ≡ step x v (turn p)
    unfolding by_place
    event-outside e n y isy =
        ap (λ (z : Role). outside_looking x v there z (state p)) isy
        ∙ ap (λ (k : Seeks). outside x v there (role_of t.kind) (look k (state p))) (sym (seeks-role v there t.kind n))
        ∙ placed None e

    -- text is what it is alone
    pub event-text : p.at.inside ≡ None → t.kind ≡ kinds.Text → record { cursor = a.cursor; state = put v str h.from h.to (state p) } ≡ step x v (turn p)
    unfolding tried opens_or outside by_place seeks_of looked
    event-text e k =
        ap (λ (s : State). record { cursor = a.cursor; state = put v str h.from h.to s }) (sym (looking-none (state p)))
        ∙ sym (rw (seek-none (state p).openers) refl)
        ∙ ap (λ (r : Role). outside x v there r (looking 0 (state p))) (sym (text-role t.kind k))
        ∙ ap (λ (z : Kind). outside x v there (role_of t.kind) (look (seeks_of v there z) (state p))) (sym k)
        ∙ placed None e

    pub event-verbatim : (w : Verbatim) → p.at.inside ≡ Some w → in_verbatim (rules_of reading) v there t w (state p) ≡ step x v (turn p)
    unfolding by_place
    event-verbatim w e = placed (Some w) e

-- the end of a refused sheet, and of any other
module _ (b : ℕ) (p : Parser) where
  pub end_refused : (a : Place) → p.at.refused ≡ Some a → Closing p.at.refused p → turn p ≡ staying p (ending b) (state p)
  unfolding Closing ended_at
  end_refused a e c =
      let k = subst (λ (y : Option Place). Closing y p) e c in
      sym (ap (λ (y : Option Verbatim). record { cursor = p.at.cursor; state = ended_at b y (state p) }) k)

  pub end-opened : p.at.refused ≡ None → Closing p.at.refused p → OpenedBy p.at.inside p
  unfolding Closing
  end-opened e c = subst (λ (y : Option Place). Closing y p) e c
