-- What a token's functions ask: a token of a line, a cursor behind it, and rooms for what the rest of the line can give.
use Rattle.std.specs.Prelude.{ℕ, ◌+◌, ◌-◌, ◌*◌, ◌^◌, ◌≤◌, ◌<◌, ◌≡◌, List, [], ◌∷◌, Bool, true, false, length, Option, Some, None}
use Rattle.lex.specs.Lexer.{next_of, peek_of}
use Rattle.lex.specs.Sound.{Sound}
use Rattle.reading.specs.declared.Sort.{Sort}
use Rattle.reading.specs.declared.Opener.{Opener}
use Rattle.reading.specs.Events.{str, queue_numbers, opener_numbers, largest}
use Rattle.reading.specs.declared.Marks.{Marks}
use Rattle.reading.specs.Machine.{View, Sheet, State, Turn, Here, put, with_openers}
use Rattle.reading.specs.Containers.{closes_span, may_close, container}
use Rattle.reading.specs.Looks.{look}
use Rattle.reading.specs.Naming.{Named}
use Rattle.rooms.specs.declared.Status.{Status}
use Rattle.rooms.specs.declared.Parser.{Parser}
use Rattle.rooms.specs.declared.span.Span.{Span}
use Rattle.rooms.specs.Steps.{state}

pub record Ready (v : View) (h : Span) (p : Parser) : Type 0 where
  pub long : h.from < h.to
  pub within : h.to ≤ length v.bytes
  pub small : v.base + length v.bytes ≤ largest
  pub place : p.at.cursor.pos ≡ h.to
  pub sound : Sound v.bytes p.at.cursor
  pub room : (p.at.events + (length v.bytes - h.from)) * queue_numbers ≤ length p.queue.now
  pub few : p.at.events + (length v.bytes - h.from) ≤ largest
  pub shallow : p.at.openers + (length v.bytes - h.from) ≤ largest
  pub stack : (p.at.openers + (length v.bytes - h.from)) * opener_numbers ≤ length p.openers.now
  pub named : Named (state p).openers p.at.events

-- the label room and links that a link's end asks for
pub record LabelRoom (p : Parser) : Type 0 where
  pub labels : p.at.labels ≤ length p.labels.now
  pub room : length p.labels.now < 2 ^ 32
  pub links : p.at.links.0 + 1 < 2 ^ 32

-- all openers can be counted once more
abbrev pub Countable : Parser → Type 0
Countable p = p.at.looks + p.at.openers < 2 ^ 64

-- a bracket that is taken along, behind the Str of its `]`
abbrev pub along_with : View → Span → Sort → ℕ → Status → State → Turn
along_with v h sort span p s =
    record {
      cursor = (next_of v.bytes p.cursor).cursor;
      state = put v str h.from h.to (with_openers (record { sort = sort; event = length s.queue; span = span } ∷ s.openers) s);
    }

-- a span's end, with the token peeked at
abbrev pub span_closed : View → Here → Bool → Opener → State → Turn
span_closed v h image o s = let p = peek_of v.bytes h.cursor in closes_span v h image o p.cursor p.token s

-- the place of the newest opener of a stack, if it may close
unfoldable pub closable : View → Here → State → List Opener → Option ℕ
closable v h s [] = None
closable v h s (o ∷ os) = elim (may_close v h s o) [ true ↦ Some (length os) | false ↦ None ]

-- a token that seeks, with what it looks at
abbrev pub container_looking : Sheet → View → Here → Marks → State → Turn
container_looking x v h m s = container x v h m (look (Some m.closes) s)
