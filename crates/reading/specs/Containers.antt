-- Containers (document 01, "Containers"; Djot's rules on emphasis and its like, quotes, spans, links and images).
use Rattle.std.specs.Prelude.{ℕ, suc, ◌+◌, ◌-◌, List, [], ◌∷◌, Bool, true, false, not, ◌&&◌, ◌||◌, leb, eqb, length, get_or, take, drop, Option, Some, None, is_some}
use Rattle.lex.specs.declared.lex.Token.{Token}
use Rattle.classes.specs.Classes.{blank}
use Rattle.lex.specs.declared.lex.Cursor.{Cursor}
use Rattle.lex.specs.Lexer.{next_of, peek_of}
use Rattle.reading.specs.declared.Closer.{Closer}
use Rattle.reading.specs.Closers.{same}
use Rattle.reading.specs.declared.Event.{Event}
use Rattle.reading.specs.declared.Sort.{Sort}
use Rattle.reading.specs.declared.Opener.{Opener}
use Rattle.reading.specs.declared.Marks.{Marks}
use Rattle.reading.specs.declared.Role.{Role}
use Rattle.reading.specs.declared.Role.TheVariants as role
use Rattle.reading.specs.declared.DelimEventKind.{DelimEventKind}
use Rattle.reading.specs.declared.DelimEventKind.TheVariants as makes
use Rattle.reading.specs.Events.{event, nowhere, becomes, becomes_to, enter, exit, str}
use Rattle.reading.specs.Machine.{View, Sheet, State, Turn, Here, amend, prev, puts, put, noting, with_openers, with_queue, with_link}
use Rattle.reading.specs.Tokens.{role_of, closed_by, two_way, may_be_empty, is_single, unclosed, closing_of, link_sort}
use Rattle.reading.specs.Labels.{Labelled, label_of, label_home}
use Rattle.reading.specs.Verbatim.{nothing}

-- the newest opener that a mark closes, with the older ones below it
unfoldable pub seek_mark : Closer → List Opener → List Opener
seek_mark c [] = []
seek_mark c (o ∷ os) = elim (same (closed_by o.sort) c) [ true ↦ o ∷ os | false ↦ seek_mark c os ]

-- what closes nothing finds none
unfoldable pub seek : Option Closer → List Opener → List Opener
seek None os = []
seek (Some c) os = seek_mark c os

-- it is the only one tried. An empty pair does not close, except spans and links; a two-way one does not close after a blank
unfoldable pub may_close : View → Here → State → Opener → Bool
may_close v h s o =
    (may_be_empty o.sort || not (eqb (suc o.event) (length s.queue)))
    && not (two_way o.sort && blank (prev v h.from))

-- a container or a pair of quotes: the opener's event becomes the first of the pair, and the second is put
abbrev pub closes_pair : View → Here → ℕ → ℕ → Opener → State → State
closes_pair v h first second o s =
    puts (event second (v.base + h.from) (v.base + h.to) ∷ []) None
    (with_queue (amend (becomes first nowhere) o.event s.queue) s)

-- the bracket that a `]` takes along, if it does: `(` of an inline link (true), or `[` of one by reference
unfoldable pub takes : Role → Option Bool
takes role.Backticks = None
takes role.Brace = None
takes role.Lt = None
takes role.Colon = None
takes role.Bracket = Some false
takes role.Paren = Some true
takes role.Periods = None
takes role.Hyphens = None
takes (role.Other m) = None

-- what becomes of the `]` of a span: with a bracket of n bytes behind it, which is taken along unscanned, a link is opened; else it stays Str
unfoldable pub span_with : View → Here → Bool → Opener → Cursor → ℕ → Option Bool → State → Turn
span_with v h image o c n None s = record { cursor = c; state = put v str h.from h.to s }
span_with v h image o c n (Some inline) s =
    record {
      cursor = (next_of v.bytes c).cursor;
      state = put v str h.to (h.to + n)
          (with_openers (record { sort = link_sort image inline; event = suc (length s.queue); span = o.event } ∷ s.openers)
          (put v str h.from h.to s));
    }

unfoldable pub closes_span : View → Here → Bool → Opener → Cursor → Option Token → State → Turn
closes_span v h image o c None s = span_with v h image o c 0 None s
closes_span v h image o c (Some t) s = span_with v h image o c t.len (takes (role_of t.kind)) s

-- the label of a link whose destination's opener is o
abbrev pub labelled : Sheet → View → Here → Bool → Opener → State → Labelled
labelled x v h inline o s =
    label_home x.room s.links s.labels s.fits
    (label_of x.text inline v.base (v.base + h.from) (get_or s.queue o.event nothing)
    (drop (suc o.span) (take (o.event - 1) s.queue))
    (drop (suc o.event) s.queue))

-- a link: its `[` becomes the enter; its `]` the exit, whose span goes to behind the destination; the destination's events go
abbrev pub link_queue : ℕ → Labelled → View → Here → Opener → List Event → List Event
link_queue k l v h o q =
    take o.event
    (amend (becomes_to (exit k) l.home (v.base + h.to)) (o.event - 1) (amend (becomes (enter k) l.home) o.span q))

abbrev pub closes_link : ℕ → Labelled → View → Here → Opener → State → State
closes_link k l v h o s = with_link l.labels l.fits (noting (link_queue k l v h o s.queue) None s)

-- closing, where the newer openers are discarded already. After it the next token is peeked at, so that a Text there is not joined
unfoldable pub close_as : Sheet → View → Here → Opener → DelimEventKind → State → Turn
close_as x v h o (makes.Pair p) s =
    record { cursor = (peek_of v.bytes h.cursor).cursor; state = closes_pair v h p.first p.second o s }
close_as x v h o (makes.Span image) s =
    let p = peek_of v.bytes h.cursor in
    closes_span v h image o p.cursor p.token s
close_as x v h o (makes.Link t) s =
    record {
      cursor = (peek_of v.bytes h.cursor).cursor;
      state = closes_link t.container (labelled x v h t.inline o s) v h o s;
    }

-- the byte behind the token is blank, or the line ends there
unfoldable pub blank_after : View → Here → Bool
blank_after v h = leb (length v.bytes) h.to || blank (get_or v.bytes h.to 0)

-- a two-way opener does not open before a blank or the line's end; a single quote not directly after a Str unless a blank stands before it
unfoldable pub may_open : View → Here → State → Sort → Bool
may_open v h s o =
    not (two_way o && blank_after v h) && not (is_single o && is_some s.last && not (blank (prev v h.from)))

-- an opener, and its event: what it is if it is never closed
abbrev pub open_as : View → Here → Sort → State → State
open_as v h o s =
    with_openers (record { sort = o; event = length s.queue; span = 0 } ∷ s.openers) (put v (unclosed o) h.from h.to s)

-- a token that closes nothing: an opener, or what it is alone
unfoldable pub opens_or : View → Here → ℕ → Option Sort → State → State
opens_or v h alone None s = put v alone h.from h.to s
opens_or v h alone (Some o) s =
    elim (may_open v h s o) [ true ↦ open_as v h o s | false ↦ put v alone h.from h.to s ]

unfoldable pub tried : Sheet → View → Here → Marks → List Opener → State → Turn
tried x v h m [] s = record { cursor = h.cursor; state = opens_or v h m.alone m.opens s }
tried x v h m (o ∷ os) s =
    elim (may_close v h s o) [
      | true ↦ close_as x v h o (closing_of o.sort) (with_openers os s)
      | false ↦ record { cursor = h.cursor; state = opens_or v h m.alone m.opens s }
    ]

-- a token as a closer, then as an opener, then alone. Closing discards all newer openers
abbrev pub container : Sheet → View → Here → Marks → State → Turn
container x v h m s = tried x v h m (seek m.closes s.openers) s
