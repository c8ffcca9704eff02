-- Verbatim (document 01, "Verbatim"; Djot's rules on verbatim, raw inlines and math).
use Rattle.std.specs.Prelude.{ℕ, suc, ◌+◌, ◌-◌, List, [], ◌∷◌, Bool, true, false, not, ◌&&◌, eqb, length, get_or, take, drop, Option, Some, None}
use Rattle.classes.specs.Classes.{blank}
use Rattle.lex.specs.declared.lex.Token.{Token}
use Rattle.lex.specs.declared.lex.Cursor.{Cursor}
use Rattle.lex.specs.Lexer.{fresh_of, peek_of}
use Rattle.scan.specs.Scans.{raw_format_of}
use Rattle.reading.specs.declared.Event.{Event}
use Rattle.reading.specs.declared.Verbatim.{Verbatim}
use Rattle.reading.specs.declared.Last.{Last}
use Rattle.reading.specs.Events.{event, in_text, becomes, shorter, exit_of, enter, str, verbatim, raw_format, inline_math, display_math}
use Rattle.reading.specs.Machine.{View, Rules, State, Turn, Here, amend, amend_last, puts, put, with_queue, with_inside}
use Rattle.reading.specs.Tokens.{role_of, is_run, is_format}

-- the lexer in verbatim, or out of it
abbrev pub flagged : Bool → Cursor → Cursor
flagged b c = record { pos = c.pos; escape = c.escape; next = c.next; verbatim = b }

-- how many dollars the run that begins at a place takes: those at the end of a Str that ends there
unfoldable pub taken : Option Last → ℕ → ℕ
taken None at = 0
taken (Some l) at = elim (eqb l.end.0 at) [ true ↦ l.dollars | false ↦ 0 ]

-- none: verbatim; one: inline math; two: display math
unfoldable pub opened_as : ℕ → ℕ
opened_as n = elim (eqb n 0) [ true ↦ verbatim | false ↦ elim (eqb n 1) [ true ↦ inline_math | false ↦ display_math ] ]

-- A run of backticks opens. Dollars directly before it leave their Str and join the enter's span
abbrev pub opens_with : ℕ → View → Here → State → State
opens_with n v h s =
    with_inside
    (Some record {
      event = length s.queue;
      len = h.to - h.from;
      seen = false;
      run = false;
      keep = suc (length s.queue);
      here = true;
    })
    (puts (event (enter (opened_as n)) (v.base + h.from - n) (v.base + h.to) ∷ []) None
    (with_queue (amend_last (shorter n) s.queue) s))

abbrev pub opens_verbatim : View → Here → State → Turn
opens_verbatim v h s =
    record { cursor = flagged true h.cursor; state = opens_with (taken s.last (v.base + h.from)) v h s }

-- The same length closes; another run, and every other token, is content
abbrev pub closes : Verbatim → Here → Token → Bool
closes w h t = is_run (role_of t.kind) && eqb (h.to - h.from) w.len

-- on closing, if the last non-blank token was a backtick run, the blanks after it are dropped; no other blank is
unfoldable pub kept : Verbatim → List Event → List Event
kept w q = elim w.run [ true ↦ take w.keep q | false ↦ q ]

abbrev pub nothing : Event
nothing = event 0 0 0

-- When a verbatim ends, the event at the opener's place decides the exit, which is put behind what is kept of the queue
abbrev pub exits : Verbatim → List Event → ℕ → ℕ → State → State
exits w q a b s =
    with_inside None (puts (exit_of (get_or s.queue w.event nothing) a b ∷ []) None (with_queue q s))

-- the raw format behind a closing run: only where the token there is `{=`
unfoldable pub format_ahead : View → ℕ → Option Token → Option ℕ
format_ahead v j None = None
format_ahead v j (Some t) =
    elim (is_format (role_of t.kind)) [ true ↦ raw_format_of (drop (j + 2) v.bytes) | false ↦ None ]

-- a raw format of n bytes makes the verbatim a raw inline, and the exit goes to behind its `}`
abbrev pub formatted : View → ℕ → ℕ → Verbatim → List Event → List Event
formatted v a n w q = amend (becomes (enter raw_format) (in_text (v.base + a) (v.base + a + n))) w.event q

unfoldable pub closed_with : View → Here → Cursor → Verbatim → Option ℕ → State → Turn
closed_with v h c w None s = record { cursor = flagged false c; state = exits w (kept w s.queue) (v.base + h.from) (v.base + h.to) s }
closed_with v h c w (Some n) s =
    let a = h.to + 2 in
    record {
      cursor = fresh_of (a + n + 1) false;
      state = let q = formatted v a n w s.queue in exits w (kept w q) (v.base + h.from) (v.base + (a + n + 1)) (with_queue q s);
    }

-- the token behind the closing run is peeked at as the rules of the reading say
abbrev pub closes_verbatim : Rules → View → Here → Verbatim → State → Turn
closes_verbatim r v h w s =
    let p = peek_of v.bytes (flagged (r.after w.here) h.cursor) in
    closed_with v h p.cursor w (format_ahead v h.to p.token) s

unfoldable pub all_blank : List ℕ → Bool
all_blank [] = true
all_blank (b ∷ bs) = blank b && all_blank bs

-- the bytes of a token
abbrev pub bytes_of : View → Here → List ℕ
bytes_of v h = take (h.to - h.from) (drop h.from v.bytes)

unfoldable pub another_run : Verbatim → Option Token → Bool
another_run w None = false
another_run w (Some t) = is_run (role_of t.kind) && not (eqb t.len w.len)

-- a blank token before the first non-blank content is dropped if the next token of the line is a backtick run of another length. (Djot: one
-- space beside a backtick at the content's edge is left out)
abbrev pub skips : Verbatim → Option Token → Bool
skips w t = not w.seen && another_run w t

-- a non-blank token: seen, and whether it is a run
abbrev pub content : View → Here → Token → Verbatim → State → State
content v h t w s =
    with_inside
    (Some record {
      event = w.event;
      len = w.len;
      seen = true;
      run = is_run (role_of t.kind);
      keep = suc (length s.queue);
      here = w.here;
    })
    (put v str h.from h.to s)

-- a blank token. Only where nothing else was seen is the next one peeked at
unfoldable pub blank_content : View → Here → Verbatim → State → Turn
blank_content v h w s =
    elim w.seen [
      | true ↦ record { cursor = h.cursor; state = put v str h.from h.to s }
      | false ↦ let p = peek_of v.bytes h.cursor in
          record { cursor = p.cursor; state = elim (skips w p.token) [ true ↦ s | false ↦ put v str h.from h.to s ] }
    ]

-- a token inside a verbatim
unfoldable pub in_verbatim : Rules → View → Here → Token → Verbatim → State → Turn
in_verbatim r v h t w s =
    elim (closes w h t) [
      | true ↦ closes_verbatim r v h w s
      | false ↦ elim (all_blank (bytes_of v h)) [
        | true ↦ blank_content v h w s
        | false ↦ record { cursor = h.cursor; state = content v h t w s }
      ]
    ]

-- on a later line the opener does not stand on the line any more
unfoldable pub moved_on : Option Verbatim → Option Verbatim
moved_on None = None
moved_on (Some w) =
    Some record { event = w.event; len = w.len; seen = w.seen; run = w.run; keep = w.keep; here = false }

-- there the lexer is in verbatim as the rules of the reading say
unfoldable pub flag_of : Rules → Option Verbatim → Bool
flag_of r None = false
flag_of r (Some w) = r.later

-- at the end of the lines an open verbatim gets an exit of width 0 at the last line's end
unfoldable pub ended_at : ℕ → Option Verbatim → State → State
ended_at b None s = s
ended_at b (Some w) s = exits w s.queue b b s
