-- The reading: a step on a token, repeated to the end of the line, for every line; and the end. The order of the rules is that of the Rust's
-- `parse_event`.
use Rattle.std.specs.Prelude.{ℕ, zero, suc, ◌+◌, ◌-◌, List, [], ◌∷◌, map, Bool, true, false, leb, ltb, length, take, drop, Option, Some, None}
use Rattle.reading.specs.declared.Place.{Place}
use Rattle.reading.specs.declared.Verbatim.{Verbatim}
use Rattle.lex.specs.declared.lex.Token.{Token}
use Rattle.lex.specs.declared.lex.Cursor.{Cursor}
use Rattle.lex.specs.declared.lex.Lexed.{Lexed}
use Rattle.lex.specs.Lexer.{fresh_of, next_of, peek_of}
use Rattle.scan.specs.Scans.{autolink_of, symbol_of, footnote_of}
use Rattle.dash.specs.Dashes.{dashes_of}
use Rattle.reading.specs.declared.Line.{Line}
use Rattle.reading.specs.declared.Role.{Role}
use Rattle.reading.specs.declared.Role.TheVariants as role
use Rattle.reading.specs.Events.{place, link, longest_run, str, symbol, footnote}
use Rattle.reading.specs.Machine.{View, Sheet, State, Turn, Here, view_of, rules_of, puts, put, with_inside}
use Rattle.reading.specs.Tokens.{role_of, is_caret, plain, bracket}
use Rattle.reading.specs.Atoms.{dashes, dots, autolinked, named}
use Rattle.reading.specs.Verbatim.{opens_verbatim, in_verbatim, moved_on, flag_of, ended_at}
use Rattle.reading.specs.Containers.{container}
use Rattle.reading.specs.Looks.{seeks_by, look, seeking}
use Rattle.reading.specs.Blocks.{block_at, everywhere}

abbrev pub with_refused : Option Place → State → State
with_refused r s =
    record {
      queue = s.queue;
      openers = s.openers;
      inside = s.inside;
      last = s.last;
      labels = s.labels;
      fits = s.fits;
      links = s.links;
      refused = r;
      looks = s.looks;
    }

-- an attribute block: the sheet is refused, and no later step is taken
abbrev pub refuse : ℕ → State → State
refuse at s = with_refused (Some (place at)) s

-- `<`: an autolink if the scan accepts (Djot: an address in angle brackets); else as any token
unfoldable pub angle : Sheet → View → Here → Option ℕ → State → Turn
angle x v h (Some n) s = autolinked v h n s
angle x v h None s = container x v h (plain str) s

-- `:`: a symbol if the scan accepts (Djot: a name between colons)
unfoldable pub colon : Sheet → View → Here → Option ℕ → State → Turn
colon x v h (Some n) s = named symbol v h n s
colon x v h None s = container x v h (plain str) s

-- `[^`: a footnote reference if the scan accepts; otherwise it is one two-byte opener
unfoldable pub noted : Sheet → View → Here → Option ℕ → State → Turn
noted x v h (Some n) s = named footnote v h n s
noted x v h None s = container x v h bracket s

-- `[`: the next token is peeked at; with `^` behind it, and not `^}`, the two are one token
unfoldable pub bracketed : Sheet → View → Here → Lexed → Option Token → State → Turn
bracketed x v h p None s = container x v (record { from = h.from; to = h.to; cursor = p.cursor }) bracket s
bracketed x v h p (Some t) s =
    elim (is_caret (role_of t.kind)) [
      | true ↦ let j = h.to + t.len in
          noted x v (record { from = h.from; to = j; cursor = (next_of v.bytes p.cursor).cursor }) (footnote_of (drop j v.bytes)) s
      | false ↦ container x v (record { from = h.from; to = h.to; cursor = p.cursor }) bracket s
    ]

-- `{`, bare: refused if an attribute block stands there; else as any token that opens and closes nothing
unfoldable pub braced : Sheet → View → Here → Bool → State → Turn
braced x v h true s = record { cursor = h.cursor; state = refuse (v.base + h.from) s }
braced x v h false s = container x v h (plain str) s

-- a token outside verbatim. A run of more than 255 backticks is Str; each three periods are an ellipsis; two and more hyphens are dashes
unfoldable pub outside : Sheet → View → Here → Role → State → Turn
outside x v h role.Backticks s = elim (leb (h.to - h.from) longest_run) [ true ↦ opens_verbatim v h s | false ↦ container x v h (plain str) s ]
outside x v h role.Brace s = braced x v h (x.block (v.base + h.from)) s
outside x v h role.Lt s = angle x v h (autolink_of (drop h.to v.bytes)) s
outside x v h role.Colon s = colon x v h (symbol_of (drop h.to v.bytes)) s
outside x v h role.Bracket s = let p = peek_of v.bytes h.cursor in bracketed x v h p p.token s
outside x v h role.Paren s = container x v h (plain str) s
outside x v h role.Periods s = record { cursor = h.cursor; state = dots v h.from (h.to - h.from) s }
outside x v h role.Hyphens s =
    elim (ltb (h.to - h.from) 2) [
      | true ↦ container x v h (plain str) s
      | false ↦ record { cursor = h.cursor; state = puts (dashes (dashes_of (h.to - h.from)) (v.base + h.from)) None s }
    ]
outside x v h (role.Other m) s = container x v h m s

-- the same, with what it looks at
abbrev pub outside_looking : Sheet → View → Here → Role → State → Turn
outside_looking x v h r s = outside x v h r (look (seeks_by v h r) s)

-- a token, inside verbatim or outside
unfoldable pub by_place : Sheet → View → Here → Token → Option Verbatim → State → Turn
by_place x v h t None s = outside x v h (role_of t.kind) (seeking v h t s)
by_place x v h t (Some w) s = in_verbatim x.rules v h t w s

-- where a token stands that was taken at a cursor
abbrev pub here_at : Cursor → Token → Cursor → Here
here_at c t behind = record { from = c.pos; to = c.pos + t.len; cursor = behind }

-- at the end of the line nothing changes
unfoldable pub on_token : Sheet → View → Turn → Option Token → Cursor → Turn
on_token x v a None c = a
on_token x v a (Some t) c = by_place x v (here_at a.cursor t c) t a.state.inside a.state

-- one step: the next token of the line
abbrev pub step : Sheet → View → Turn → Turn
step x v a = let l = next_of v.bytes a.cursor in on_token x v a l.token l.cursor

-- one of two, by whether the sheet is refused
unfoldable pub unless : {A : Type 0} → Option Place → A → A → A
unless (Some p) a b = a
unless None a b = b

-- so many steps, or up to an attribute block
unfoldable pub steps : ℕ → Sheet → View → Turn → Turn
steps zero x v a = a
steps (suc n) x v a = unless a.state.refused a (steps n x v (step x v a))

-- a new line: a fresh cursor, no escape pending
abbrev pub begun : Sheet → View → State → Turn
begun x v s =
    record {
      cursor = fresh_of 0 (flag_of x.rules s.inside);
      state = with_inside (moved_on s.inside) s;
    }

-- a line: as many steps as it has bytes, since each takes one at least
abbrev pub line : Sheet → View → State → State
line x v s = (steps (length v.bytes) x v (begun x v s)).state

-- all lines
unfoldable pub lines : Sheet → List View → State → State
lines x [] s = s
lines x (v ∷ vs) s = lines x vs (line x v s)

-- nothing is queued, open or refused at first
abbrev pub start : State
start =
    record {
      queue = [];
      openers = [];
      inside = None;
      last = None;
      labels = [];
      fits = true;
      links = link 0;
      refused = None;
      looks = 0;
    }

-- the last line's end
unfoldable pub end_of : List Line → ℕ → ℕ
end_of [] a = a
end_of (l ∷ ls) a = end_of ls l.end

abbrev pub views : List ℕ → List Line → List View
views text ls = map (view_of text) ls

-- a sheet of a text in a reading, with a label room of so many bytes, and with blocks at some places
abbrev pub sheet_with : (ℕ → Bool) → List ℕ → ℕ → ℕ → Sheet
sheet_with block text reading room = record { rules = rules_of reading; text = text; room = room; block = block }

-- the sheet that some lines of a text are
abbrev pub sheet : List ℕ → List Line → ℕ → ℕ → Sheet
sheet text ls reading room = sheet_with (block_at (views text ls)) text reading room

-- where no brace has been asked: a block is taken to stand at each, so that the reading stops there
abbrev pub unasked : List ℕ → ℕ → ℕ → Sheet
unasked text reading room = sheet_with everywhere text reading room

-- behind such a stop at the brace at p, if no block stands there: the brace is Str, and the line goes on
abbrev pub resumed : View → ℕ → Turn → Turn
resumed v p a = record { cursor = a.cursor; state = put v str (p - v.base) a.cursor.pos (with_refused None a.state) }

-- what the lines of a sheet give: all lines, and the end
abbrev pub read : Sheet → List Line → State
read x ls =
    let s = lines x (views x.text ls) start in
    ended_at (end_of ls 0) s.inside s

-- the state at any moment before the end: behind i lines and j steps
unfoldable pub during : ℕ → Sheet → List View → State → State
during j x [] s = s
during j x (v ∷ vs) s = (steps j x v (begun x v s)).state

abbrev pub moment : Sheet → List Line → ℕ → ℕ → State
moment x ls i j = during j x (views x.text (drop i ls)) (lines x (views x.text (take i ls)) start)
