-- What the rules take out of the queue, or never put there: the spans that are missing in the list. `Dropping` shows that they are the dropped blanks.
use Rattle.std.specs.Prelude.{None, Option, Some}
use Prim.Native.Nat.{ℕ, zero, suc, ◌+◌}
use mathlib.Core.List.{List, [], ◌∷◌, ◌++◌, map}
use mathlib.Core.Bool.{true, false, ◌&&◌}
use lib.ListN.{length, drop}
use Rattle.lex.specs.declared.lex.Token.{Token}
use Rattle.lex.specs.declared.lex.Cursor.{Cursor}
use Rattle.lex.specs.Lexer.{next_of, peek_of}
use Rattle.reading.specs.declared.Event.{Event}
use Rattle.reading.specs.declared.Line.{Line}
use Rattle.reading.specs.declared.Verbatim.{Verbatim}
use Rattle.reading.specs.Machine.{View, Sheet, State, Turn, Here}
use Rattle.reading.specs.Verbatim.{closes, all_blank, bytes_of, skips}
use Rattle.reading.specs.Reading.{here_at, step, unless, begun, line, views, start}

-- the bytes under an event
abbrev pub span_of : Event → Line
span_of e = record { start = e.start.0; end = e.end.0 }

-- what a closing run cuts off the queue
unfoldable pub cut : Verbatim → List Event → List Event
cut w q = elim w.run [ true ↦ drop w.keep q | false ↦ [] ]

-- at a token inside a verbatim
unfoldable pub removes_at : View → Here → Token → Verbatim → State → List Line
removes_at v h t w s =
    elim (closes w h t) [
      | true ↦ map span_of (cut w s.queue)
      | false ↦ elim (all_blank (bytes_of v h) && skips w (peek_of v.bytes h.cursor).token) [
        | true ↦ record { start = v.base + h.from; end = v.base + h.to } ∷ []
        | false ↦ []
      ]
    ]

-- as the steps go
unfoldable pub removes_in : View → Here → Token → Option Verbatim → State → List Line
removes_in v h t None s = []
removes_in v h t (Some w) s = removes_at v h t w s

unfoldable pub removes_on : View → Turn → Option Token → Cursor → List Line
removes_on v a None c = []
removes_on v a (Some t) c = removes_in v (here_at a.cursor t c) t a.state.inside a.state

unfoldable pub step_removes : View → Turn → List Line
step_removes v a = let l = next_of v.bytes a.cursor in removes_on v a l.token l.cursor

unfoldable pub steps_remove : ℕ → Sheet → View → Turn → List Line
steps_remove zero x v a = []
steps_remove (suc n) x v a = unless a.state.refused [] (step_removes v a ++ steps_remove n x v (step x v a))

unfoldable pub lines_remove : Sheet → List View → State → List Line
lines_remove x [] s = []
lines_remove x (v ∷ vs) s = steps_remove (length v.bytes) x v (begun x v s) ++ lines_remove x vs (line x v s)

abbrev pub removed : Sheet → List Line → List Line
removed x ls = lines_remove x (views x.text ls) start
