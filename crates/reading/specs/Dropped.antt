-- Dropped blanks (document 01, "Verbatim" and "Walked events"): which blanks the verbatim rule drops, by the tokens alone. Nothing is asked of
-- the queue, nor of what the reading notes of an open verbatim but the length of its run.
use Rattle.std.specs.Prelude.{ℕ, zero, suc, ◌+◌, ◌-◌, List, [], ◌∷◌, ◌++◌, Bool, true, false, not, ◌&&◌, eqb, length, Option, Some, None}
use Rattle.reading.specs.declared.Verbatim.{Verbatim}
use Rattle.lex.specs.declared.lex.Token.{Token}
use Rattle.lex.specs.declared.lex.Cursor.{Cursor}
use Rattle.lex.specs.Lexer.{next_of, peek_of}
use Rattle.reading.specs.declared.Line.{Line}
use Rattle.reading.specs.Machine.{View, Sheet, State, Turn, Here}
use Rattle.reading.specs.Tokens.{role_of, is_run}
use Rattle.reading.specs.Verbatim.{all_blank, bytes_of}
use Rattle.reading.specs.Reading.{here_at, step, unless, begun, line, views, start}

-- the content of a verbatim so far: whether there was a token that is not blank, whether the last such was a backtick run, and the blank tokens since
-- then (or, before the first, all that were not dropped)
pub record Content : Type 0 where
  pub seen : Bool
  pub run : Bool
  pub blanks : List Line

abbrev pub no_content : Content
no_content = record { seen = false; run = false; blanks = [] }

-- the bytes of a token, in the text
abbrev pub token_at : View → Here → Line
token_at v h = record { start = v.base + h.from; end = v.base + h.to }

-- a run as long as the opener's, of n backticks, closes
abbrev pub ends : ℕ → Here → Token → Bool
ends n h t = is_run (role_of t.kind) && eqb (h.to - h.from) n

-- a run of another length
unfoldable pub longer_or_shorter : ℕ → Option Token → Bool
longer_or_shorter n None = false
longer_or_shorter n (Some t) = is_run (role_of t.kind) && not (eqb t.len n)

-- before the first content that is not blank, with a backtick run of another length as the next token of the line: a blank token there is dropped
abbrev pub leads : View → Here → ℕ → Content → Bool
leads v h n c = not c.seen && longer_or_shorter n (peek_of v.bytes h.cursor).token

-- on closing, the blanks after the last content that is not blank, if that was a backtick run
unfoldable pub trailing : Content → List Line
trailing c = elim c.run [ true ↦ c.blanks | false ↦ [] ]

-- what is dropped at a token of a verbatim
unfoldable pub drops_at : View → Here → Token → ℕ → Content → List Line
drops_at v h t n c =
    elim (ends n h t) [
      | true ↦ trailing c
      | false ↦ elim (all_blank (bytes_of v h) && leads v h n c) [ true ↦ token_at v h ∷ [] | false ↦ [] ]
    ]

-- the content with it
unfoldable pub content_with : View → Here → Token → ℕ → Content → Content
content_with v h t n c =
    elim (all_blank (bytes_of v h)) [
      | true ↦ elim (leads v h n c) [ true ↦ c | false ↦ record { seen = c.seen; run = c.run; blanks = c.blanks ++ (token_at v h ∷ []) } ]
      | false ↦ record { seen = true; run = is_run (role_of t.kind); blanks = [] }
    ]

-- outside verbatim nothing is dropped, and what opens has no content yet
unfoldable pub drops_in : View → Here → Token → Option Verbatim → Content → List Line
drops_in v h t None c = []
drops_in v h t (Some w) c = drops_at v h t w.len c

unfoldable pub content_in : View → Here → Token → Option Verbatim → Content → Content
content_in v h t None c = no_content
content_in v h t (Some w) c = content_with v h t w.len c

-- at the next token of the line
unfoldable pub drops_on : View → Turn → Option Token → Cursor → Content → List Line
drops_on v a None k c = []
drops_on v a (Some t) k c = drops_in v (here_at a.cursor t k) t a.state.inside c

unfoldable pub content_on : View → Turn → Option Token → Cursor → Content → Content
content_on v a None k c = c
content_on v a (Some t) k c = content_in v (here_at a.cursor t k) t a.state.inside c

abbrev pub step_drops : View → Turn → Content → List Line
step_drops v a c = let l = next_of v.bytes a.cursor in drops_on v a l.token l.cursor c

abbrev pub step_content : View → Turn → Content → Content
step_content v a c = let l = next_of v.bytes a.cursor in content_on v a l.token l.cursor c

-- over so many steps of a line
unfoldable pub steps_drop : ℕ → Sheet → View → Turn → Content → List Line
steps_drop zero x v a c = []
steps_drop (suc n) x v a c = unless a.state.refused [] (step_drops v a c ++ steps_drop n x v (step x v a) (step_content v a c))

unfoldable pub steps_content : ℕ → Sheet → View → Turn → Content → Content
steps_content zero x v a c = c
steps_content (suc n) x v a c = unless a.state.refused c (steps_content n x v (step x v a) (step_content v a c))

-- and over the lines; a verbatim goes on from line to line
unfoldable pub lines_drop : Sheet → List View → State → Content → List Line
lines_drop x [] s c = []
lines_drop x (v ∷ vs) s c =
    let a = begun x v s in
    steps_drop (length v.bytes) x v a c ++ lines_drop x vs (line x v s) (steps_content (length v.bytes) x v a c)

-- the blanks that a sheet drops
abbrev pub dropped : Sheet → List Line → List Line
dropped x ls = lines_drop x (views x.text ls) start no_content
