-- Sheets of document 01 and others, as text and events, with the fragment that document 02 gives them. `Rows` proves all by one computed statement.
use Rattle.std.specs.Prelude.{ℕ, List, [], ◌∷◌, ◌++◌}
use Prim.Native.String.{String}
use Rattle.classes.specs.Classes.{bytes}
use Rattle.reading.specs.declared.Event.{Event}
use Rattle.reading.specs.Events.{event, homed, in_text}
use Rattle.markup.specs.Markup.{fragment}

pub record Sheet : Type 0 where
  pub text : String
  pub events : List Event
  pub writes : List ℕ

abbrev given : String → List Event → List ℕ → Sheet
given text es bs = record { text = text; events = es; writes = bs }

unfoldable pub worked : List Sheet
unfolding bytes
worked =
    given "" [] []
    ∷ given "*a*" (event 38 0 1 ∷ event 1 1 2 ∷ event 70 2 3 ∷ []) (bytes "<strong>a</strong>")
    ∷ given "`" (event 40 0 1 ∷ event 72 1 1 ∷ []) (bytes "<code></code>")
    ∷ given "::" (homed 13 (in_text 1 1) 0 2 ∷ []) (bytes "::")
    ∷ given "-----" (event 8 0 3 ∷ event 7 3 5 ∷ []) (226 ∷ 128 ∷ 148 ∷ 226 ∷ 128 ∷ 147 ∷ [])
    ∷ given "...." (event 6 0 3 ∷ event 1 3 4 ∷ []) (226 ∷ 128 ∷ 166 ∷ bytes ".")
    ∷ given "`` `a` ``" (event 40 0 2 ∷ event 1 3 6 ∷ event 72 7 9 ∷ []) (bytes "<code>`a`</code>")
    ∷ given "a<b>&c" (event 1 0 6 ∷ []) (bytes "a&lt;b&gt;&amp;c")
    ∷ given "`<i>`{=html}b" (homed 41 (in_text 7 11) 0 1 ∷ event 1 1 4 ∷ homed 73 (in_text 7 11) 4 12 ∷ event 1 12 13 ∷ []) (bytes "b")
    ∷ given "\\*a" (event 4 0 1 ∷ event 1 1 3 ∷ []) (bytes "*a")
    ∷ given "a\\\nb\nc" (event 1 0 1 ∷ event 3 1 3 ∷ event 1 3 4 ∷ event 2 4 5 ∷ event 1 5 6 ∷ []) (bytes "a<br>\nb\nc")
    ∷ given "$`x`" (event 42 0 2 ∷ event 1 2 3 ∷ event 74 3 4 ∷ []) (bytes "<span class=\"math inline\">\\(x\\)</span>")
    ∷ given "\"a\\ b\"" (event 11 0 1 ∷ event 1 1 2 ∷ event 5 2 4 ∷ event 1 4 5 ∷ event 12 5 6 ∷ [])
    (226 ∷ 128 ∷ 156 ∷ bytes "a" ++ 194 ∷ 160 ∷ bytes "b" ++ 226 ∷ 128 ∷ 157 ∷ [])
    ∷ []

abbrev pub found : Sheet → List ℕ
found s = fragment (bytes s.text) s.events

abbrev pub expected : Sheet → List ℕ
expected s = s.writes
