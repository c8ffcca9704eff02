-- The fragment (document 02, L1): what is written of a list of events, by the text and the list alone.
use Rattle.std.specs.Prelude.{ℕ, zero, suc, ◌-◌, List, [], ◌∷◌, ◌++◌, true, false, ◌||◌, ltb, eqb}
use Prim.Native.Char.{code}
use Rattle.classes.specs.Classes.{bytes}
use Rattle.reading.specs.declared.Event.{Event}
use Rattle.reading.specs.Events.{str, softbreak, hardbreak, escape, nbsp, ellipsis, endash, emdash, left_single, right_single, left_double, right_double}
use Rattle.reading.specs.Events.{symbol, subscript, superscript, insert, delete, emphasis, strong, mark, verbatim, raw_format, inline_math, display_math}
use Rattle.reading.specs.Events.{enter_from, exit_from, enter, exit}
use Rattle.reading.specs.Labels.{part}

-- a row of a table: the bytes that are written for a number
pub record Row : Type 0 where
  pub number : ℕ
  pub bytes : List ℕ

abbrev pub row : ℕ → List ℕ → Row
row n bs = record { number = n; bytes = bs }

-- "Elements: sub, sup, ins, del, em, strong, mark, code; inline math is `<span class="math inline">\(` to `\)</span>`, display math likewise with
-- `display`, `\[` and `\]`": what a container's enter writes
unfoldable pub opening : List Row
opening =
    row subscript (bytes "<sub>")
    ∷ row superscript (bytes "<sup>")
    ∷ row insert (bytes "<ins>")
    ∷ row delete (bytes "<del>")
    ∷ row emphasis (bytes "<em>")
    ∷ row strong (bytes "<strong>")
    ∷ row mark (bytes "<mark>")
    ∷ row verbatim (bytes "<code>")
    ∷ row inline_math (bytes "<span class=\"math inline\">\\(")
    ∷ row display_math (bytes "<span class=\"math display\">\\[")
    ∷ []

-- and its exit
unfoldable pub closing : List Row
closing =
    row subscript (bytes "</sub>")
    ∷ row superscript (bytes "</sup>")
    ∷ row insert (bytes "</ins>")
    ∷ row delete (bytes "</del>")
    ∷ row emphasis (bytes "</em>")
    ∷ row strong (bytes "</strong>")
    ∷ row mark (bytes "</mark>")
    ∷ row verbatim (bytes "</code>")
    ∷ row inline_math (bytes "\\)</span>")
    ∷ row display_math (bytes "\\]</span>")
    ∷ []

-- "a hard break `<br>`"
unfoldable pub breaking : List Row
breaking = row hardbreak (bytes "<br>") ∷ []

-- "a soft break is a newline, a hard break `<br>` and a newline"; "quotes, dashes, ellipsis and no-break space are their Unicode characters in
-- UTF-8": U+00A0, U+2026, U+2013, U+2014, U+2018, U+2019, U+201C, U+201D; "Escape writes nothing"
unfoldable pub atoms : List Row
atoms =
    row softbreak (code "\n" ∷ [])
    ∷ row hardbreak (code "\n" ∷ [])
    ∷ row escape []
    ∷ row nbsp (194 ∷ 160 ∷ [])
    ∷ row ellipsis (226 ∷ 128 ∷ 166 ∷ [])
    ∷ row endash (226 ∷ 128 ∷ 147 ∷ [])
    ∷ row emdash (226 ∷ 128 ∷ 148 ∷ [])
    ∷ row left_single (226 ∷ 128 ∷ 152 ∷ [])
    ∷ row right_single (226 ∷ 128 ∷ 153 ∷ [])
    ∷ row left_double (226 ∷ 128 ∷ 156 ∷ [])
    ∷ row right_double (226 ∷ 128 ∷ 157 ∷ [])
    ∷ []

-- of a number that has no row, nothing
unfoldable pub find : ℕ → List Row → List ℕ
find n [] = []
find n (r ∷ rs) = elim (eqb n r.number) [ true ↦ r.bytes | false ↦ find n rs ]

-- what an event of a kind writes of elements
unfoldable pub tag : ℕ → List ℕ
tag kind =
    elim (ltb kind enter_from) [
      | true ↦ find kind breaking
      | false ↦ elim (ltb kind exit_from) [ true ↦ find (kind - enter_from) opening | false ↦ find (kind - exit_from) closing ]
    ]

-- the characters of an event: of a Str the bytes of its span, and so of a symbol ("symbols appear with their colons"); of another atom its own
unfoldable pub characters : List ℕ → Event → List ℕ
characters text e =
    elim (ltb e.kind enter_from) [
      | true ↦ elim (eqb e.kind str || eqb e.kind symbol) [ true ↦ part text e.start.0 e.end.0 | false ↦ find e.kind atoms ]
      | false ↦ []
    ]

-- "`&`, `<`, `>` become `&amp;`, `&lt;`, `&gt;`"
unfoldable pub entities : List Row
entities = row (code "&") (bytes "&amp;") ∷ row (code "<") (bytes "&lt;") ∷ row (code ">") (bytes "&gt;") ∷ []

-- a byte, by the entities that there are
unfoldable pub escape_by : List Row → ℕ → List ℕ
escape_by [] b = b ∷ []
escape_by (r ∷ rs) b = elim (eqb b r.number) [ true ↦ r.bytes | false ↦ escape_by rs b ]

unfoldable pub escaped : List ℕ → List ℕ
escaped [] = []
escaped (b ∷ bs) = escape_by entities b ++ escaped bs

-- what an atom writes that is neither a Str nor a symbol
abbrev pub atom : ℕ → List ℕ
atom kind = find kind breaking ++ escaped (find kind atoms)

-- what an event writes: its tag, and its characters
abbrev pub written : List ℕ → Event → List ℕ
written text e = tag e.kind ++ escaped (characters text e)

-- "raw parts are left out": how many raw parts are open behind an event of a kind, if n are before it
unfoldable pub raw_behind : ℕ → ℕ → ℕ
raw_behind n kind =
    elim (eqb kind (enter raw_format)) [
      | true ↦ suc n
      | false ↦ elim (eqb kind (exit raw_format)) [ true ↦ n - 1 | false ↦ n ]
    ]

-- nothing is written where one is open
unfoldable pub unless_raw : {A : Type 0} → ℕ → List A → List A
unless_raw zero l = l
unless_raw (suc n) l = []

-- what events give, one after the other, where n raw parts are open before them
unfoldable pub outside_raw : {A : Type 0} → (Event → List A) → ℕ → List Event → List A
outside_raw f n [] = []
outside_raw f n (e ∷ es) = unless_raw n (f e) ++ outside_raw f (raw_behind n e.kind) es

-- the fragment: what each event writes. No raw part is open at first
abbrev pub fragment : List ℕ → List Event → List ℕ
fragment text es = outside_raw (written text) 0 es
