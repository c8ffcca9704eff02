-- Atoms (document 01, "Scans ahead", "Dashes and dots"): the events of an accepted scan, of hyphens and of periods.
use Rattle.std.specs.Prelude.{ℕ, zero, suc, ◌+◌, ◌*◌, List, [], ◌∷◌, ◌++◌, false, None}
use Rattle.lex.specs.Lexer.{fresh_of}
use Rattle.dash.specs.declared.Dashes.{Dashes}
use Rattle.dash.specs.Dashes.{dots_of}
use Rattle.reading.specs.declared.Event.{Event}
use Rattle.reading.specs.Events.{homed, event, in_text, enter, exit, str, ellipsis, endash, emdash, autolink}
use Rattle.reading.specs.Machine.{View, State, Turn, Here, puts, put}

-- n events of a kind, each w bytes wide, from a place on
unfoldable pub row : ℕ → ℕ → ℕ → ℕ → List Event
row kind w zero at = []
row kind w (suc n) at = event kind at (at + w) ∷ row kind w n (at + w)

-- a run of hyphens: em dashes, then en dashes
unfoldable pub dashes : Dashes → ℕ → List Event
dashes d at = row emdash 3 d.em at ++ row endash 2 d.en (at + 3 * d.em)

-- a run of n periods from the i-th byte on: each three are an ellipsis; the rest, even of no bytes, is Str
abbrev pub dots : View → ℕ → ℕ → State → State
dots v i n s =
    let k = (dots_of n).ellipses in
    put v str (i + 3 * k) (i + n) (puts (row ellipsis 3 k (v.base + i)) None s)

-- behind an accepted scan the cursor is fresh: nothing held, no escape pending, not in verbatim
abbrev pub scanned : ℕ → State → Turn
scanned j s = record { cursor = fresh_of j false; state = s }

-- `<address>` of n bytes: enter, the address as Str, exit; all three have it as their home, or stand for it
abbrev pub autolinked : View → Here → ℕ → State → Turn
autolinked v h n s =
    let a = v.base + h.to in
    let b = a + n in
    scanned (h.to + n + 1)
    (puts
    (homed (enter autolink) (in_text a b) (v.base + h.from) a ∷ event str a b ∷ homed (exit autolink) (in_text a b) b (b + 1) ∷ [])
    None s)

-- `:name:`, or `[^label]`, with n bytes between: one event, whose home they are
abbrev pub named : ℕ → View → Here → ℕ → State → Turn
named kind v h n s =
    let a = v.base + h.to in
    scanned (h.to + n + 1) (puts (homed kind (in_text a (a + n)) (v.base + h.from) (a + n + 1) ∷ []) None s)
