-- What the margin may touch (document 02, L7): where two texts are to agree, and the links whose labels may differ.
use Rattle.std.specs.Prelude.{ℕ, zero, suc, ◌≤◌, ◌<◌, ◌≡◌, List, [], ◌∷◌, ◌++◌, true, false, eqb, ◌⊎◌, length, get_or, drop}
use Rattle.reading.specs.declared.Line.{Line}
use Rattle.reading.specs.declared.Event.{Event}
use Rattle.reading.specs.Machine.{View, Sheet, State, Turn}
use Rattle.reading.specs.Reading.{step, unless, begun, line, views, start}
use Rattle.reading.specs.Walked.{Of}

-- "all fed lines and the single byte before each line": a byte of one of some lines, or the one before it
unfoldable pub Seen : List Line → ℕ → Type 0
Seen [] i = ⊥
Seen (l ∷ ls) i = ((l.start ≤ suc i) × (i < l.end)) ⊎ Seen ls i

-- two texts of equal length that agree there
pub record Agree (t u : List ℕ) (ls : List Line) : Type 0 where
  pub long : length t ≡ length u
  pub bytes : (i : ℕ) → Seen ls i → get_or t i 0 ≡ get_or u i 0

-- A link that closes takes its destination's events off the queue, from that of the destination's opener on: the events of the destination are those behind it.
-- A step closes a link where one more is counted
unfoldable pub destination : State → State → List (List Event)
destination s r = elim (eqb r.links.0 s.links.0) [ true ↦ [] | false ↦ drop (suc (length r.queue)) s.queue ∷ [] ]

-- so many steps of a line
unfoldable pub steps_close : ℕ → Sheet → View → Turn → List (List Event)
steps_close zero x v a = []
steps_close (suc n) x v a = unless a.state.refused [] (destination a.state (step x v a).state ++ steps_close n x v (step x v a))

-- and the lines
unfoldable pub lines_close : Sheet → List View → State → List (List Event)
lines_close x [] s = []
lines_close x (v ∷ vs) s = steps_close (length v.bytes) x v (begun x v s) ++ lines_close x vs (line x v s)

-- the destinations of a sheet's links, in the order in which these close: that of link number n is at place n
abbrev pub destinations : Sheet → List Line → List (List Event)
destinations x ls = lines_close x (views x.text ls) start

-- a byte is under the span of one of some events
unfoldable pub Spanned : ℕ → List Event → Type 0
Spanned i [] = ⊥
Spanned i (e ∷ es) = ((e.start.0 ≤ i) × (i < e.end.0)) ⊎ Spanned i es

-- no event of the destination of link number n spans a byte between two lines; where one does, the link's label may differ
abbrev pub Within : Sheet → List Line → ℕ → Type 0
Within x ls n = (i : ℕ) → Spanned i (get_or (destinations x ls) n []) → Of ls i
