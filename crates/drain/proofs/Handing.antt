-- A queue in a room that holds its events, and rows of one that does and of one that does not.
use Rattle.std.specs.Prelude.{None, Some}
use Prim.Native.Nat.{ℕ, ◌/◌}
use mathlib.Core.Path.{◌≡◌, refl}
use mathlib.Core.List.{List, [], ◌∷◌, ◌++◌}
use mathlib.Core.Bool.{true}
use borrow.Author.Tests.{leb-true}
use lib.Dec.{leb}
use lib.ListN.{length, drop}
use lib.Seq.{take_all}
use Rattle.reading.specs.declared.Event.{Event}
use Rattle.reading.specs.Events.{event, str, softbreak, event_numbers}
use Rattle.reading.specs.Draining.{flushed, drained, drain}
use Rattle.reading.specs.Located.{located, line_of}
use Rattle.reading.specs.Questions.{numbers}
use Rattle.drain.specs.Handing.{answered, plain, handed}

-- all of them stand in the room
pub handed-all : (es : List Event) (room : List ℕ) → leb (length es) (length room / event_numbers) ≡ true
    → handed es room ≡ plain es ++ drop (length (plain es)) room
unfolding handed
handed-all es room h = rw (take_all (length room / event_numbers) es (leb-true (length es) (length room / event_numbers) h))

-- two Str that touch, a break, and an empty Str
abbrev sample : List Event
sample = event str 0 2 ∷ event str 2 5 ∷ event softbreak 5 6 ∷ event str 6 6 ∷ []

sample-held : handed (drain sample) (9 ∷ 9 ∷ 9 ∷ 9 ∷ 9 ∷ 9 ∷ 9 ∷ 9 ∷ 9 ∷ 9 ∷ 9 ∷ 9 ∷ 9 ∷ 9 ∷ 9 ∷ 9 ∷ 9 ∷ [])
    ≡ 1 ∷ 0 ∷ 5 ∷ 0 ∷ 0 ∷ 0 ∷ 0 ∷ 0 ∷ 2 ∷ 5 ∷ 6 ∷ 0 ∷ 0 ∷ 0 ∷ 0 ∷ 0 ∷ 9 ∷ []
unfolding flushed drained numbers located line_of handed
sample-held = refl

sample-counted : answered (length (drain sample)) (17 / event_numbers) ≡ Some 2
unfolding flushed drained answered
sample-counted = refl

sample-cut : handed (drain sample) (9 ∷ 9 ∷ 9 ∷ 9 ∷ 9 ∷ 9 ∷ 9 ∷ 9 ∷ 9 ∷ []) ≡ 1 ∷ 0 ∷ 5 ∷ 0 ∷ 0 ∷ 0 ∷ 0 ∷ 0 ∷ 9 ∷ []
unfolding flushed drained numbers located line_of handed
sample-cut = refl

sample-full : answered (length (drain sample)) (9 / event_numbers) ≡ None
unfolding flushed drained answered
sample-full = refl
