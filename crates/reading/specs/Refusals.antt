-- The refusals (document 01, "Questions asked of a sheet, in order"): the number of the first question that is answered no, and the place.
use Rattle.std.specs.Prelude.{ℕ}
use Rattle.reading.specs.declared.Answer.{Answer}
use Rattle.reading.specs.declared.refusal.Refusal.{Refusal}
use Rattle.reading.specs.declared.refusal.Refusal.TheVariants.{Reading, TooLarge, Outside, Early, QueueRoom, OpenerRoom, Brace, LabelRoom, EventRoom}
use Rattle.reading.specs.Questions.{refusal}

-- the number
abbrev pub code_of : Refusal → ℕ
code_of Reading = 1
code_of TooLarge = 2
code_of (Outside i) = 3
code_of (Early i) = 4
code_of QueueRoom = 5
code_of OpenerRoom = 6
code_of (Brace at) = 7
code_of LabelRoom = 8
code_of EventRoom = 9

-- the index of the line, or the place of the brace
abbrev pub place_of : Refusal → ℕ
place_of Reading = 0
place_of TooLarge = 0
place_of (Outside i) = i
place_of (Early i) = i
place_of QueueRoom = 0
place_of OpenerRoom = 0
place_of (Brace at) = at.0
place_of LabelRoom = 0
place_of EventRoom = 0

-- nothing is handed out
abbrev pub answer_of : Refusal → Answer
answer_of r = refusal (code_of r) (place_of r)
