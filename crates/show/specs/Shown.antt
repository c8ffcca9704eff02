-- What `./sheet` prints (document 01, "Program"): each event and the answer, the numbers of each on a line.
use Rattle.std.specs.Prelude.{ℕ, ◌*◌, List, ◌++◌, length, take, codes, decimal, nat_lt, if◌then◌else◌}
use Rattle.reading.specs.declared.Answer.{Answer}
use Rattle.reading.specs.Events.{event_numbers}
use Rattle.reading.specs.Questions.{Outcome, outcome}
use Rattle.printing.specs.Printed.{events_text, over_line}
use Rattle.input.specs.Lines.{text_lines}
use Rattle.input.specs.Rooms.{sheet_rooms}

-- the answer; the search's length is the last of its numbers
unfoldable pub answer_line : Answer → List ℕ
answer_line a =
    (decimal a.code ++ codes " " ++ decimal a.place ++ codes " " ++ decimal a.events ++ codes " ")
    ++ (decimal a.labels ++ codes " " ++ decimal a.looks ++ codes "\n")

abbrev pub outcome_text : Outcome → List ℕ
outcome_text o = events_text (take (o.answer.events * event_numbers) o.rooms.events) ++ answer_line o.answer

-- of a sheet
unfoldable pub sheet_text : List ℕ → List ℕ
sheet_text text = outcome_text (outcome text (text_lines text) 0 sheet_rooms)

-- of an input, of which at most 1,000 bytes are a sheet
abbrev pub shown : List ℕ → List ℕ
shown input = if nat_lt (length input) 1001 then sheet_text input else over_line 1000
