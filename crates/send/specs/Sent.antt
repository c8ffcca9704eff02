-- What `./pack` writes (document 02, L4). The packed list of a sheet: the reader's refusal, the output being as it was; or the list of the events that are handed out.
use Rattle.std.specs.Prelude.{ℕ, ◌*◌, List, true, false, eqb, length, take, replicate, nat_lt, if◌then◌else◌}
use Rattle.reading.specs.Events.{event_numbers}
use Rattle.reading.specs.Questions.{Outcome, outcome}
use Rattle.packed.specs.declared.PackedAnswer.{PackedAnswer}
use Rattle.packed.specs.Calls.{Call, call, refusal, packing}
use Rattle.printing.specs.Printed.{Written, on_errors, answered, reader_refusal, over_line}
use Rattle.input.specs.Lines.{text_lines}
use Rattle.input.specs.Rooms.{sheet_rooms}

unfoldable pub sent : Outcome → List ℕ → Call
sent o out =
    elim (eqb o.answer.code 0) [
      | true ↦ packing (take (o.answer.events * event_numbers) o.rooms.events) out
      | false ↦ call (refusal o.answer.code o.answer.place) out
    ]

-- the bytes of a list, or why there is none
abbrev pub answer_text : PackedAnswer → List ℕ → Written
answer_text a out = answered a.code a.place (reader_refusal a.code) (take a.count out)

abbrev pub call_text : Call → Written
call_text c = answer_text c.answer c.room

-- of a sheet, by way of an output room
abbrev pub packed_within : List ℕ → List ℕ → Written
packed_within text out = call_text (sent (outcome text (text_lines text) 0 sheet_rooms) out)

-- in one of 32,037 bytes
unfoldable pub packed_text : List ℕ → Written
packed_text text = packed_within text (replicate 32037 0)

-- of an input, of which at most 1,000 bytes are a sheet
abbrev pub sent_text : List ℕ → Written
sent_text input = if nat_lt (length input) 1001 then packed_text input else on_errors (over_line 1000)
