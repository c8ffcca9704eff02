-- What `./fragment` writes (document 02, L1): the fragment of a sheet, or why there is none.
use Rattle.std.specs.Prelude.{ℕ, List, length, take, replicate, nat_lt, if◌then◌else◌}
use Rattle.verdict.specs.declared.FragmentAnswer.{FragmentAnswer}
use Rattle.verdict.specs.Fragments.{Fragmented, fragmented}
use Rattle.printing.specs.Printed.{Written, on_errors, answered, over_line}
use Rattle.input.specs.Lines.{text_lines}
use Rattle.input.specs.Rooms.{sheet_rooms}
use Rattle.page.specs.Refused.{refusal_text}

-- of an answer, and the output room
abbrev pub answer_text : FragmentAnswer → List ℕ → Written
answer_text a out = answered a.code a.place (refusal_text a.code) (take a.length out)

-- of a sheet, in some output room
abbrev pub fragment_text : Fragmented → Written
fragment_text f = answer_text f.answer f.out

abbrev pub page_within : List ℕ → List ℕ → Written
page_within text out = fragment_text (fragmented text (text_lines text) 0 sheet_rooms out)

-- in one of 34,029 bytes
unfoldable pub page_text : List ℕ → Written
page_text text = page_within text (replicate 34029 0)

-- of an input, of which at most 1,000 bytes are a sheet
abbrev pub paged : List ℕ → Written
paged input = if nat_lt (length input) 1001 then page_text input else on_errors (over_line 1000)
