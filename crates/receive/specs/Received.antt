-- What `./unpack` writes (document 02, L4 and L5): the events of a packed list and the answer, or the answer, and why there are none.
use Rattle.std.specs.Prelude.{ℕ, ◌*◌, List, ◌++◌, length, take, replicate, codes, decimal, nat_lt, Result, Ok, Err, if◌then◌else◌}
use Rattle.reading.specs.Events.{event_numbers}
use Rattle.packed.specs.declared.PackedAnswer.{PackedAnswer}
use Rattle.packed.specs.declared.UnpackError.{UnpackError}
use Rattle.packed.specs.Calls.{Restoring, told, meaning, restored}
use Rattle.printing.specs.Printed.{Written, on_out, on_errors, events_text, refused_line, over_line}

abbrev pub answer_line : PackedAnswer → List ℕ
answer_line a = decimal a.code ++ codes " " ++ decimal a.place ++ codes " " ++ decimal a.count ++ codes "\n"

abbrev pub unpacked_text : Result ℕ UnpackError → List ℕ → Written
unpacked_text (Ok n) room = on_out (events_text (take (n * event_numbers) room) ++ answer_line (told (Ok n)))
unpacked_text (Err e) room =
    record { out = answer_line (told (Err e)); errors = refused_line (told (Err e)).code (told (Err e)).place (meaning e) }

-- of a list, by way of an event room
abbrev pub restored_text : Restoring → Written
restored_text r = unpacked_text r.answer r.room

abbrev pub list_within : List ℕ → List ℕ → Written
list_within bytes room = restored_text (restored bytes room)

-- in one of 13,107 events
unfoldable pub list_text : List ℕ → Written
list_text bytes = list_within bytes (replicate 104856 0)

-- of an input, of which at most 65,536 bytes are a list
abbrev pub received : List ℕ → Written
received input = if nat_lt (length input) 65537 then list_text input else on_errors (over_line 65536)
