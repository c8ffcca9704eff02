-- What the programs print: numbers and events, a line each, and why a sheet is refused.
use Rattle.std.specs.Prelude.{ℕ, zero, suc, ◌/◌, ◌==◌, List, [], ◌++◌, Option, map, length, take, drop, codes, decimal, if◌then◌else◌}
use Rattle.std.specs.Io.KnownBytes.{Appends}
use Rattle.std.specs.List.{join_with_byte}
use Prim.Native.Char.{code}
use Rattle.reading.specs.Events.{event_numbers}
use Rattle.printing.specs.declared.Ends.{Ends}

-- numbers on one line, with a blank between each two
abbrev pub numbers_line : List ℕ → List ℕ
numbers_line ns = join_with_byte (code " ") (map decimal ns) ++ codes "\n"

-- so many events, the numbers of each on a line
unfoldable pub event_lines : ℕ → List ℕ → List ℕ
event_lines zero ns = []
event_lines (suc n) ns = numbers_line (take event_numbers ns) ++ event_lines n (drop event_numbers ns)

-- all events whose numbers stand in a list
abbrev pub events_text : List ℕ → List ℕ
events_text ns = event_lines (length ns / event_numbers) ns

-- what a refusal of the reader means
abbrev pub reader_refusal : ℕ → List ℕ
reader_refusal c =
    if c == 7
    then codes "an attribute block stands there outside verbatim"
    else (
    if c == 8
    then codes "the labels of its links are longer than the label room"
    else codes "its lines or the program's rooms are not those of a sheet"
    )

-- code and place of a refusal, and what it means
abbrev pub refused_line : ℕ → ℕ → List ℕ → List ℕ
refused_line c place meaning = codes "refused " ++ decimal c ++ codes " at " ++ decimal place ++ codes ": " ++ meaning ++ codes "\n"

-- that an input is over a limit
abbrev pub over_line : ℕ → List ℕ
over_line limit = codes "input over " ++ decimal limit ++ codes " bytes\n"

-- what a program writes: on its output, and where it tells its errors
pub record Written : Type 0 where
  pub out : List ℕ
  pub errors : List ℕ

abbrev pub on_out : List ℕ → Written
on_out bs = record { out = bs; errors = [] }

abbrev pub on_errors : List ℕ → Written
on_errors bs = record { out = []; errors = bs }

-- what is answered: bytes, or why there are none
abbrev pub answered : ℕ → ℕ → List ℕ → List ℕ → Written
answered c place meaning bs = if c == 0 then on_out bs else on_errors (refused_line c place meaning)

-- that so much is written on each of the two, wherever it is known what they hold. Closed, so that
-- the check hands it on as one fact; what writes on one of the two opens it
unfoldable pub Writes : {W E : Type 0} → (W → Option (List ℕ)) → (E → Option (List ℕ)) → Ends W E → Ends W E → Written → Type 0
Writes out errors old new w = Appends (out old.out) (out new.out) w.out × Appends (errors old.errors) (errors new.errors) w.errors
