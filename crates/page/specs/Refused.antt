-- Why a sheet has no fragment, in plain words.
use Rattle.std.specs.Prelude.{ℕ, ◌==◌, List, codes, if◌then◌else◌}
use Rattle.printing.specs.Printed.{reader_refusal}

-- what a refusal means, by its number
abbrev pub refusal_text : ℕ → List ℕ
refusal_text c =
    if c == 10
    then codes "a link, an image, an autolink or a footnote reference begins there, and a fragment has none of them"
    else (
    if c == 11
    then codes "the fragment is longer than the output room"
    else reader_refusal c
    )
