-- The lookup of a label (document 01, "Labels"): the bytes of an event's home, from the text or from the label room.
use Rattle.std.specs.Prelude.{ℕ, ◌+◌, ◌-◌, List, [], true, false, ◌&&◌, leb, eqb, length, take, drop, Option, Some, None}
use Rattle.reading.specs.Events.{home_text, home_labels}
use Rattle.lookup.specs.declared.Source.{Source}
use Rattle.lookup.specs.declared.Source.TheVariants.{Text, Labels}

-- the number of the home
abbrev pub number_of : Source → ℕ
number_of Text = home_text
number_of Labels = home_labels

-- a source of n bytes, if the range from a to before b lies in it
abbrev pub within : Source → ℕ → ℕ → ℕ → Option Source
within s n a b = elim (leb a b && leb b n) [ true ↦ Some s | false ↦ None ]

-- home 1 is a text of n bytes, 2 a label room of m bytes; an impossible home or range is none
abbrev pub source_in : ℕ → ℕ → ℕ → ℕ → ℕ → Option Source
source_in n m home a b =
    elim (eqb home home_text) [
      | true ↦ within Text n a b
      | false ↦ elim (eqb home home_labels) [ true ↦ within Labels m a b | false ↦ None ]
    ]

-- the bytes from a to before b
abbrev part : List ℕ → ℕ → ℕ → List ℕ
part bytes a b = take (b - a) (drop a bytes)

abbrev pub part_in : Option Source → List ℕ → List ℕ → ℕ → ℕ → List ℕ
part_in (Some Text) text labels a b = part text a b
part_in (Some Labels) text labels a b = part labels a b
part_in None text labels a b = []

-- a part of whichever is the home; an impossible home or range gives an empty part
abbrev pub label_of : List ℕ → List ℕ → ℕ → ℕ → ℕ → List ℕ
label_of text labels home a b = part_in (source_in (length text) (length labels) home a b) text labels a b

-- where such a part stands, by where the text and the label room stand: a block, and a place in it
abbrev pub stands_in : Option Source → ℕ × ℕ → ℕ × ℕ → ℕ → ℕ × ℕ
stands_in (Some Text) text labels a = (text.0, a + text.1)
stands_in (Some Labels) text labels a = (labels.0, a + labels.1)
stands_in None text labels a = text
