-- The laws of the numbers of sorts.
use mathlib.Core.Path.{◌≡◌, refl}
use Rattle.reading.specs.declared.Sort.{Sort}
use Rattle.reading.specs.declared.Sort.TheVariants as sort
use Rattle.reading.specs.Sorts.{sorts, number, sort_at}

-- a sort is that of its number
pub sort-number : (s : Sort) → sort_at (number s) ≡ s
unfolding sorts number sort_at
sort-number sort.Span = refl
sort-number sort.Image = refl
sort-number sort.Strong = refl
sort-number sort.BraceStrong = refl
sort-number sort.Emphasis = refl
sort-number sort.BraceEmphasis = refl
sort-number sort.Superscript = refl
sort-number sort.BraceSuperscript = refl
sort-number sort.Subscript = refl
sort-number sort.BraceSubscript = refl
sort-number sort.Mark = refl
sort-number sort.Delete = refl
sort-number sort.Insert = refl
sort-number sort.SingleQuoted = refl
sort-number sort.DoubleQuoted = refl
sort-number sort.ReferenceLink = refl
sort-number sort.ReferenceImage = refl
sort-number sort.InlineLink = refl
sort-number sort.InlineImage = refl
