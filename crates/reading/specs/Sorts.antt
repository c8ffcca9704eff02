-- The sorts of openers as numbers, in an opener's record.
use Rattle.std.specs.Prelude.{ℕ, List, [], ◌∷◌, get_or}
use Rattle.reading.specs.declared.Sort.{Sort}
use Rattle.reading.specs.declared.Sort.TheVariants as sort

-- the sorts in the order of their declaration, but for the last
unfoldable pub sorts : List Sort
sorts =
    sort.Span
    ∷ sort.Image
    ∷ sort.Strong
    ∷ sort.BraceStrong
    ∷ sort.Emphasis
    ∷ sort.BraceEmphasis
    ∷ sort.Superscript
    ∷ sort.BraceSuperscript
    ∷ sort.Subscript
    ∷ sort.BraceSubscript
    ∷ sort.Mark
    ∷ sort.Delete
    ∷ sort.Insert
    ∷ sort.SingleQuoted
    ∷ sort.DoubleQuoted
    ∷ sort.ReferenceLink
    ∷ sort.ReferenceImage
    ∷ sort.InlineLink
    ∷ []

-- the place of each in that order
unfoldable pub number : Sort → ℕ
number sort.Span = 0
number sort.Image = 1
number sort.Strong = 2
number sort.BraceStrong = 3
number sort.Emphasis = 4
number sort.BraceEmphasis = 5
number sort.Superscript = 6
number sort.BraceSuperscript = 7
number sort.Subscript = 8
number sort.BraceSubscript = 9
number sort.Mark = 10
number sort.Delete = 11
number sort.Insert = 12
number sort.SingleQuoted = 13
number sort.DoubleQuoted = 14
number sort.ReferenceLink = 15
number sort.ReferenceImage = 16
number sort.InlineLink = 17
number sort.InlineImage = 18

-- and back: 18 and every larger number is the last
unfoldable pub sort_at : ℕ → Sort
sort_at n = get_or sorts n sort.InlineImage
