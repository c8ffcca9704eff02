-- Byte classes (document 01, "Byte classes"): what the bytes of a line are, by themselves.
use Rattle.std.specs.Prelude.{ℕ, ◌+◌, ◌*◌, ◌/◌, ◌%◌, ◌<◌, ◌≡◌, List, [], ◌∷◌, Bool, true, false, not, ◌&&◌, ◌||◌, leb, eqb, length, get_or}
use Prim.Native.Char.{code}
use Prim.Native.String.{String, [] as []ˢ, ◌∷◌ as ◌∷ˢ◌}

-- the bytes of a text of ASCII
unfoldable pub bytes : String → List ℕ
bytes []ˢ = []
bytes (c ∷ˢ s) = code c ∷ bytes s

-- one of some bytes
unfoldable pub among : List ℕ → ℕ → Bool
among [] b = false
among (k ∷ ks) b = eqb b k || among ks b

-- from one byte to another, both included
abbrev between : ℕ → ℕ → ℕ → Bool
between lo hi b = leb lo b && leb b hi

-- begins something other than text, or may: `is_special`
unfoldable pub special : ℕ → Bool
unfolding bytes among
special b = among (bytes "\\[](){}*^=+~_'\"-!<|:`.\n") b

-- `is_ascii_whitespace`: space, tab, line feed, form feed, carriage return; vertical tab is not blank
unfoldable pub blank : ℕ → Bool
unfolding bytes among
blank b = among (bytes " \t\n\u{c}\r") b

-- letters and digits of ASCII
unfoldable pub alphanumeric : ℕ → Bool
alphanumeric b = between (code "0") (code "9") b || between (code "A") (code "Z") b || between (code "a") (code "z") b

-- `is_ascii_punctuation`: the other characters of ASCII that are seen
unfoldable pub punctuation : ℕ → Bool
unfolding alphanumeric
punctuation b = between (code "!") (code "~") b && not (alphanumeric b)

-- 1 for yes, 0 for no
abbrev pub bit : Bool → ℕ
bit true = 1
bit false = 0

-- the flags of a byte as one number: 1 special, 2 blank, 4 punctuation, 8 alphanumeric
unfoldable pub class_of : ℕ → ℕ
unfolding special blank punctuation alphanumeric
class_of b = bit (special b) + 2 * bit (blank b) + 4 * bit (punctuation b) + 8 * bit (alphanumeric b)

-- one flag of a byte
abbrev pub flagged : ℕ → ℕ → Bool
flagged v b = eqb (class_of b / v % 2) 1

-- a table that has the flags of every byte
pub record Ruled (table : List ℕ) : Type 0 where
  pub size : length table ≡ 256
  pub rule : (b : ℕ) → b < length table → get_or table b 0 ≡ class_of b
