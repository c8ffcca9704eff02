-- Where an attribute block stands (document 02, L2): a validator, fresh at each brace, is fed from the brace to its line's end, then the later lines
-- whole, and never what lies between lines. A block stands there if it reaches its done state; not if it meets its invalid state or runs out of lines.
use Rattle.std.specs.Prelude.{ℕ, ◌-◌, List, [], ◌∷◌, ◌++◌, Bool, true, drop}
use Rattle.attr.specs.Attributes.{block}
use Rattle.reading.specs.Machine.{View}

-- the bytes of some lines from a place on: none of the lines before it, and the later ones whole
unfoldable pub bytes_from : ℕ → List View → List ℕ
bytes_from p [] = []
bytes_from p (v ∷ vs) = drop (p - v.base) v.bytes ++ bytes_from p vs

unfoldable pub block_at : List View → ℕ → Bool
block_at vs p = block (bytes_from p vs)

abbrev pub everywhere : ℕ → Bool
everywhere p = true
