-- The cursors that a lexer of a line can have: what functions over tokens ask of a cursor.
use Rattle.std.specs.Prelude.{ℕ, ◌≤◌, ◌≡◌, List, length, drop, Some}
use Rattle.lex.specs.declared.lex.Token.{Token}
use Rattle.lex.specs.declared.lex.Cursor.{Cursor}

-- a length within some bytes
pub record Sized (n : ℕ) (s : List ℕ) : Type 0 where
  pub some : 1 ≤ n
  pub within : n ≤ length s

-- a cursor whose place lies within the line, and whose held token has a byte at least and lies within it: every cursor that the lexer gives
pub record Sound (src : List ℕ) (c : Cursor) : Type 0 where
  pub place : c.pos ≤ length src
  pub held : (t : Token) → c.next ≡ Some t → Sized t.len (drop c.pos src)
