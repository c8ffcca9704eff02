-- The lines of a text, by its pieces up to a newline.
use Rattle.std.proofs.Common.{◌≡◌, ℕ, zero, suc, ◌+◌, ◌≤◌, ◌<◌, min, subst, List, [], ◌∷◌, ◌++◌, length, take, set, append-nil, append_assoc, add-one, add-suc, suc-add}
use Rattle.std.proofs.Math.Seq.{take-suc-set}
use Rattle.std.proofs.lemmas.List.{nil_from_length}
use Rattle.std.specs.List.{IsFirstMatchOrLen}
use borrow.Author.Tests.{lt-ltb, le-ltb}
use lib.Dec.{eqb}
use native.Mathlib.Omega.{arith}
use Rattle.reading.specs.declared.Line.{Line}
use Rattle.input.specs.Lines.{lines_from}

-- x is the front of w up to its first newline, which is at i, or all of it
abbrev Piece : List ℕ → List ℕ → ℕ → Type 0
Piece w x i = (0 < length w) × (length x ≡ min (i + 1) (length w)) × IsFirstMatchOrLen (λ b. eqb b 10) w i

-- the lines from a place on, in a line that began at `from`, are that front and those behind it
first_line : (from at : ℕ) (x rest : List ℕ) (i : ℕ) → from ≤ at → Piece (x ++ rest) x i → lines_from from at (x ++ rest) ≡ record { start = from; end = at + length x } ∷ lines_from (at + length x) (at + length x) rest
unfolding lines_from
first_line from at [] rest i l h = absurd (omega (arith, h.0, h.1))
first_line from at (b ∷ []) rest zero l h = rw (lines_from, h.2.1 h.0 0, add-one)
first_line from at (b ∷ []) [] (suc i) l h = rw (lines_from, h.2.0 0 0 (omega arith) (omega arith), lt-ltb from (suc at) (omega arith), add-one, le-ltb (suc at) (suc at) (omega arith))
first_line from at (b ∷ []) (c ∷ rest) (suc i) l h = absurd (omega (arith, h.1))
first_line from at (b ∷ c ∷ x) rest zero l h = absurd (omega (arith, h.1))
first_line from at (b ∷ c ∷ x) rest (suc i) l h =
    rw (lines_from, h.2.0 0 0 (omega arith) (omega arith), add-suc, first_line from (suc at) (c ∷ x) rest i (omega arith) (omega arith, omega (arith, h.1), ((λ k d m n. h.2.0 (suc k) d (omega arith) (omega arith)), λ m. h.2.1 (omega arith))), suc-add, add-suc)

-- so one more line is put behind n others, and behind the last piece there is none
module _ (room : List Line) (n from : ℕ) (w : List ℕ) where
  pub put_line : (x rest : List ℕ) (i : ℕ) → n < length room → w ≡ x ++ rest → Piece w x i
      → take (n + 1) (set room n (record { start = from; end = from + length x })) ++ lines_from (from + length x) (from + length x) rest ≡ take n room ++ lines_from from from w
  put_line x rest i fits is h = rw (add-one, take-suc-set room n (record { start = from; end = from + length x }) fits, append_assoc, is, first_line from from x rest i (omega arith) (subst (λ v. Piece v x i) is h))

  pub no_more : length w ≡ 0 → take n room ++ lines_from from from w ≡ take n room
  unfolding lines_from
  no_more none = rw (nil_from_length w none, lines_from, le-ltb from from (omega arith), append-nil)
