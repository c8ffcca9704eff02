-- Numbers in bytes (document 02, L4): "groups of seven bits, lowest group first, high bit set on
-- all but the last group, shortest form only, at most 4,294,967,295".
use Rattle.std.specs.Prelude.{ℕ, zero, suc, ◌+◌, ◌-◌, ◌*◌, ◌/◌, ◌%◌, List, [], ◌∷◌, ◌++◌, true, false, leb, ltb, eqb, drop, Result, Ok, Err}
use Rattle.groups.specs.declared.NumberError.{NumberError}
use Rattle.groups.specs.declared.NumberError.TheVariants.{Cut, Longer, TooLarge}

-- the high bit; and so many numbers a group tells apart
abbrev pub high : ℕ
high = 128

-- "a fifth byte over 15" is too large
abbrev pub fifth : ℕ
fifth = 15

-- a number in at most k + 1 groups
unfoldable pub groups : ℕ → ℕ → List ℕ
groups zero n = n ∷ []
groups (suc k) n = elim (ltb n high) [ true ↦ n ∷ [] | false ↦ (high + n % high) ∷ groups k (n / high) ]

-- the bytes of a number
abbrev pub spelled : ℕ → List ℕ
spelled n = groups 4 n

-- and of each of some numbers
unfoldable pub spelled_all : List ℕ → List ℕ
spelled_all [] = []
spelled_all (n ∷ ns) = spelled n ++ spelled_all ns

-- what some bytes begin with: a number, and how many bytes it is of; or why there is none
abbrev pub Front : Type 0
Front = Result (ℕ × ℕ) NumberError

-- a group with the high bit, and the number behind it. If that is 0, the group before it was the
-- last that is needed
unfoldable pub more : ℕ → Front → Front
more low (Ok (n, size)) = elim (eqb n 0) [ true ↦ Err Longer | false ↦ Ok (low + high * n, suc size) ]
more low (Err w) = Err w

-- a number of at most k + 1 groups
unfoldable pub front : ℕ → List ℕ → Front
front k [] = Err Cut
front zero (b ∷ bs) = elim (leb b fifth) [ true ↦ Ok (b, 1) | false ↦ Err TooLarge ]
front (suc k) (b ∷ bs) = elim (ltb b high) [ true ↦ Ok (b, 1) | false ↦ more (b - high) (front k bs) ]

-- with the place behind it in place of its size
unfoldable pub placed : ℕ → Front → Front
placed at (Ok (n, size)) = Ok (n, at + size)
placed at (Err w) = Err w

-- the number that stands at a place, and the place behind it
abbrev pub number_at : List ℕ → ℕ → Result (ℕ × ℕ) NumberError
number_at bytes at = placed at (front 4 (drop at bytes))
