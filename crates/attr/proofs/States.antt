-- The states in the order of the source, and a test that is computed over all of them as one of each.
use Prim.Native.Nat.{ℕ, zero, suc, ◌<◌}
use mathlib.Core.Path.{◌≡◌}
use mathlib.Core.List.{List, [], ◌∷◌}
use mathlib.Core.Bool.{Bool, true, ◌&&◌, and-eq-true_iff}
use native.Mathlib.Omega.{arith}
use lib.ListN.{length, get_or}
use Rattle.attr.specs.declared.attr.State.{State}
use Rattle.attr.specs.declared.attr.State.TheVariants as state

abbrev pub states : List State
states =
    state.Start ∷ state.Whitespace ∷ state.CommentFirst ∷ state.Comment ∷ state.CommentNewline
    ∷ state.ClassFirst ∷ state.Class ∷ state.IdentifierFirst ∷ state.Identifier ∷ state.Key
    ∷ state.ValueFirst ∷ state.Value ∷ state.ValueQuoted ∷ state.ValueEscape ∷ state.ValueNewline
    ∷ state.ValueContinued ∷ state.Done ∷ state.Invalid ∷ []

-- a test, computed over a list
unfoldable pub all : {A : Type 0} → (A → Bool) → List A → Bool
all f [] = true
all f (x ∷ xs) = f x && all f xs

module _ (f : State → Bool) where
  nth : (ss : List State) → all f ss ≡ true → (n : ℕ) → n < length ss → f (get_or ss n state.Invalid) ≡ true
  unfolding all
  nth [] e n h = absurd (omega arith)
  nth (s ∷ ss) e zero h = ((and-eq-true_iff (f s) (all f ss)).0 e).0
  nth (s ∷ ss) e (suc n) h = nth ss ((and-eq-true_iff (f s) (all f ss)).0 e).1 n (omega arith)

  pub every : all f states ≡ true → (s : State) → f s ≡ true
  every e state.Start = nth states e 0 (omega arith)
  every e state.Whitespace = nth states e 1 (omega arith)
  every e state.CommentFirst = nth states e 2 (omega arith)
  every e state.Comment = nth states e 3 (omega arith)
  every e state.CommentNewline = nth states e 4 (omega arith)
  every e state.ClassFirst = nth states e 5 (omega arith)
  every e state.Class = nth states e 6 (omega arith)
  every e state.IdentifierFirst = nth states e 7 (omega arith)
  every e state.Identifier = nth states e 8 (omega arith)
  every e state.Key = nth states e 9 (omega arith)
  every e state.ValueFirst = nth states e 10 (omega arith)
  every e state.Value = nth states e 11 (omega arith)
  every e state.ValueQuoted = nth states e 12 (omega arith)
  every e state.ValueEscape = nth states e 13 (omega arith)
  every e state.ValueNewline = nth states e 14 (omega arith)
  every e state.ValueContinued = nth states e 15 (omega arith)
  every e state.Done = nth states e 16 (omega arith)
  every e state.Invalid = nth states e 17 (omega arith)
