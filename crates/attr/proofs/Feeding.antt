-- The laws of feeding: over two texts, of a state that is decided, and of a loop that has fed some of the bytes.
use Prim.Native.Nat.{ℕ, ◌+◌, ◌≤◌, ◌<◌}
use mathlib.Core.Path.{◌≡◌, refl, sym, ◌∙◌}
use mathlib.Core.List.{List, [], ◌∷◌, ◌++◌}
use mathlib.Core.Bool.{true}
use native.Mathlib.Numerals.{add-one}
use lib.ListN.{length, get_or, drop, drop_of_length-le}
use lib.Seq.{drop-cons}
use Rattle.attr.specs.declared.attr.State.{State}
use Rattle.attr.specs.declared.attr.State.TheVariants as state
use Rattle.attr.specs.Attributes.{step, fed, is_decided}

pub fed-append : (a b : List ℕ) (s : State) → fed (a ++ b) s ≡ fed b (fed a s)
unfolding fed
fed-append [] b s = refl
fed-append (c ∷ a) b s = fed-append a b (step s c)

-- what is decided stays so: over one byte, and over all
decided-step : (s : State) (c : ℕ) → is_decided s ≡ true → step s c ≡ s
unfolding step is_decided
decided-step state.Start c e = cc
decided-step state.Whitespace c e = cc
decided-step state.CommentFirst c e = cc
decided-step state.Comment c e = cc
decided-step state.CommentNewline c e = cc
decided-step state.ClassFirst c e = cc
decided-step state.Class c e = cc
decided-step state.IdentifierFirst c e = cc
decided-step state.Identifier c e = cc
decided-step state.Key c e = cc
decided-step state.ValueFirst c e = cc
decided-step state.Value c e = cc
decided-step state.ValueQuoted c e = cc
decided-step state.ValueEscape c e = cc
decided-step state.ValueNewline c e = cc
decided-step state.ValueContinued c e = cc
decided-step state.Done c e = refl
decided-step state.Invalid c e = refl

pub decided-stays : (cs : List ℕ) (s : State) → is_decided s ≡ true → fed cs s ≡ s
unfolding fed
decided-stays [] s e = refl
decided-stays (c ∷ cs) s e = rw (decided-step s c e) (decided-stays cs s e)

module _ (input : List ℕ) (s₀ : State) where
  -- n bytes are fed: what is left leads to where all lead
  abbrev pub Going : ℕ → State → Type 0
  Going n s = fed (drop n input) s ≡ fed input s₀

  module _ (n : ℕ) (s : State) (going : Going n s) where
    -- all are fed
    pub going_all : length input ≤ n → s ≡ fed input s₀
    unfolding fed
    going_all h = rw (drop_of_length-le input h) at going

    -- a decided state is where all lead
    pub going_decided : is_decided s ≡ true → s ≡ fed input s₀
    going_decided e = sym (decided-stays (drop n input) s e) ∙ going

    -- one more
    pub going_on : n < length input → (t : State) → t ≡ step s (get_or input n 0) → Going (n + 1) t
    unfolding fed
    going_on h t e = rw (add-one, e) (rw (drop-cons input n 0 h) at going)
