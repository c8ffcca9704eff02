-- Of validators that were started at different braces at most one is in a comment, one in quotes, and one in neither: three slots, which a byte fills
-- anew. A `%` and a quote move a validator to another slot, and what was there moves or ends; a `{` ends what is in neither, and one starts there.
use Prim.Native.Nat.{ℕ, ◌+◌}
use mathlib.Core.Path.{◌≡◌, refl}
use mathlib.Core.List.{List, [], ◌∷◌}
use mathlib.Core.Bool.{Bool, true, false, not, ◌&&◌, ◌||◌}
use native.Mathlib.Omega.{arith}
use borrow.Author.Tests.{eqb-true, not-true}
use lib.Dec.{eqb}
use denote.Enum.Declared.{tag_of}
use Rattle.classes.specs.Classes.{bytes, among, blank, alphanumeric}
use Rattle.attr.specs.declared.attr.State.{State}
use Rattle.attr.specs.declared.attr.State.TheVariants as state
use Rattle.attr.specs.Attributes.{name, by, step, is_decided}
use Rattle.attr.specs.contracts.attr.State.{the_type}
use Rattle.attr.proofs.Alike.{reps, all-steps}
use Rattle.attr.proofs.States.{all, every}

-- one of some states
unfoldable pub is : List State → State → Bool
is [] s = false
is (t ∷ ts) s = eqb (tag_of the_type s) (tag_of the_type t) || is ts s

-- what a slot may hold: what is decided counts as nothing
abbrev pub in_comment : State → Bool
in_comment = is (state.CommentFirst ∷ state.Comment ∷ state.CommentNewline ∷ state.Done ∷ state.Invalid ∷ [])

abbrev pub in_quotes : State → Bool
in_quotes = is (state.ValueQuoted ∷ state.ValueEscape ∷ state.ValueNewline ∷ state.ValueContinued ∷ state.Done ∷ state.Invalid ∷ [])

abbrev pub in_neither : State → Bool
in_neither =
    is
    (state.Whitespace ∷ state.ClassFirst ∷ state.Class ∷ state.IdentifierFirst ∷ state.Identifier ∷ state.Key
    ∷ state.ValueFirst ∷ state.Value ∷ state.Done ∷ state.Invalid ∷ [])

abbrev between : State → Bool
between = is (state.Whitespace ∷ state.Done ∷ state.Invalid ∷ [])

abbrev pub escape : State → Bool
escape = is (state.ValueEscape ∷ [])

abbrev pub first : State → Bool
first = is (state.ValueFirst ∷ [])

-- the bytes that change slots, and the others
data Sort : Type 0 where
  brace percent quote other : Sort

unfoldable sorted : Bool → Bool → Bool → Sort
sorted true p q = brace
sorted false true q = percent
sorted false false true = quote
sorted false false false = other

abbrev sort : ℕ → Sort
sort d = sorted (eqb d 123) (eqb d 37) (eqb d 34)

-- where a byte of each sort leads from a slot; from quotes a quote leads elsewhere behind a backslash
unfoldable comment_to : Sort → State → Bool
comment_to brace s = in_comment s
comment_to percent s = between s
comment_to quote s = in_comment s
comment_to other s = in_comment s

unfoldable quotes_to : Sort → Bool → State → Bool
quotes_to brace e s = in_quotes s
quotes_to percent e s = in_quotes s
quotes_to quote true s = in_quotes s
quotes_to quote false s = between s
quotes_to other e s = in_quotes s

unfoldable neither_to : Sort → State → Bool
neither_to brace s = is_decided s
neither_to percent s = in_comment s
neither_to quote s = in_quotes s
neither_to other s = in_neither s

-- if the one, then the other
unfoldable implies : Bool → Bool → Bool
implies true y = y
implies false y = true

then : (x y : Bool) → implies x y ≡ true → x ≡ true → y ≡ true
unfolding implies
then true y h e = h
then false y h e = cc

-- and so it does, by computation
module _ (s : State) (d : ℕ) (r : among reps d ≡ true) where
  comment-goes : in_comment s ≡ true → comment_to (sort d) (step s d) ≡ true
  unfolding all reps bytes among blank alphanumeric name by step is implies sorted comment_to
  comment-goes h = then (in_comment s) _ (all-steps (λ s d. implies (in_comment s) (comment_to (sort d) (step s d))) refl s d r) h

  quotes-go : in_quotes s ≡ true → quotes_to (sort d) (escape s) (step s d) ≡ true
  unfolding all reps bytes among blank alphanumeric name by step is implies sorted quotes_to
  quotes-go h = then (in_quotes s) _ (all-steps (λ s d. implies (in_quotes s) (quotes_to (sort d) (escape s) (step s d))) refl s d r) h

  neither-goes : in_neither s ≡ true → neither_to (sort d) (step s d) ≡ true
  unfolding all reps bytes among blank alphanumeric name by step is implies sorted neither_to is_decided
  neither-goes h = then (in_neither s) _ (all-steps (λ s d. implies (in_neither s) (neither_to (sort d) (step s d))) refl s d r) h

  -- a quote opens a value alone
  opens : in_neither s ≡ true → eqb d 34 ≡ true → first s ≡ false → is_decided (step s d) ≡ true
  unfolding all reps bytes among blank alphanumeric name by step is implies is_decided
  opens h q f =
      then (in_neither s && eqb d 34 && not (first s)) _
      (all-steps (λ s d. implies (in_neither s && eqb d 34 && not (first s)) (is_decided (step s d))) refl s d r)
      (rw (h, q, f))

  -- an escape is behind a backslash, and a value's first byte behind `=`
  behind-backslash : escape (step s d) ≡ true → eqb d 92 ≡ true
  unfolding all reps bytes among blank alphanumeric name by step is implies
  behind-backslash h = then (escape (step s d)) _ (all-steps (λ s d. implies (escape (step s d)) (eqb d 92)) refl s d r) h

  behind-equals : first (step s d) ≡ true → eqb d 61 ≡ true
  unfolding all reps bytes among blank alphanumeric name by step is implies
  behind-equals h = then (first (step s d)) _ (all-steps (λ s d. implies (first (step s d)) (eqb d 61)) refl s d r) h

-- between two parts is in neither, and no value's first byte
between-neither : (s : State) → between s ≡ true → in_neither s ≡ true
unfolding all is implies
between-neither s h = then (between s) _ (every (λ s. implies (between s) (in_neither s)) refl s) h

between_first : (s : State) → between s ≡ true → first s ≡ false
unfolding all is implies
between_first s h = not-true _ (then (between s) _ (every (λ s. implies (between s) (not (first s))) refl s) h)

decided-between : (s : State) → is_decided s ≡ true → between s ≡ true
unfolding all is implies is_decided
decided-between s h = then (is_decided s) _ (every (λ s. implies (is_decided s) (between s)) refl s) h

-- an escape and a value's first byte are not there at one time, so that a quote is not taken by both
pub record Slots (a q t : State) : Type 0 where
  pub commented : in_comment a ≡ true
  pub quoted : in_quotes q ≡ true
  pub neither : in_neither t ≡ true
  pub apart : escape q ≡ true → first t ≡ false

pub empty : Slots state.Done state.Done state.Done
unfolding is
empty = record { commented = refl; quoted = refl; neither = refl; apart = λ e. refl }

-- one that starts at a brace
abbrev pub when : Bool → ℕ → ℕ
when true n = n
when false n = 0

unfoldable pub started : (State → ℕ) → ℕ → ℕ
started w d = when (eqb d 123) (w (step state.Start d))

-- the slots behind a byte hold what steps lead to, and what starts there, by any measure that counts what is decided as nothing
pub record Behind (d : ℕ) (a q t : State) : Type 0 where
  pub comment : State
  pub quotes : State
  pub part : State
  pub slots : Slots comment quotes part
  pub same : (w : State → ℕ) → ((s : State) → is_decided s ≡ true → w s ≡ 0)
      → w (step a d) + w (step q d) + w (step t d) + started w d ≡ w comment + w quotes + w part

module _ (d : ℕ) (a q t : State) (r : among reps d ≡ true) (h : Slots a q t) where
  starts : eqb d 123 ≡ true → (in_neither (step state.Start d) ≡ true) × (first (step state.Start d) ≡ false)
  unfolding by step is
  starts e = rw (eqb-true d 123 e) (refl, refl)

  at-brace : eqb d 123 ≡ true → Behind d a q t
  unfolding sorted comment_to quotes_to neither_to started
  at-brace e = record {
    comment = step a d;
    quotes = step q d;
    part = step state.Start d;
    slots = record {
      commented = rw e at (comment-goes a d r h.commented);
      quoted = rw e at (quotes-go q d r h.quoted);
      neither = (starts e).0;
      apart = λ _. (starts e).1;
    };
    same = λ w none. rw (e, started) (omega (arith, none (step t d) (rw e at (neither-goes t d r h.neither))));
  }

  module _ (b : eqb d 123 ≡ false) where
    at-percent : eqb d 37 ≡ true → Behind d a q t
    unfolding sorted comment_to quotes_to neither_to started
    at-percent e =
        let ended = rw (b, e) at (comment-goes a d r h.commented) in
        record {
          comment = step t d;
          quotes = step q d;
          part = step a d;
          slots = record {
            commented = rw (b, e) at (neither-goes t d r h.neither);
            quoted = rw (b, e) at (quotes-go q d r h.quoted);
            neither = between-neither _ ended;
            apart = λ _. between_first _ ended;
          };
          same = λ w none. rw (b, started) (omega arith);
        }

    module _ (p : eqb d 37 ≡ false) where
      module _ (e : eqb d 34 ≡ true) where
        at-escape : escape q ≡ true → Behind d a q t
        unfolding sorted comment_to quotes_to started
        at-escape x =
            let ended = decided-between _ (opens t d r h.neither e (h.apart x)) in
            record {
              comment = step a d;
              quotes = step q d;
              part = step t d;
              slots = record {
                commented = rw (b, p, e) at (comment-goes a d r h.commented);
                quoted = rw (b, p, e, x) at (quotes-go q d r h.quoted);
                neither = between-neither _ ended;
                apart = λ _. between_first _ ended;
              };
              same = λ w none. rw (b, started) (omega arith);
            }

        at-quote : escape q ≡ false → Behind d a q t
        unfolding sorted comment_to quotes_to neither_to started
        at-quote x =
            let ended = rw (b, p, e, x) at (quotes-go q d r h.quoted) in
            record {
              comment = step a d;
              quotes = step t d;
              part = step q d;
              slots = record {
                commented = rw (b, p, e) at (comment-goes a d r h.commented);
                quoted = rw (b, p, e) at (neither-goes t d r h.neither);
                neither = between-neither _ ended;
                apart = λ _. between_first _ ended;
              };
              same = λ w none. rw (b, started) (omega arith);
            }

      at_other : eqb d 34 ≡ false → Behind d a q t
      unfolding sorted comment_to quotes_to neither_to started
      at_other e = record {
        comment = step a d;
        quotes = step q d;
        part = step t d;
        slots = record {
          commented = rw (b, p, e) at (comment-goes a d r h.commented);
          quoted = rw (b, p, e) at (quotes-go q d r h.quoted);
          neither = rw (b, p, e) at (neither-goes t d r h.neither);
          apart = λ x. go (first (step t d)) refl x;
        };
        same = λ w none. rw (b, started) (omega arith);
      }
        where
          go : (f : Bool) → first (step t d) ≡ f → escape (step q d) ≡ true → first (step t d) ≡ false
          go true f x = absurd (omega (arith, eqb-true d 92 (behind-backslash q d r x), eqb-true d 61 (behind-equals t d r f)))
          go false f x = f

  -- every byte fills the slots anew
  pub behind : Behind d a q t
  behind = go (eqb d 123) refl (eqb d 37) refl (eqb d 34) refl (escape q) refl
    where
      go : (x : Bool) → eqb d 123 ≡ x → (y : Bool) → eqb d 37 ≡ y → (z : Bool) → eqb d 34 ≡ z → (v : Bool) → escape q ≡ v → Behind d a q t
      go true b y p z e v x = at-brace b
      go false b true p z e v x = at-percent b p
      go false b false p true e true x = at-escape b p e x
      go false b false p true e false x = at-quote b p e x
      go false b false p false e v x = at_other b p e
