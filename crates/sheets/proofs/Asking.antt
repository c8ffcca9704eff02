-- The validator's loop over the lines: fed from the brace to its line's end, then the later lines whole, until it is decided.
use Prim.Native.Nat.{ℕ, zero, suc, ◌+◌, ◌-◌, ◌≤◌, ◌<◌}
use mathlib.Core.Path.{◌≡◌, refl, sym, ap, ◌∙◌}
use mathlib.Core.List.{List, [], ◌∷◌, ◌++◌}
use mathlib.Core.Bool.{true}
use native.Mathlib.Nat.{zero-add, suc-add}
use native.Mathlib.Numerals.{add-one}
use native.Mathlib.Omega.{arith}
use lib.ListN.{length, get_or, take, drop, drop_of_length-le}
use lib.Seq.{drop-cons, drop-drop, take-nil}
use Rattle.attr.specs.declared.attr.State.TheVariants as state
use Rattle.attr.specs.declared.attr.Validator.{Validator}
use Rattle.attr.specs.Attributes.{fed, is_done, is_decided}
use Rattle.attr.proofs.Feeding.{fed-append, decided-stays}
use Rattle.reading.specs.declared.Line.{Line}
use Rattle.reading.specs.Machine.{view_of}
use Rattle.reading.specs.Blocks.{bytes_from, block_at}
use Rattle.reading.specs.Reading.{views}
use Rattle.reading.proofs.Feeding.{Rising, view-long}
use Rattle.reading.proofs.Theorems.{rising}
use Rattle.inline.specs.Asks.{Within}
use Rattle.inline.specs.Lines.{none}

abbrev bytes : List ℕ → Line → List ℕ
bytes text l = (view_of text l).bytes

drop-take : (k m : ℕ) (l : List ℕ) → drop k (take (k + m) l) ≡ take m (drop k l)
drop-take zero m l = ap (λ (j : ℕ). take j l) (zero-add m)
drop-take (suc k) m [] = ap (drop (suc k)) (take-nil (suc k + m)) ∙ sym (take-nil m)
drop-take (suc k) m (c ∷ l) = ap (λ (j : ℕ). drop (suc k) (take j (c ∷ l))) (suc-add k m) ∙ drop-take k m l

-- the bytes of a line from a place on are its part from there on
part-from : (text : List ℕ) (a b c : ℕ) → a ≤ b → b ≤ c → drop (b - a) (take (c - a) (drop a text)) ≡ take (c - b) (drop b text)
part-from text a b c h k =
    ap (λ (j : ℕ). drop (b - a) (take j (drop a text))) one
    ∙ drop-take (b - a) (c - b) (drop a text)
    ∙ ap (λ (r : List ℕ). take (c - b) r) (drop-drop (b - a) a text ∙ ap (λ (j : ℕ). drop j text) two)
  where
    one : c - a ≡ b - a + (c - b)
    one = omega arith

    two : a + (b - a) ≡ b
    two = omega arith

module _ (text : List ℕ) where
  -- a line of some that rise from a on starts there or later
  starts_from : (i a : ℕ) (ls : List Line) → Rising text a ls → i < length ls → a ≤ (get_or ls i none).start
  unfolding Rising
  starts_from i a [] r some = absurd (omega arith)
  starts_from zero a (l ∷ ls) r some = r.0
  starts_from (suc i) a (l ∷ ls) r some = omega (arith, r.0, r.1, starts_from i l.end ls r.3 (omega arith))

  -- of lines that end before a place nothing is fed
  skipped : (at : ℕ) (i a : ℕ) (ls : List Line) → Rising text a ls → i < length ls → (get_or ls i none).start ≤ at
      → bytes_from at (views text ls) ≡ bytes_from at (views text (drop i ls))
  unfolding Rising bytes_from
  skipped at zero a ls r some low = refl
  skipped at (suc i) a [] r some low = absurd (omega arith)
  skipped at (suc i) a (l ∷ ls) r some low =
      let none_left : length (bytes text l) ≤ at - l.start =
      omega (arith, view-long text l r.1 r.2, r.1, starts_from i l.end ls r.3 (omega arith), low) in
      ap (λ (z : List ℕ). z ++ bytes_from at (views text ls)) (drop_of_length-le (bytes text l) none_left) ∙ skipped at i l.end ls r.3 (omega arith) low

  -- a later line starts behind the end of an earlier one
  later : (i k a : ℕ) (ls : List Line) → Rising text a ls → i < k → k < length ls → (get_or ls i none).end ≤ (get_or ls k none).start
  unfolding Rising
  later i k a [] r h some = absurd (omega arith)
  later zero zero a (l ∷ ls) r h some = absurd (omega arith)
  later (suc i) zero a (l ∷ ls) r h some = absurd (omega arith)
  later zero (suc k) a (l ∷ ls) r h some = starts_from k l.end ls r.3 (omega arith)
  later (suc i) (suc k) a (l ∷ ls) r h some = later i k l.end ls r.3 (omega arith) (omega arith)

-- the loop's invariant: the lines from the k-th on are still to be fed, and lead to where all lead
pub record Asked (text : List ℕ) (all : List Line) (i at : ℕ) (u : Validator) (k : ℕ) : Type 0 where
  pub within : Within text all i at
  pub past : i < k
  pub same : fed (bytes_from at (views text (drop k all))) u.state ≡ fed (bytes_from at (views text all)) state.Start

module _ {text : List ℕ} {all : List Line} {i at : ℕ} (w : Within text all i at) where
  up : Rising text 0 all
  up = rising text 0 all w.fed.inside w.fed.apart

  abbrev here : Line
  here = get_or all i none

  line_at : (k a : ℕ) (ls : List Line) → Rising text a ls → k < length ls → ((get_or ls k none).start ≤ (get_or ls k none).end) × ((get_or ls k none).end ≤ length text)
  unfolding Rising
  line_at k a [] r h = absurd (omega arith)
  line_at zero a (l ∷ ls) r h = (r.1, r.2)
  line_at (suc k) a (l ∷ ls) r h = line_at k l.end ls r.3 (omega arith)

  pub line-ordered : (k : ℕ) → k < length all → (get_or all k none).start ≤ (get_or all k none).end
  line-ordered k h = (line_at k 0 all up h).0

  pub line-later : (k : ℕ) → i < k → k < length all → here.end ≤ (get_or all k none).start
  line-later k past h = later text i k 0 all up past h

  pub line-within : (k : ℕ) → k < length all → (get_or all k none).end ≤ length text
  line-within k h = (line_at k 0 all up h).1

  pub asked-first : (f : Validator) → f ≡ record { state = state.Start } → (end : ℕ) → end ≡ here.end → (u : Validator)
      → u ≡ record { state = fed (bytes text (record { start = at; end = end })) f.state } → Asked text all i at u (i + 1)
  unfolding bytes_from
  asked-first f isf end ise u is =
      rw (add-one i)
      record {
        within = w;
        past = omega arith;
        same =
            ap (λ (z : Validator). fed (bytes_from at (views text (drop (suc i) all))) z.state) is
            ∙ ap (λ (z : Validator). fed (bytes_from at (views text (drop (suc i) all))) (fed (bytes text (record { start = at; end = end })) z.state)) isf
            ∙ ap (λ (e : ℕ). fed (bytes_from at (views text (drop (suc i) all))) (fed (bytes text (record { start = at; end = e })) state.Start)) ise
            ∙ sym (fed-append (bytes text (record { start = at; end = here.end })) (bytes_from at (views text (drop (suc i) all))) state.Start)
            ∙ ap (λ (r : List ℕ). fed (r ++ bytes_from at (views text (drop (suc i) all))) state.Start) (sym (part-from text here.start at here.end w.low w.high))
            ∙ ap (λ (ls : List Line). fed (bytes_from at (views text ls)) state.Start) (sym (drop-cons all i none w.some))
            ∙ ap (λ (r : List ℕ). fed r state.Start) (sym (skipped text at i 0 all up w.some w.low));
      }

module _ {text : List ℕ} {all : List Line} {i at : ℕ} {u : Validator} {k : ℕ} (g : Asked text all i at u k) where
  pub asked-decided : is_decided u.state ≡ true → is_done u.state ≡ block_at (views text all) at
  unfolding block_at
  asked-decided e = ap is_done (sym (decided-stays (bytes_from at (views text (drop k all))) u.state e) ∙ g.same)

  pub asked-all : length all ≤ k → is_done u.state ≡ block_at (views text all) at
  unfolding block_at bytes_from fed
  asked-all h = ap is_done (rw (drop_of_length-le all h) at g.same)

  pub asked-next : k < length all → {l : Line} → l ≡ get_or all k none → {t : Validator} → t ≡ record { state = fed (bytes text l) u.state } → Asked text all i at t (k + 1)
  unfolding bytes_from
  asked-next some isl is =
      let z : at - (get_or all k none).start ≡ 0 = omega (arith, later text i k 0 all (up g.within) g.past some, g.within.high) in
      rw (add-one k)
      record {
        within = g.within;
        past = omega (arith, g.past);
        same =
            ap (λ (r : Validator). fed (bytes_from at (views text (drop (suc k) all))) r.state) is
            ∙ ap (λ (r : Line). fed (bytes_from at (views text (drop (suc k) all))) (fed (bytes text r) u.state)) isl
            ∙ sym (fed-append (bytes text (get_or all k none)) (bytes_from at (views text (drop (suc k) all))) u.state)
            ∙ ap (λ (n : ℕ). fed (drop n (bytes text (get_or all k none)) ++ bytes_from at (views text (drop (suc k) all))) u.state) (sym z)
            ∙ ap (λ (ls : List Line). fed (bytes_from at (views text ls)) u.state) (sym (drop-cons all k none some))
            ∙ g.same;
      }
