-- The loops: a group written after the other, and a group read after the other.
use Rattle.std.proofs.lemmas.Bool.Decides.{nat_tests}
use Rattle.std.specs.Prelude.{None, Option, Some, Ok, Err}
use Prim.Native.Nat.{ℕ, zero, suc, ◌+◌, ◌-◌, ◌*◌, ◌/◌, ◌%◌, ◌≤◌, ◌<◌}
use mathlib.Core.Path.{◌≡◌, refl, sym, ap, ◌∙◌}
use mathlib.Core.List.{List, [], ◌∷◌}
use mathlib.Core.Bool.{true, false}
use native.Mathlib.Nat.{mul-le-mul_right}
use native.Mathlib.Numerals.{add-one}
use native.Mathlib.Omega.{arith}
use borrow.Author.Tests.{le-leb, lt-leb, lt-ltb, le-ltb, eq-eqb, ne_eqb}
use lib.Dec.{eqb}
use lib.ListN.{length, get_or, drop, drop_of_length-le}
use lib.Seq.{drop-cons}
use Rattle.output.specs.declared.Output.{Output}
use Rattle.output.specs.Written.{Adds}
use Rattle.output.proofs.Appending.{Left, left-all, left_less, left-full, left-then}
use Rattle.groups.specs.declared.NumberError.TheVariants.{Cut, Longer, TooLarge}
use Rattle.groups.specs.Groups.{groups, spelled, spelled_all, Front, more, front, placed, number_at}
use Rattle.groups.proofs.Numbers.{limit}

-- the last group, and one before others
one-group : (k n : ℕ) → n < 128 → groups k n ≡ n ∷ []
unfolding groups
one-group zero n h = refl
one-group (suc k) n h = rw (lt-ltb n 128 h, groups)

more-groups : (k n : ℕ) → 128 ≤ n → groups (suc k) n ≡ (128 + n % 128) ∷ groups k (n / 128)
unfolding groups
more-groups k n h = rw (le-ltb n 128 h, groups)

pub spelled_one : (n : ℕ) → n < 128 → n ∷ [] ≡ spelled n
spelled_one n h = sym (one-group 4 n h)

pub spelled_five : (a b c d e : ℕ) → a < 128 → b < 128 → c < 128 → d < 128 → e < 128 → a ∷ b ∷ c ∷ d ∷ e ∷ [] ≡ spelled_all (a ∷ b ∷ c ∷ d ∷ e ∷ [])
unfolding spelled_all
spelled_five a b c d e i j k l m = rw (sym (spelled_one a i), sym (spelled_one b j), sym (spelled_one c k), sym (spelled_one d l), sym (spelled_one e m)) refl

spelled-two : (n : ℕ) → 128 ≤ n → n < 16384 → (128 + n % 128) ∷ (n / 128) ∷ [] ≡ spelled n
spelled-two n h l = sym (more-groups 3 n h ∙ ap (λ (ns : List ℕ). (128 + n % 128) ∷ ns) (one-group 3 (n / 128) (omega arith)))

pub spelled_six : (a b c d e : ℕ) → a < 128 → b < 128 → c < 128 → 128 ≤ d → d < 16384 → e < 128
    → a ∷ b ∷ c ∷ (128 + d % 128) ∷ (d / 128) ∷ e ∷ [] ≡ spelled_all (a ∷ b ∷ c ∷ d ∷ e ∷ [])
unfolding spelled_all
spelled_six a b c d e i j k h l m = rw (sym (spelled_one a i), sym (spelled_one b j), sym (spelled_one c k), sym (spelled-two d h l), sym (spelled_one e m)) refl

-- at the head of the loop that writes, what is left is a number of at most k + 1 groups
pub record Rest (o₀ : Output) (n : ℕ) (o : Output) (rest : ℕ) : Type 0 where
  pub k : ℕ
  pub small : rest < limit k
  pub left : Left o₀ (spelled n) o (groups k rest)

pub rest_all : (o : Output) (n : ℕ) → n < 4294967296 → Rest o n o n
unfolding limit
rest_all o n h = record { k = 4; small = h; left = left-all o (spelled n) }

module _ {o₀ : Output} {n : ℕ} {o : Output} {rest : ℕ} (x : Rest o₀ n o rest) (o' : Output) where
  -- a group with the high bit
  module _ (h : 128 ≤ rest) where
    abbrev group : List ℕ
    group = (128 + rest % 128) ∷ []

    pub rest_turn : Adds o group (Some tt) o' → Rest o₀ n o' (rest / 128)
    unfolding limit
    rest_turn w = by x.k x.small x.left
      where
        by : (k : ℕ) → rest < limit k → Left o₀ (spelled n) o (groups k rest) → Rest o₀ n o' (rest / 128)
        by zero l y = absurd (omega (arith, l))
        by (suc k) l y =
            record { k = k; small = omega (arith, l); left = left_less group (groups k (rest / 128)) o' (rw (more-groups k rest h) at y) w }

    pub rest_full : Adds o group None o' → Adds o₀ (spelled n) None o'
    unfolding limit
    rest_full w = by x.k x.small x.left
      where
        by : (k : ℕ) → rest < limit k → Left o₀ (spelled n) o (groups k rest) → Adds o₀ (spelled n) None o'
        by zero l y = absurd (omega (arith, l))
        by (suc k) l y = left-full group (groups k (rest / 128)) o' (rw (more-groups k rest h) at y) w

  -- the last group
  pub rest_last : rest < 128 → (r : Option (Unit {0})) → Adds o (rest ∷ []) r o' → Adds o₀ (spelled n) r o'
  rest_last h r w = left-then (rest ∷ []) r o' (rw (one-group x.k rest h) at x.left) w

-- groups that were read, and those behind them: so many bytes make low, and w is the weight of the
-- next group
unfoldable pub carried : ℕ → ℕ → ℕ → Front → Front
carried w low j (Ok (n, size)) = elim (eqb n 0) [ true ↦ Err Longer | false ↦ Ok (low + n * w, j + size) ]
carried w low j (Err e) = Err e

pub carried-number : (w low j n size : ℕ) → 1 ≤ n → carried w low j (Ok (n, size)) ≡ Ok (low + n * w, j + size)
unfolding carried
carried-number w low j n size h = rw (ne_eqb n 0 (λ e. omega arith), carried)

-- one group
carried_first : (low : ℕ) (f : Front) → more low f ≡ carried 128 low 1 f
unfolding more carried
carried_first low (Ok (n, size)) = grind (arith, nat_tests)
carried_first low (Err e) = refl

-- one group more
carried-more : (w low j g : ℕ) (f : Front) → carried w low j (more g f) ≡ carried (w * 128) (low + g * w) (j + 1) f
unfolding more carried
carried-more w low j g (Ok (n, size)) = grind (arith, nat_tests)
carried-more w low j g (Err e) = refl

-- what a byte says, with k groups behind it at most
front-large : (k b : ℕ) (bs : List ℕ) → k ≡ 0 → 15 < b → front k (b ∷ bs) ≡ Err TooLarge
unfolding front
front-large zero b bs e h = rw (lt-leb b 15 h, front)
front-large (suc k) b bs e h = absurd (omega arith)

front-one : (k b : ℕ) (bs : List ℕ) → (k ≡ 0 → b ≤ 15) → b < 128 → front k (b ∷ bs) ≡ Ok (b, 1)
unfolding front
front-one zero b bs l h = rw (le-leb b 15 (l refl), front)
front-one (suc k) b bs l h = rw (lt-ltb b 128 h, front)

-- the weight of the group with k behind it, in a number of five
unfoldable pub weight_of : ℕ → ℕ
weight_of zero = 268435456
weight_of (suc zero) = 2097152
weight_of (suc (suc zero)) = 16384
weight_of (suc (suc (suc k))) = 128

weight-most : (k : ℕ) → weight_of k ≤ 268435456
unfolding weight_of
weight-most zero = omega arith
weight-most (suc zero) = omega arith
weight-most (suc (suc zero)) = omega arith
weight-most (suc (suc (suc k))) = omega arith

-- each weighs 128 of those before it
weight-up : (k : ℕ) → k ≤ 2 → weight_of (suc k) * 128 ≡ weight_of k
unfolding weight_of
weight-up zero h = refl
weight-up (suc zero) h = refl
weight-up (suc (suc zero)) h = refl
weight-up (suc (suc (suc k))) h = absurd (omega arith)

-- so a number of five groups fits 32 bits, if the last is at most 15
weight-fits : (k w b : ℕ) → w ≡ weight_of k → (k ≡ 0 → b ≤ 15) → b < 128 → b * w + w ≤ 4294967296
unfolding weight_of
weight-fits zero w b e l h = grind (arith, nat_tests)
weight-fits (suc zero) w b e l h = grind (arith, nat_tests)
weight-fits (suc (suc zero)) w b e l h = grind (arith, nat_tests)
weight-fits (suc (suc (suc k))) w b e l h = grind (arith, nat_tests)

-- at the head of the loop the group at i has k others behind it at most, and weight is its weight;
-- value is the number of those before it
pub record Reads (bytes : List ℕ) (at low value weight i : ℕ) : Type 0 where
  pub k : ℕ
  pub places : i + k ≡ at + 4
  pub behind : at < i
  pub weighs : weight ≡ weight_of k
  pub less : value < weight
  pub same : placed at (more low (front 3 (drop (at + 1) bytes))) ≡ placed at (carried weight value (i - at) (front k (drop i bytes)))

-- and behind a group with the high bit, which is added up within 32 bits
pub record Added (bytes : List ℕ) (at low value weight i b : ℕ) : Type 0 where
  pub fits : weight * 128 ≤ 268435456
  pub then : Reads bytes at low (value + (b - 128) * weight) (weight * 128) (i + 1)

pub reads_first : (bytes : List ℕ) (at low : ℕ) → low < 128 → Reads bytes at low low 128 (at + 1)
unfolding weight_of
reads_first bytes at low h =
    record {
      k = 3;
      places = omega arith;
      behind = omega arith;
      weighs = refl;
      less = h;
      same = ap (placed at) (carried_first low (front 3 (drop (at + 1) bytes)) ∙ ap (λ (j : ℕ). carried 128 low j (front 3 (drop (at + 1) bytes))) one);
    }
  where
    one : 1 ≡ at + 1 - at
    one = omega arith

module _ {bytes : List ℕ} {at low value weight i : ℕ} (g : Reads bytes at low value weight i) where
  abbrev all : Front
  all = placed at (more low (front 3 (drop (at + 1) bytes)))

  -- there are no more bytes
  pub reads-cut : length bytes ≤ i → Err Cut ≡ all
  unfolding front carried placed
  reads-cut h = sym (g.same ∙ ap (λ (bs : List ℕ). placed at (carried weight value (i - at) (front g.k bs))) (drop_of_length-le bytes {i = i} h))

  -- one more
  module _ (h : i < length bytes) (b : ℕ) (is : b ≡ get_or bytes i 0) where
    here : drop i bytes ≡ b ∷ drop (i + 1) bytes
    here = drop-cons bytes i 0 h ∙ sym (λ t. is t ∷ drop (add-one i t) bytes)

    abbrev left : Front
    left = front g.k (b ∷ drop (i + 1) bytes)

    goes : all ≡ placed at (carried weight value (i - at) left)
    goes = g.same ∙ ap (λ (bs : List ℕ). placed at (carried weight value (i - at) (front g.k bs))) here

    -- the fifth byte
    is-fifth : i - at ≡ 4 → g.k ≡ 0
    is-fifth e = omega (arith, g.places, g.behind)

    pub reads-large : i - at ≡ 4 → 15 < b → Err TooLarge ≡ all
    unfolding carried placed
    reads-large e l = sym (goes ∙ ap (λ (f : Front). placed at (carried weight value (i - at) f)) (front-large g.k b _ (is-fifth e) l))

    module _ (l : i - at ≡ 4 → b ≤ 15) where
      last-low : g.k ≡ 0 → b ≤ 15
      last-low z = l (omega (arith, g.places, g.behind))

      ends : b < 128 → all ≡ placed at (carried weight value (i - at) (Ok (b, 1)))
      ends last = goes ∙ ap (λ (f : Front). placed at (carried weight value (i - at) f)) (front-one g.k b _ last-low last)

      pub reads-longer : b ≡ 0 → Err Longer ≡ all
      unfolding carried placed
      reads-longer e = sym (ends (omega arith) ∙ rw (eq-eqb b 0 e, carried))

      -- a number's last group, with the bounds of what is added up
      pub reads-number : b < 128 → (b ≡ 0 → ⊥) → Ok (value + b * weight, i + 1) ≡ all
      unfolding placed
      reads-number last e =
          let behind : at + (i - at + 1) ≡ i + 1 = omega (arith, g.behind) in
          sym (ends last ∙ ap (placed at) (carried-number weight value (i - at) b 1 (omega (arith, e))) ∙ ap (λ (m : ℕ). Ok (value + b * weight, m)) behind)

      pub last_fits : b < 128 → b * weight + weight ≤ 4294967296
      last_fits last = weight-fits g.k weight b g.weighs last-low last

      -- a group with the high bit: the next one has a group less behind it
      pub reads_more : 128 ≤ b → b < 256 → Added bytes at low value weight i b
      unfolding front
      reads_more high byte = by g.k refl
        where
          added : (b - 128) * weight + weight ≤ weight * 128
          added = omega (arith, mul-le-mul_right {m = b - 128} {n = 127} weight (omega arith))

          by : (k : ℕ) → g.k ≡ k → Added bytes at low value weight i b
          by zero e = absurd (omega (arith, last-low e))
          by (suc k) e =
              let heavier : weight * 128 ≡ weight_of k = ap (λ (w : ℕ). w * 128) (g.weighs ∙ ap weight_of e) ∙ weight-up k (omega (arith, g.places, g.behind, e)) in
              let step : i - at + 1 ≡ i + 1 - at = omega (arith, g.behind) in
              record {
                fits = omega (arith, heavier, weight-most k);
                then = record {
                  k = k;
                  places = omega (arith, g.places, e);
                  behind = omega (arith, g.behind);
                  weighs = heavier;
                  less = omega (arith, added, g.less);
                  same = goes
                      ∙ ap (λ (m : ℕ). placed at (carried weight value (i - at) (front m (b ∷ drop (i + 1) bytes)))) e
                      ∙ ap (λ (f : Front). placed at (carried weight value (i - at) f)) (rw (le-ltb b 128 high, front))
                      ∙ ap (placed at) (carried-more weight value (i - at) (b - 128) (front k (drop (i + 1) bytes)))
                      ∙ ap (λ (j : ℕ). placed at (carried (weight * 128) (value + (b - 128) * weight) j (front k (drop (i + 1) bytes)))) step;
                };
              }

-- the number at a place, by its first byte
module _ (bytes : List ℕ) (at : ℕ) where
  pub number_cut : length bytes ≤ at → Err Cut ≡ number_at bytes at
  unfolding front placed
  number_cut h = sym (ap (λ (bs : List ℕ). placed at (front 4 bs)) (drop_of_length-le bytes {i = at} h))

  module _ (h : at < length bytes) (b : ℕ) (is : b ≡ get_or bytes at 0) where
    first : number_at bytes at ≡ placed at (front 4 (b ∷ drop (at + 1) bytes))
    first = ap (λ (bs : List ℕ). placed at (front 4 bs)) (drop-cons bytes at 0 h ∙ sym (λ t. is t ∷ drop (add-one at t) bytes))

    pub number_one : b < 128 → Ok (b, at + 1) ≡ number_at bytes at
    unfolding placed
    number_one l = sym (first ∙ ap (placed at) (front-one 4 b _ (λ e. absurd (omega arith)) l))

    pub number_more : 128 ≤ b → placed at (more (b - 128) (front 3 (drop (at + 1) bytes))) ≡ number_at bytes at
    unfolding front
    number_more l = sym (first ∙ ap (placed at) (rw (le-ltb b 128 l, front)))
