-- There and back, of a number: its bytes begin with it, whatever stands behind them; and bytes that
-- begin with a number begin with its bytes.
use Rattle.std.proofs.lemmas.Bool.Decides.{nat_tests}
use Prim.Native.Nat.{ℕ, zero, suc, ◌+◌, ◌-◌, ◌*◌, ◌/◌, ◌%◌, ◌≤◌, ◌<◌}
use mathlib.Core.Path.{◌≡◌, refl, sym, ap, ◌∙◌}
use mathlib.Core.List.{List, [], ◌∷◌, ◌++◌, append_assoc}
use mathlib.Core.Bool.{Bool, true, false}
use native.Mathlib.Omega.{arith}
use borrow.Author.Tests.{ltb-true, ltb-false, eqb-false, le-leb, lt-ltb, le-ltb, ne_eqb}
use lib.Dec.{ltb, eqb}
use lib.ListN.{length, get_or, take}
use Rattle.std.specs.Prelude.{Ok, Err}
use Rattle.groups.specs.Groups.{groups, spelled, spelled_all, Front, more, front}

-- so many numbers fit k + 1 groups, if the last of five is at most 15
unfoldable pub limit : ℕ → ℕ
limit zero = 16
limit (suc k) = 128 * limit k

limit-some : (k : ℕ) → 1 ≤ limit k
unfolding limit
limit-some zero = omega arith
limit-some (suc k) = omega (arith, limit-some k)

-- a group before a number that is not 0
pub more-number : (low n size : ℕ) → 1 ≤ n → more low (Ok (n, size)) ≡ Ok (low + 128 * n, suc size)
unfolding more
more-number low n size h = rw (ne_eqb n 0 (λ e. omega arith), more)

-- bytes
abbrev pub Bytes : List ℕ → Type 0
Bytes bs = (i : ℕ) → get_or bs i 0 < 256

bytes-more : (b : ℕ) (bs : List ℕ) → b < 256 → Bytes bs → Bytes (b ∷ bs)
bytes-more b bs h y zero = h
bytes-more b bs h y (suc i) = y i

pub bytes-none : Bytes []
bytes-none i = omega arith

pub bytes-append : (a b : List ℕ) → Bytes a → Bytes b → Bytes (a ++ b)
bytes-append [] b x y = y
bytes-append (c ∷ a) b x y = bytes-more c (a ++ b) (x 0) (bytes-append a b (λ i. x (suc i)) y)

pub groups-bytes : (k n : ℕ) → n < limit k → Bytes (groups k n)
unfolding groups limit
groups-bytes zero n h = bytes-more n [] (omega arith) bytes-none
groups-bytes (suc k) n h = go (ltb n 128) refl (groups-bytes k (n / 128))
  where
    go : (t : Bool) → ltb n 128 ≡ t → (n / 128 < limit k → Bytes (groups k (n / 128))) → Bytes (groups (suc k) n)
    go true e ih = rw (e, groups) (bytes-more n [] (omega (arith, ltb-true n 128 e)) bytes-none)
    go false e ih = rw (e, groups) (bytes-more (128 + n % 128) (groups k (n / 128)) (omega arith) (ih (omega arith)))

-- a number's bytes
pub front-groups : (k n : ℕ) (rest : List ℕ) → n < limit k → front k (groups k n ++ rest) ≡ Ok (n, length (groups k n))
unfolding front groups limit
front-groups zero n rest h = rw (le-leb n 15 (omega arith), front)
front-groups (suc k) n rest h = go (ltb n 128) refl (front-groups k (n / 128) rest)
  where
    part : ℕ
    part = 128 + n % 128

    go : (t : Bool) → ltb n 128 ≡ t → (n / 128 < limit k → front k (groups k (n / 128) ++ rest) ≡ Ok (n / 128, length (groups k (n / 128))))
        → front (suc k) (groups (suc k) n ++ rest) ≡ Ok (n, length (groups (suc k) n))
    go true e ih = rw (e, groups) (rw (e, front))
    go false e ih =
        rw (e, groups)
        (rw (le-ltb part 128 (omega arith), front)
        (ap (more (part - 128)) (ih (omega arith))
        ∙ more-number (part - 128) (n / 128) (length (groups k (n / 128))) (omega (arith, ltb-false n 128 e))
        ∙ ap (λ (m : ℕ). Ok (m, suc (length (groups k (n / 128))))) (omega arith)))

-- one byte at least, and one for each group at most
pub groups-size : (k n : ℕ) → (1 ≤ length (groups k n)) × (length (groups k n) ≤ suc k)
unfolding groups
groups-size zero n = (omega arith, omega arith)
groups-size (suc k) n = go (ltb n 128) refl (groups-size k (n / 128))
  where
    go : (t : Bool) → ltb n 128 ≡ t → (1 ≤ length (groups k (n / 128))) × (length (groups k (n / 128)) ≤ suc k)
        → (1 ≤ length (groups (suc k) n)) × (length (groups (suc k) n) ≤ suc (suc k))
    go true e s = rw (e, groups) (omega arith, omega arith)
    go false e s = rw (e, groups) (omega arith, omega (arith, s.1))

-- a number at the front of some bytes is of their first ones
pub record Begins (k : ℕ) (bs : List ℕ) (n size : ℕ) : Type 0 where
  pub spelled : take size bs ≡ groups k n
  pub small : n < limit k
  pub some : 1 ≤ size
  pub within : size ≤ length bs

-- the same number of as many bytes
same-number : (a b c d : ℕ) → ◌≡◌ {A = Front} (Ok (a, b)) (Ok (c, d)) → (a ≡ c) × (b ≡ d)
same-number a b c d e = let pair : ◌≡◌ {A = ℕ × ℕ} (a, b) (c, d) = cc in (ap (λ (p : ℕ × ℕ). p.0) pair, ap (λ (p : ℕ × ℕ). p.1) pair)

-- of one byte
begins-one : (k b : ℕ) (bs : List ℕ) (n size : ℕ) → b < 128 → (k ≡ 0 → b ≤ 15) → ◌≡◌ {A = Front} (Ok (b, 1)) (Ok (n, size)) → Begins k (b ∷ bs) n size
unfolding groups limit
begins-one zero b bs n size h l e = grind (arith, nat_tests)
begins-one (suc k) b bs n size h l e =
    let same = same-number b 1 n size e in
    rw (← same.0, ← same.1) (record { spelled = rw (lt-ltb b 128 h, groups); small = omega (arith, limit-some k); some = omega arith; within = omega arith })

pub front-begins : (k : ℕ) (bs : List ℕ) (n size : ℕ) → Bytes bs → front k bs ≡ Ok (n, size) → Begins k bs n size
unfolding front more groups limit
front-begins k [] n size y e = cc
front-begins zero (b ∷ bs) n size y e = grind (arith, nat_tests)
front-begins (suc k) (b ∷ bs) n size y e = go (ltb b 128) refl (λ m size' f. front-begins k bs m size' (λ i. y (suc i)) f)
  where
    -- a group before a number
    behind : (m size' : ℕ) → 128 ≤ b → Begins k bs m size' → (t : Bool) → eqb m 0 ≡ t → more (b - 128) (Ok (m, size')) ≡ Ok (n, size) → Begins (suc k) (b ∷ bs) n size
    behind m size' h g true t e = let x = rw (t, more) at e in cc
    behind m size' h g false t e =
        let same = same-number _ _ n size (rw (t, more) at e) in
        let is : (b - 128) + 128 * m ≡ n = same.0 in
        let some : 1 ≤ m = omega (arith, eqb-false m 0 t) in
        let last : b ≡ 128 + n % 128 = omega (arith, y 0) in
        let front_of : m ≡ n / 128 = omega (arith, y 0) in
        rw (← same.1) (record {
          spelled = rw (le-ltb n 128 (omega arith), groups) (λ i. last i ∷ (g.spelled ∙ ap (groups k) front_of) i);
          small = omega (arith, g.small);
          some = omega arith;
          within = omega (arith, g.within);
        })

    go : (t : Bool) → ltb b 128 ≡ t → ((m size' : ℕ) → front k bs ≡ Ok (m, size') → Begins k bs m size') → Begins (suc k) (b ∷ bs) n size
    go true t ih = begins-one (suc k) b bs n size (ltb-true b 128 t) (λ z. absurd (omega arith)) (rw (t, front) at e)
    go false t ih = by (front k bs) refl (rw (t, front) at e)
      where
        by : (f : Front) → front k bs ≡ f → more (b - 128) f ≡ Ok (n, size) → Begins (suc k) (b ∷ bs) n size
        by (Ok (m, size')) f e = behind m size' (ltb-false b 128 t) (ih m size' f) (eqb m 0) refl e
        by (Err w) f e = cc

-- some numbers behind others
pub spelled-append : (ns ms : List ℕ) → spelled_all (ns ++ ms) ≡ spelled_all ns ++ spelled_all ms
unfolding spelled_all
spelled-append [] ms = refl
spelled-append (n ∷ ns) ms = ap (λ (bs : List ℕ). spelled n ++ bs) (spelled-append ns ms) ∙ sym (append_assoc (spelled n) (spelled_all ns) (spelled_all ms))
