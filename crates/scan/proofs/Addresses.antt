-- An address up to its first mark, and from there on.
use Rattle.std.specs.Prelude.{None}
use Prim.Native.Nat.{ℕ, suc, ◌+◌, ◌-◌, ◌≤◌}
use mathlib.Core.Path.{◌≡◌, refl, sym, ap, ◌∙◌}
use mathlib.Core.List.{List, [], ◌∷◌}
use mathlib.Core.Bool.{Bool, true, false, not, ◌&&◌, ◌||◌, and-eq-true_iff, and-true, or-false, false≢true}
use native.Mathlib.Nat.{zero-add, suc-add}
use borrow.Author.Tests.{eqb-true, not-true}
use lib.Dec.{eqb}
use lib.ListN.{length, get_or, take, drop, get_or-eq_default}
use Rattle.classes.specs.Classes.{bytes, among, blank}
use Rattle.classes.specs.declared.Set.TheVariants.{Address, Unmarked}
use Rattle.classes.specs.Sets.{in_set, run}
use Rattle.classes.proofs.Runs.{run-stop, run_more}
use Rattle.classes.proofs.Parts.{part-from}
use Rattle.scan.specs.Scans.{closed_at, upto_of, mark, marked, autolink_of}

-- an unmarked byte of an address
split : (x y z w k : Bool) → not (x || (y || (z || (w || false))) || k) ≡ (not (x || (y || false) || k) && not (z || (w || false)))
split true y z w k = refl
split false true z w k = refl
split false false true w true = refl
split false false true w false = refl
split false false false true true = refl
split false false false true false = refl
split false false false false true = refl
split false false false false false = refl

unmarked : (b : ℕ) → in_set Unmarked b ≡ (in_set Address b && not (mark b))
unfolding in_set bytes among mark
unmarked b = split (eqb b 60) (eqb b 62) (eqb b 58) (eqb b 64) (blank b)

-- a mark is of the address
mark-address : (b : ℕ) → mark b ≡ true → in_set Address b ≡ true
unfolding in_set bytes among mark blank
mark-address b e = go (eqb b 58) refl (eqb b 64) refl
  where
    go : (x : Bool) → eqb b 58 ≡ x → (y : Bool) → eqb b 64 ≡ y → in_set Address b ≡ true
    go true p y q = rw (eqb-true b 58 p)
    go false p true q = rw (eqb-true b 64 q)
    go false p false q = let f = rw (p, q) at e in cc

-- one byte that is not marked
module _ (b : ℕ) (bs : List ℕ) (e : in_set Unmarked b ≡ true) where
  parts : (in_set Address b ≡ true) × (not (mark b) ≡ true)
  parts = (and-eq-true_iff (in_set Address b) (not (mark b))).0 (sym (unmarked b) ∙ e)

  marked_more : marked (take (run (in_set Address) (b ∷ bs)) (b ∷ bs)) ≡ marked (take (run (in_set Address) bs) bs)
  unfolding marked
  marked_more = rw (run_more (in_set Address) b bs parts.0, not-true (mark b) parts.1)

-- at the first byte that is marked or ends the address
unmarked-at : (s : List ℕ) → mark (get_or s (run (in_set Unmarked) s) 0) ≡ false → marked (take (run (in_set Address) s) s) ≡ false
unfolding run marked
unmarked-at [] m = refl
unmarked-at (b ∷ bs) m = go (in_set Unmarked b) refl (unmarked-at bs)
  where
    go : (x : Bool) → in_set Unmarked b ≡ x → (mark (get_or bs (run (in_set Unmarked) bs) 0) ≡ false → marked (take (run (in_set Address) bs) bs) ≡ false)
        → marked (take (run (in_set Address) (b ∷ bs)) (b ∷ bs)) ≡ false
    go true e ih = marked_more b bs e ∙ ih (rw (run_more (in_set Unmarked) b bs e) at m)
    go false e ih =
        let here : mark b ≡ false = rw (run-stop (in_set Unmarked) b bs e) at m in
        let out = rw here at (sym (unmarked b) ∙ e) in
        rw (run-stop (in_set Address) b bs (sym (and-true (in_set Address b)) ∙ out))

marked-at : (s : List ℕ) → mark (get_or s (run (in_set Unmarked) s) 0) ≡ true
    → (marked (take (run (in_set Address) s) s) ≡ true) × (run (in_set Address) s ≡ run (in_set Unmarked) s + run (in_set Address) (drop (run (in_set Unmarked) s) s))
unfolding run marked mark bytes among
marked-at [] m = absurd (false≢true m)
marked-at (b ∷ bs) m = go (in_set Unmarked b) refl (marked-at bs)
  where
    go : (x : Bool) → in_set Unmarked b ≡ x
        → (mark (get_or bs (run (in_set Unmarked) bs) 0) ≡ true
        → (marked (take (run (in_set Address) bs) bs) ≡ true) × (run (in_set Address) bs ≡ run (in_set Unmarked) bs + run (in_set Address) (drop (run (in_set Unmarked) bs) bs)))
        → (marked (take (run (in_set Address) (b ∷ bs)) (b ∷ bs)) ≡ true)
        × (run (in_set Address) (b ∷ bs) ≡ run (in_set Unmarked) (b ∷ bs) + run (in_set Address) (drop (run (in_set Unmarked) (b ∷ bs)) (b ∷ bs)))
    go true e ih =
        let r = ih (rw (run_more (in_set Unmarked) b bs e) at m) in (
          marked_more b bs e ∙ r.0,
          rw (run_more (in_set Address) b bs (parts b bs e).0, run_more (in_set Unmarked) b bs e, suc-add) (ap suc r.1),
        )
    go false e ih =
        let here : mark b ≡ true = rw (run-stop (in_set Unmarked) b bs e) at m in (
          rw (run_more (in_set Address) b bs (mark-address b here)) (rw here),
          rw (run-stop (in_set Unmarked) b bs e) (sym (zero-add (run (in_set Address) (b ∷ bs)))),
        )

-- the answer, from the end n of what is not marked
module _ (s : List ℕ) (n : ℕ) (en : n ≡ run (in_set Unmarked) s) where
  pub autolink_miss : mark (get_or s n 0) ≡ false → None ≡ autolink_of s
  unfolding autolink_of
  autolink_miss m = rw (unmarked-at s (rw en at m), autolink_of)

  pub autolink_end : length s ≤ n → None ≡ autolink_of s
  unfolding mark bytes among
  autolink_end h = autolink_miss (ap mark (get_or-eq_default s 0 h))

  pub autolink_hit : mark (get_or s n 0) ≡ true → (more : ℕ) → more ≡ run (in_set Address) (take (length s - n) (drop n s)) → closed_at s (n + more) 62 ≡ autolink_of s
  unfolding autolink_of upto_of
  autolink_hit m more em =
      let r = marked-at s (rw en at m) in
      let long : n + more ≡ run (in_set Address) s =
      rw (em, part-from s n, r.1, en)
      in
      rw (long, r.0, autolink_of)

pub mark_is : (b : ℕ) → mark b ≡ (eqb b 58 || eqb b 64)
unfolding mark bytes among
mark_is b = ap (λ (x : Bool). eqb b 58 || x) (or-false (eqb b 64))
