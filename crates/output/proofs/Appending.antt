-- The laws of `append` and `Adds`: one stretch after another, a loop over what is left, and what whoever lent the room learns.
use Rattle.std.specs.Prelude.{ℕ, ◌+◌, ◌≤◌, ◌<◌, ◌≡◌, refl, List, [], ◌++◌, Bool, true, false, leb, length, take, Option, Some, None}
use Rattle.std.proofs.Common.{rules, arith, sym, ap, ◌∙◌, append_assoc, length-append}
use borrow.Author.Tests.{leb-false, le-leb, lt-leb}
use lib.Seq.{length-take-le}
use Rattle.output.specs.declared.Output.{Output}
use Rattle.output.specs.Written.{written, append, Within, Wrote, Adds}

-- where the room holds them, and where not
append-in : (size : ℕ) (bs w : List ℕ) → length w + length bs ≤ size → append size bs (Some w) ≡ Some (w ++ bs)
unfolding append
append-in size bs w h = rw (le-leb (length w + length bs) size h, append)

append-over : (size : ℕ) (bs w : List ℕ) → size < length w + length bs → append size bs (Some w) ≡ None
unfolding append
append-over size bs w h = rw (lt-leb (length w + length bs) size h, append)

-- one stretch after another
pub append-append : (size : ℕ) (a b : List ℕ) (w : Option (List ℕ)) → append size b (append size a w) ≡ append size (a ++ b) w
unfolding append
append-append size a b None = refl
append-append size a b (Some w) = go (leb (length w + length a) size) refl
  where
    go : (t : Bool) → leb (length w + length a) size ≡ t
        → append size b (elim t [ true ↦ Some (w ++ a) | false ↦ None ]) ≡ append size (a ++ b) (Some w)
    go true e = (λ t. elim (leb (longer t) size) [ true ↦ Some (append_assoc w a b t) | false ↦ None ])
      where
        longer : length (w ++ a) + length b ≡ length w + length (a ++ b)
        longer = omega (arith, length-append w a, length-append a b)
    go false e =
        sym (append-over size (a ++ b) w (omega (arith, leb-false (length w + length a) size e, length-append a b)))

-- what whoever lent the room learns
pub adds-wrote : (o : Output) (bs : List ℕ) (o' : Output) → Adds o bs (Some tt) o' → Wrote o.room.now o.at bs (Some o'.at) o'.room.now
unfolding written Within
adds-wrote o bs o' a =
    record {
      same = ap Some a.wrote ∙ sym (append-in (length o.room.now) bs (take o.at o.room.now) (omega (arith, length-take-le o.at o.room.now o.within, a.at, a.size, o'.within)));
      within = omega (arith, o'.within, a.size);
      size = a.size;
    }

pub adds-over : (o : Output) (bs : List ℕ) (o' : Output) → Adds o bs None o' → Wrote o.room.now o.at bs None o'.room.now
unfolding written Within
adds-over o bs o' a =
    record {
      same = sym (append-over (length o.room.now) bs (take o.at o.room.now) (omega (arith, length-take-le o.at o.room.now o.within, a.full refl)));
      within = tt;
      size = a.size;
    }

-- a loop that writes: with what is left to write it comes to all of it
pub record Left (o₀ : Output) (all : List ℕ) (o : Output) (left : List ℕ) : Type 0 where
  pub same : take o.at o.room.now ++ left ≡ take o₀.at o₀.room.now ++ all
  pub at : o.at + length left ≡ o₀.at + length all
  pub size : length o.room.now ≡ length o₀.room.now
  pub lent : o.room.ghost_name ≡ o₀.room.ghost_name

pub left-all : (o : Output) (all : List ℕ) → Left o all o all
left-all o all = search rules

module _ {o₀ : Output} {all : List ℕ} {o : Output} where
  -- some of it was written
  pub left_less : (a left : List ℕ) (o' : Output) → Left o₀ all o (a ++ left) → Adds o a (Some tt) o' → Left o₀ all o' left
  left_less a left o' x w =
      record {
        same = rw (w.wrote) (append_assoc (take o.at o.room.now) a left ∙ x.same);
        at = omega (arith, w.at, x.at, length-append a left);
        size = w.size ∙ x.size;
        lent = w.lent ∙ x.lent;
      }

  -- or there was no room for it
  pub left-full : (a left : List ℕ) (o' : Output) → Left o₀ all o (a ++ left) → Adds o a None o' → Adds o₀ all None o'
  left-full a left o' x w =
      record {
        wrote = tt;
        at = tt;
        full = λ e. omega (arith, w.full refl, x.at, x.size, length-append a left);
        size = w.size ∙ x.size;
        lent = w.lent ∙ x.lent;
      }

  -- what was left is written
  pub left-then : (left : List ℕ) (r : Option (Unit {0})) (o' : Output) → Left o₀ all o left → Adds o left r o' → Adds o₀ all r o'
  left-then left r o' x w = search rules

  -- nothing is left
  pub left-none : Left o₀ all o [] → Adds o₀ all (Some tt) o
  left-none x = search rules
