-- Numbers that are compared one by one with the stored ones: those that are left decide.
use Rattle.std.proofs.Common.{◌≡◌, ℕ, ◌+◌, ◌≤◌, ◌<◌, Bool, false, ◌&&◌, ◌==◌, List, map, length, get_or, take, drop, add-one, drop-cons, drop_of_length-le}
use Rattle.std.proofs.lemmas.List.{length-map, take-map, drop-map}
use Rattle.std.proofs.lemmas.List.Folds.{list_all-map}
use mathlib.Core.Bool.{and_assoc, and-true}
use borrow.Author.Tests.{lt-ltb, le-ltb}
use Rattle.std.specs.List.{list_all}
use Rattle.stored.specs.Numbers.{number_at}
use Rattle.replay_sheets.specs.Rooms.{both, same_as, holds}

module _ {T : Type 0} (v : T → ℕ) (s : List ℕ) (at : ℕ) where
  -- one number more, and none
  pub beside_more : (part : List T) (i : ℕ) (t : Bool) (n : T) → i < length part → n ≡ get_or part i n
      → both (t && (v n == (number_at s at).value)) (same_as (map v (drop (i + 1) part)) s (number_at s at).next) ≡ both t (same_as (map v (drop i part)) s at)
  unfolding same_as
  beside_more part i t n h e = rw (add-one, drop-cons part i n h, ← e, same_as, and_assoc)

  pub beside_none : (part : List T) (i : ℕ) (t : Bool) → length part ≤ i → both t (same_as (map v (drop i part)) s at) ≡ record { same = t; next = at }
  unfolding same_as
  beside_none part i t h = rw (drop_of_length-le part h, same_as, and-true)

  -- a room that is too short, and one that has a front of so many and a rest
  pub held_short : (room : List T) (count : ℕ) → length room < count → holds count (map v room) s at ≡ record { same = false; next = at }
  unfolding holds
  held_short room count h = rw (holds, length-map, lt-ltb (length room) count h)

  pub held_whole : (room front rest : List T) (count : ℕ) → count ≤ length room → front ≡ take count room → rest ≡ drop count room
      → holds count (map v room) s at ≡ both (list_all (λ n. v n == 0) rest) (same_as (map v front) s at)
  unfolding holds
  held_whole room front rest count h f r =
      rw (f, r, holds, length-map, le-ltb (length room) count h, take-map v count room, drop-map v count room, list_all-map)

pub ruleset beside_steps = (beside_more, beside_none)

pub ruleset held_steps = (held_short, held_whole)
