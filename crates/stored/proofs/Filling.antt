-- A number of the sample digit by digit, and a room that is filled number by number.
use Rattle.std.proofs.Common.{◌≡◌, ℕ, zero, suc, ◌+◌, ◌*◌, ◌%◌, ◌≤◌, ◌<◌, true, false, List, [], ◌∷◌, ◌++◌, length, get_or, take, drop, set, refl, ap, add-one, drop-cons, drop_of_length-le}
use Rattle.std.proofs.Math.Seq.{take-suc-set}
use Rattle.std.proofs.lemmas.Slice.Zip.{all_zipped_more}
use Rattle.std.specs.List.{AllZip}
use Rattle.std.specs.Char.{is_ascii_digit}
use Rattle.stored.specs.Numbers.{digits, number_at, numbers, behind}

-- at a digit, at another byte, and at the end of the sample
pub at_digit : (value at : ℕ) (s : List ℕ) → at < length s → is_ascii_digit (get_or s at 0) ≡ true
    → digits value at (drop at s) ≡ digits (value % 1000000000000000000 * 10 + get_or s at 0 % 16) (at + 1) (drop (at + 1) s)
unfolding digits
at_digit value at s h d = rw add-one (rw (drop-cons s at 0 h, digits, d))

pub at_other : (value at : ℕ) (s : List ℕ) → at < length s → is_ascii_digit (get_or s at 0) ≡ false
    → digits value at (drop at s) ≡ record { value = value; next = at + 1 }
unfolding digits
at_other value at s h d = rw add-one (rw (drop-cons s at 0 h, digits, d))

pub at_end : (value at : ℕ) (s : List ℕ) → length s ≤ at → digits value at (drop at s) ≡ record { value = value; next = at }
unfolding digits
at_end value at s h = rw (drop_of_length-le s h, digits)

pub ruleset reading_steps = (at_digit, at_other, at_end)

-- one number more, and the place behind it
numbers_more : (n : ℕ) (s : List ℕ) (at : ℕ) → numbers (suc n) s at ≡ numbers n s at ++ (number_at s (behind n s at)).value ∷ []
unfolding numbers behind
numbers_more zero s at = refl
numbers_more (suc n) s at = ap (λ (l : List ℕ). (number_at s at).value ∷ l) (numbers_more n s (number_at s at).next)

behind_suc : (n : ℕ) (s : List ℕ) (at : ℕ) → behind (suc n) s at ≡ (number_at s (behind n s at)).next
unfolding behind
behind_suc zero s at = refl
behind_suc (suc n) s at = behind_suc n s (number_at s at).next

pub behind_more : (n : ℕ) (s : List ℕ) (at : ℕ) → behind (n + 1) s at ≡ (number_at s (behind n s at)).next
behind_more n s at = rw add-one (behind_suc n s at)

-- the front of a room with an element more, which is made of the next number
pub front_more : {T : Type 0} (R : ℕ → T → Type 0) (s : List ℕ) (from i : ℕ) (room : List T) (v : ℕ) (x : T) → v ≡ (number_at s (behind i s from)).value
    → R v x → i < length room → AllZip R (numbers i s from) (take i room) → AllZip R (numbers (i + 1) s from) (take (i + 1) (set room i x))
front_more R s from i room v x e r h front =
    rw (add-one, numbers_more, take-suc-set room i x h, ← e) (all_zipped_more R _ _ v x front r)
