-- Numbers on a line, and events line by line.
use Rattle.std.proofs.Common.{◌≡◌, ℕ, zero, suc, ◌+◌, ◌<◌, ◌≤◌, List, [], ◌∷◌, ◌++◌, map, length, get_or, take, decimal, refl, ap, ◌∙◌, arith, add-one, append_assoc, ◌/◌, length-append, drop, take_at, drop_at}
use Rattle.std.specs.List.{join_with_byte}
use Rattle.reading.specs.Events.{event_numbers}
use Rattle.printing.specs.Printed.{numbers_line, event_lines, events_text}

-- numbers with a blank between each two
abbrev pub joined : List ℕ → List ℕ
joined ns = join_with_byte 32 (map decimal ns)

-- one number more, behind a blank unless it is the first
joined_suc : (x : ℕ) (ns : List ℕ) (i : ℕ) → i < length ns → joined (x ∷ take i ns) ++ (32 ∷ decimal (get_or ns i 0)) ≡ joined (x ∷ take (suc i) ns)
joined_suc x [] i h = absurd (omega arith)
joined_suc x (y ∷ ns) zero h = refl
joined_suc x (y ∷ ns) (suc i) h =
    append_assoc (decimal x) (32 ∷ joined (y ∷ take i ns)) (32 ∷ decimal (get_or ns i 0))
    ∙ ap (λ l. decimal x ++ (32 ∷ l)) (joined_suc y ns i (omega arith))

pub joined_more : (ns : List ℕ) (i : ℕ) → i < length ns → 0 < i → joined (take i ns) ++ (32 ∷ decimal (get_or ns i 0)) ≡ joined (take (i + 1) ns)
joined_more [] i h p = absurd (omega arith)
joined_more (x ∷ ns) zero h p = absurd (omega arith)
joined_more (x ∷ ns) (suc i) h p = rw add-one (joined_suc x ns i (omega arith))

pub joined_first : (ns : List ℕ) (i : ℕ) → i < length ns → i ≤ 0 → joined (take i ns) ++ decimal (get_or ns i 0) ≡ joined (take (i + 1) ns)
joined_first [] i h p = absurd (omega arith)
joined_first (x ∷ ns) zero h p = refl
joined_first (x ∷ ns) (suc i) h p = absurd (omega arith)

-- the events of a list: the first, and the others; and none in fewer numbers than an event has
pub events_text-first : (x rest : List ℕ) → length x ≡ event_numbers → numbers_line x ++ events_text rest ≡ events_text (x ++ rest)
unfolding event_lines
events_text-first x rest h =
    let n : length (x ++ rest) / event_numbers ≡ suc (length rest / event_numbers) = omega (arith, length-append x rest) in
    let front : take event_numbers (x ++ rest) ≡ x = take_at x rest event_numbers h in
    let behind : drop event_numbers (x ++ rest) ≡ rest = drop_at x rest event_numbers h in
    rw (n, event_lines, front, behind)

pub events_text-none : (rest : List ℕ) → length rest < event_numbers → events_text rest ≡ []
unfolding event_lines
events_text-none rest h = let n : length rest / event_numbers ≡ 0 = omega arith in rw (n, event_lines)
