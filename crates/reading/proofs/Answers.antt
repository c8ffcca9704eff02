-- The answer: whoever lends N + 1 event records is never refused for event room, and demand 3 holds of every accepted sheet, and its events have their homes.
use Rattle.std.specs.Prelude.{None, Option, Some}
use Rattle.reading.specs.declared.Place.{Place}
use Prim.Native.Nat.{ℕ, ◌+◌, ◌*◌, ◌/◌, ◌≤◌}
use mathlib.Core.Path.{◌≡◌, refl}
use mathlib.Core.List.{List, [], ◌∷◌}
use mathlib.Core.Bool.{Bool, true, false, ◌&&◌, and-eq-true_iff}
use native.Mathlib.Omega.{arith}
use borrow.Author.Tests.{leb-true, le-leb}
use lib.Dec.{leb, ltb}
use lib.ListN.{length}
use Rattle.reading.specs.declared.Line.{Line}
use Rattle.reading.specs.Machine.{Sheet, State}
use Rattle.reading.specs.Blocks.{block_at}
use Rattle.reading.specs.Reading.{views, sheet_with, sheet, read}
use Rattle.reading.specs.Draining.{drain}
use Rattle.reading.specs.Events.{event_numbers, largest}
use Rattle.reading.specs.Questions.{Rooms, Outcome, Fed, total, first_outside, first_early, label_room, refuses, cleared, handed_out, judged}
use Rattle.reading.specs.Questions.{outcome_with, outcome}
use Rattle.reading.specs.Walked.{Accepted, AcceptedHomes}
use Rattle.reading.proofs.Choose.{choose}
use Rattle.reading.proofs.Feeding.{Rising}
use Rattle.reading.proofs.Theorems.{up, homes, room, whole}
use Rattle.reading.proofs.Counting.{search-room}

-- lines that rise are no longer together than the text
module _ (text : List ℕ) where
  total-within : (a : ℕ) (ls : List Line) → a ≤ length text → Rising text a ls → a + total ls ≤ length text
  unfolding Rising total
  total-within a [] h r = omega (arith, h)
  total-within a (l ∷ ls) h r = omega (arith, r.0, r.1, total-within l.end ls r.2 r.3)

module _ (text : List ℕ) (ls : List Line) (reading : ℕ) (rooms : Rooms) where
  -- the questions: what holds of a refusal under 1 to 6, and of what comes of lines that pass 3 and 4, holds of the outcome
  pub asks-with : (block : ℕ → Bool) (P : Outcome → Type 0) → ((code at : ℕ) → 1 ≤ code → code ≤ 6 → P (refuses code at rooms))
      → (Fed text ls → let s = read (sheet_with block text reading (label_room rooms.labels)) ls in P (judged ls s.refused s.fits s rooms))
      → P (outcome_with block text ls reading rooms)
  unfolding outcome_with
  asks-with block P early late =
      choose P (leb reading 1) _ _
      (λ a. choose P (leb (length text) 1048576 && leb (length ls) 1048576) _ _
      (λ b. choose P (ltb (first_outside text ls) (length ls)) _ _
      (λ c. early 3 (first_outside text ls) (omega arith) (omega arith))
      (λ c. choose P (ltb (first_early 0 ls) (length ls)) _ _
      (λ d. early 4 (first_early 0 ls) (omega arith) (omega arith))
      (λ d. choose P (leb (2 * total ls + 1) (length rooms.queue / 8)) _ _
      (λ f. choose P (leb (total ls) (length rooms.openers / 4)) _ _
      (λ g. late (record { inside = c; apart = d }))
      (λ g. early 6 0 (omega arith) (omega arith)))
      (λ f. early 5 0 (omega arith) (omega arith)))))
      (λ b. early 2 0 (omega arith) (omega arith)))
      (λ a. early 1 0 (omega arith) (omega arith))

  abbrev x : Sheet
  x = sheet text ls reading (label_room rooms.labels)

  pub asks : (P : Outcome → Type 0) → ((code at : ℕ) → 1 ≤ code → code ≤ 6 → P (refuses code at rooms))
      → (Fed text ls → P (judged ls (read x ls).refused (read x ls).fits (read x ls) rooms)) → P (outcome text ls reading rooms)
  asks = asks-with (block_at (views text ls))

  -- 7 and 8 are refusals too; behind them the list is handed out
  judges : (P : Outcome → Type 0) → ((code at : ℕ) → 1 ≤ code → code ≤ 8 → P (refuses code at (cleared rooms)))
      → (r : Option Place) (f : Bool) (s : State) → (r ≡ None → f ≡ true → P (handed_out ls (drain s.queue) s.labels s.looks rooms)) → P (judged ls r f s rooms)
  unfolding judged
  judges P early (Some p) f s late = early 7 p.0 (omega arith) (omega arith)
  judges P early None false s late = early 8 0 (omega arith) (omega arith)
  judges P early None true s late = late refl refl

  -- whoever lends N + 1 event records is never refused for event room
  pub never-nine : total ls + 1 ≤ length rooms.events / event_numbers → (outcome text ls reading rooms).answer.code ≡ 9 → ⊥
  unfolding handed_out
  never-nine lends =
      asks Other (λ code at l u e. omega (arith, e, u))
      (λ fed. judges Other (λ code at l u e. omega (arith, e, u)) (read x ls).refused (read x ls).fits (read x ls)
      (λ r f e.
      let z = rw (le-leb (length (drain (read x ls).queue)) (length rooms.events / event_numbers) (omega (arith, lends, room x ls fed r)), handed_out) at e in
      omega (arith, z)))
    where
      Other : Outcome → Type 0
      Other o = o.answer.code ≡ 9 → ⊥

  -- demand 3 of every accepted sheet
  pub accepted : (outcome text ls reading rooms).answer.code ≡ 0 → Accepted text ls reading rooms (outcome text ls reading rooms)
  unfolding handed_out
  accepted =
      asks Claim (λ code at l u e. absurd (omega (arith, e, l)))
      (λ fed. judges Claim (λ code at l u e. absurd (omega (arith, e, l))) (read x ls).refused (read x ls).fits (read x ls)
      (λ r f. go r f fed (leb (length (drain (read x ls).queue)) (length rooms.events / event_numbers)) refl))
    where
      Claim : Outcome → Type 0
      Claim o = o.answer.code ≡ 0 → Accepted text ls reading rooms o

      go : (read x ls).refused ≡ None → (read x ls).fits ≡ true → Fed text ls → (b : Bool) → leb (length (drain (read x ls).queue)) (length rooms.events / event_numbers) ≡ b
          → Claim (handed_out ls (drain (read x ls).queue) (read x ls).labels (read x ls).looks rooms)
      go r f fed true b e =
          record { whole = whole x ls fed r; count = rw (b, handed_out); handed = rw (b, handed_out); search = rw (b, handed_out) (search-room x ls fed r) }
      go r f fed false b e = absurd (omega (arith, rw (b, handed_out) at e))

  -- the homes of the events of every accepted sheet
  pub homed : (outcome text ls reading rooms).answer.code ≡ 0 → AcceptedHomes text ls reading rooms (outcome text ls reading rooms)
  unfolding handed_out
  homed =
      asks Claim (λ code at l u e. absurd (omega (arith, e, l)))
      (λ fed. judges Claim (λ code at l u e. absurd (omega (arith, e, l))) (read x ls).refused (read x ls).fits (read x ls)
      (λ r f. go r f fed (leb (length (drain (read x ls).queue)) (length rooms.events / event_numbers)) refl))
    where
      Claim : Outcome → Type 0
      Claim o = o.answer.code ≡ 0 → AcceptedHomes text ls reading rooms o

      go : (read x ls).refused ≡ None → (read x ls).fits ≡ true → Fed text ls → (b : Bool) → leb (length (drain (read x ls).queue)) (length rooms.events / event_numbers) ≡ b
          → Claim (handed_out ls (drain (read x ls).queue) (read x ls).labels (read x ls).looks rooms)
      go r f fed true b e = record { homes = rw (b, handed_out) (homes x ls fed r f) }
      go r f fed false b e = absurd (omega (arith, rw (b, handed_out) at e))

  -- a sheet that is read has a text that is not too large, and lines of it, which are no longer together
  small : (outcome text ls reading rooms).answer.code ≡ 0 → length text ≤ largest
  unfolding outcome_with
  small =
      choose Claim (leb reading 1) _ _
      (λ a. choose Claim (leb (length text) largest && leb (length ls) largest) _ _
      (λ b e. leb-true (length text) largest ((and-eq-true_iff (leb (length text) largest) (leb (length ls) largest)).0 b).0)
      (λ b e. absurd (omega (arith, e))))
      (λ a e. absurd (omega (arith, e)))
    where
      Claim : Outcome → Type 0
      Claim o = o.answer.code ≡ 0 → length text ≤ largest

  pub short : (outcome text ls reading rooms).answer.code ≡ 0 → total ls ≤ largest
  short e = omega (arith, small e, total-within text 0 ls (omega arith) (up x ls (fed e)))
    where
      fed : (outcome text ls reading rooms).answer.code ≡ 0 → Fed text ls
      fed = asks (λ (o : Outcome). o.answer.code ≡ 0 → Fed text ls) (λ code at l u e. absurd (omega (arith, e, l))) (λ f e. f)
