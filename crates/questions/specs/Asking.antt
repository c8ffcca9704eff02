-- Questions 1 to 6 as they are asked: the limits, the lines in one walk, the rooms. That they give the definition's outcome is a law.
use Rattle.std.specs.Prelude.{ℕ, ◌+◌, ◌-◌, ◌*◌, ◌/◌, ◌≤◌, List, true, false, ◌&&◌, leb, ltb, length, Option, Some, None, Result, Ok, Err}
use Rattle.reading.specs.declared.Line.{Line}
use Rattle.reading.specs.declared.refusal.Refusal.{Refusal}
use Rattle.reading.specs.declared.refusal.Refusal.TheVariants.{Reading, TooLarge, Outside, Early, QueueRoom, OpenerRoom}
use Rattle.reading.specs.Reading.{sheet, read}
use Rattle.reading.specs.Events.{queue_numbers, opener_numbers, largest}
use Rattle.reading.specs.Questions.{Rooms, Outcome, Fed, refuses, total, first_outside, first_early, label_room, judged}
use Rattle.reading.specs.Refusals.{code_of, place_of}
use Rattle.questions.specs.declared.LineWalk.{LineWalk}

-- 1 and 2, of a reading, a text of n bytes and k lines
abbrev pub limit : ℕ → ℕ → ℕ → Result (Unit {0}) Refusal
limit reading n k =
    elim (leb reading 1) [ false ↦ Err Reading | true ↦ elim (leb n largest && leb k largest) [ false ↦ Err TooLarge | true ↦ Ok tt ] ]

-- 3 and 4, of a text and its lines; then the bytes of these
unfoldable pub checked_lines : List ℕ → List Line → Result ℕ Refusal
checked_lines text ls =
    elim (ltb (first_outside text ls) (length ls)) [
      | true ↦ Err (Outside (first_outside text ls))
      | false ↦ elim (ltb (first_early 0 ls) (length ls)) [ true ↦ Err (Early (first_early 0 ls)) | false ↦ Ok (total ls) ]
    ]

-- 5 and 6, of N bytes and rooms of q and o numbers
abbrev pub roomy : ℕ → ℕ → ℕ → Result (Unit {0}) Refusal
roomy n q o =
    elim (leb (2 * n + 1) (q / queue_numbers)) [
      | false ↦ Err QueueRoom
      | true ↦ elim (leb n (o / opener_numbers)) [ false ↦ Err OpenerRoom | true ↦ Ok tt ]
    ]

-- a question behind others: the first refusal stands
infixl 10 ◌>>=◌
abbrev pub ◌>>=◌ : {A B : Type 0} → Result A Refusal → (A → Result B Refusal) → Result B Refusal
Ok a >>= f = f a
Err r >>= f = Err r

-- 1 to 6
unfoldable pub asked_of : List ℕ → List Line → ℕ → ℕ → ℕ → Result (Unit {0}) Refusal
asked_of text ls reading q o = do
  _ ← limit reading (length text) (length ls)
  n ← checked_lines text ls
  roomy n q o

-- what comes of it
unfoldable pub concluded : List ℕ → List Line → ℕ → Rooms → Result (Unit {0}) Refusal → Outcome
concluded text ls reading rooms (Err r) = refuses (code_of r) (place_of r) rooms
concluded text ls reading rooms (Ok _) =
    let s = read (sheet text ls reading (label_room rooms.labels)) ls in
    judged ls s.refused s.fits s rooms

-- a sheet that passes them
pub record Passed (text : List ℕ) (ls : List Line) (q o : List ℕ) : Type 0 where
  pub small : length text ≤ largest
  pub listed : length ls ≤ largest
  pub fed : Fed text ls
  pub room : (2 * total ls + 1) * queue_numbers ≤ length q
  pub stack : total ls * opener_numbers ≤ length o

-- the walk: the first early line so far, at a line i that starts at a, behind one that ends at b
abbrev pub early_of : Option ℕ → ℕ → ℕ → ℕ → Option ℕ
early_of (Some k) i a b = Some k
early_of None i a b = elim (ltb a b) [ true ↦ Some i | false ↦ None ]

abbrev pub onward : LineWalk → ℕ → Line → LineWalk
onward w i l = record { end = l.end; total = w.total + (l.end - l.start); early = early_of w.early i l.start w.end }

-- after line i, in a text of n bytes
abbrev pub line_of : ℕ → LineWalk → ℕ → Line → Result LineWalk Refusal
line_of n w i l = elim (leb l.start l.end && leb l.end n) [ true ↦ Ok (onward w i l) | false ↦ Err (Outside i) ]
