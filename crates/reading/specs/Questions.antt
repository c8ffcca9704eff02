-- Questions asked of a sheet, in order, and what every room holds afterwards (document 01, "Questions asked of a sheet, in order").
use Rattle.std.specs.Prelude.{ℕ, suc, ◌+◌, ◌-◌, ◌*◌, ◌/◌, ◌≡◌, List, [], ◌∷◌, ◌++◌, Bool, true, false, ◌&&◌, leb, ltb, length, replicate, Option, Some, None}
use Rattle.reading.specs.declared.Place.{Place}
use Rattle.reading.specs.declared.Line.{Line}
use Rattle.reading.specs.declared.Event.{Event}
use Rattle.reading.specs.declared.Located.{Located}
use Rattle.reading.specs.declared.Answer.{Answer}
use Rattle.reading.specs.Events.{event_numbers, queue_numbers, opener_numbers, largest, label_limit}
use Rattle.reading.specs.Machine.{State}
use Rattle.reading.specs.Blocks.{block_at}
use Rattle.reading.specs.Reading.{views, sheet_with, read}
use Rattle.reading.specs.Draining.{drain}
use Rattle.reading.specs.Located.{located}

-- N, the sum of the line lengths
unfoldable pub total : List Line → ℕ
total [] = 0
total (l ∷ ls) = (l.end - l.start) + total ls

-- the index of the first line for which a test fails, or the number of lines
unfoldable pub first_outside : List ℕ → List Line → ℕ
first_outside text [] = 0
first_outside text (l ∷ ls) = elim (leb l.start l.end && leb l.end (length text)) [ true ↦ suc (first_outside text ls) | false ↦ 0 ]

-- the index of the first line that starts before the end of the one before, which is a
unfoldable pub first_early : ℕ → List Line → ℕ
first_early a [] = 0
first_early a (l ∷ ls) = elim (leb a l.start) [ true ↦ suc (first_early l.end ls) | false ↦ 0 ]

-- lines that pass questions 3 and 4
pub record Fed (text : List ℕ) (ls : List Line) : Type 0 where
  pub inside : ltb (first_outside text ls) (length ls) ≡ false
  pub apart : ltb (first_early 0 ls) (length ls) ≡ false

-- the four rooms
pub record Rooms : Type 0 where
  pub events : List ℕ
  pub queue : List ℕ
  pub openers : List ℕ
  pub labels : List ℕ

pub record Outcome : Type 0 where
  pub answer : Answer
  pub rooms : Rooms

-- of a label room of more than 4,294,967,295 bytes only that many count
abbrev pub counting : ℕ → ℕ
counting n = elim (leb n label_limit) [ true ↦ n | false ↦ label_limit ]

abbrev pub label_room : List ℕ → ℕ
label_room room = counting (length room)

-- the answers: nothing is handed out; or so many events and label bytes are, and so many opener records were looked at
abbrev pub refusal : ℕ → ℕ → Answer
refusal code at = record { code = code; place = at; events = 0; labels = 0; looks = 0 }

abbrev pub acceptance : ℕ → ℕ → ℕ → Answer
acceptance events labels looks = record { code = 0; place = 0; events = events; labels = labels; looks = looks }

-- a refusal, with the rooms that it leaves
abbrev pub refuses : ℕ → ℕ → Rooms → Outcome
refuses code at rooms = record { answer = refusal code at; rooms = rooms }

abbrev pub zeros : List ℕ → List ℕ
zeros room = replicate (length room) 0

-- a list from the front of a room, and zero behind it
abbrev pub filled : List ℕ → List ℕ → List ℕ
filled l room = l ++ replicate (length room - length l) 0

abbrev pub cleared : Rooms → Rooms
cleared rooms =
    record { events = zeros rooms.events; queue = zeros rooms.queue; openers = zeros rooms.openers; labels = zeros rooms.labels }

-- the numbers of an event: seven
abbrev pub record_of : Event → List ℕ
record_of e =
    e.kind ∷ e.start.0 ∷ e.end.0 ∷ e.home ∷ e.home_start.0 ∷ e.home_end.0 ∷ e.link.0 ∷ []

-- and of each event with its line, which comes last
abbrev pub numbers_of : Located → List ℕ
numbers_of r = record_of r.event ++ r.line ∷ []

unfoldable pub numbers : List Located → List ℕ
numbers [] = []
numbers (r ∷ rs) = numbers_of r ++ numbers rs

-- 9: does the event room hold all the events? The last question. Each is handed out with its line
unfoldable pub handed_out : List Line → List Event → List ℕ → ℕ → Rooms → Outcome
handed_out ls es labels looks rooms =
    elim (leb (length es) (length rooms.events / event_numbers)) [
      | false ↦ refuses 9 0 (cleared rooms)
      | true ↦ record {
        answer = acceptance (length es) (length labels) looks;
        rooms = record {
          events = filled (numbers (located ls es)) rooms.events;
          queue = zeros rooms.queue;
          openers = zeros rooms.openers;
          labels = filled labels rooms.labels;
        };
      }
    ]

-- 7: does no attribute block stand outside verbatim? 8: does the label room hold all the labels built?
unfoldable pub judged : List Line → Option Place → Bool → State → Rooms → Outcome
judged ls (Some p) fits s rooms = refuses 7 p.0 (cleared rooms)
judged ls None false s rooms = refuses 8 0 (cleared rooms)
judged ls None true s rooms = handed_out ls (drain s.queue) s.labels s.looks rooms

-- the whole answer, and the rooms at its end, of a sheet with blocks at some places
unfoldable pub outcome_with : (ℕ → Bool) → List ℕ → List Line → ℕ → Rooms → Outcome
outcome_with block text ls reading rooms =
    -- 1: is the reading 0 or 1?
    elim (leb reading 1) [
      | false ↦ refuses 1 0 rooms
      | true ↦
          -- 2: is the text at most 1,048,576 bytes, and the line list at most 1,048,576 records?
          elim (leb (length text) largest && leb (length ls) largest) [
            | false ↦ refuses 2 0 rooms
            | true ↦
                -- 3: has every line start ≤ end ≤ text length?
                elim (ltb (first_outside text ls) (length ls)) [
                  | true ↦ refuses 3 (first_outside text ls) rooms
                  | false ↦
                      -- 4: does each line start at or after the end of the one before?
                      elim (ltb (first_early 0 ls) (length ls)) [
                        | true ↦ refuses 4 (first_early 0 ls) rooms
                        | false ↦
                            -- 5: has the queue room at least 2N + 1 records?
                            elim (leb (2 * total ls + 1) (length rooms.queue / queue_numbers)) [
                              | false ↦ refuses 5 0 rooms
                              | true ↦
                                  -- 6: has the opener room at least N records?
                                  elim (leb (total ls) (length rooms.openers / opener_numbers)) [
                                    | false ↦ refuses 6 0 rooms
                                    | true ↦
                                        let s = read (sheet_with block text reading (label_room rooms.labels)) ls in
                                        judged ls s.refused s.fits s rooms
                                  ]
                            ]
                      ]
                ]
          ]
    ]

-- where the validator says that they stand
abbrev pub outcome : List ℕ → List Line → ℕ → Rooms → Outcome
outcome text ls reading rooms = outcome_with (block_at (views text ls)) text ls reading rooms
