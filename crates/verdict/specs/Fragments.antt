-- The call for a fragment (document 02, L1): what is asked behind the reader's questions, and what every room holds afterwards.
use Rattle.std.specs.Prelude.{ℕ, ◌+◌, ◌*◌, List, [], ◌∷◌, Bool, true, false, ◌&&◌, ◌||◌, leb, eqb, length, Option, Some, None}
use Rattle.reading.specs.declared.Place.{Place}
use Rattle.reading.specs.declared.Line.{Line}
use Rattle.reading.specs.declared.Event.{Event}
use Rattle.reading.specs.declared.Answer.{Answer}
use Rattle.reading.specs.Events.{footnote, reference_link, autolink, enter}
use Rattle.reading.specs.Reading.{sheet}
use Rattle.reading.specs.Questions.{Rooms, Outcome, total, label_room, zeros, filled, cleared, outcome}
use Rattle.reading.specs.Walked.{events, Accepted}
use Rattle.markup.specs.Markup.{fragment}
use Rattle.markup.specs.Shown.{Faithful}
use Rattle.verdict.specs.declared.FragmentAnswer.{FragmentAnswer}

-- "a link, image, autolink or footnote reference"
unfoldable pub barred : ℕ → Bool
barred kind = eqb kind footnote || (leb (enter reference_link) kind && leb kind (enter autolink))

-- the first of them: its span start
unfoldable pub first_barred : List Event → Option Place
first_barred [] = None
first_barred (e ∷ es) = elim (barred e.kind) [ true ↦ Some e.start | false ↦ first_barred es ]

-- the answer, the four rooms and the output room
pub record Fragmented : Type 0 where
  pub answer : FragmentAnswer
  pub rooms : Rooms
  pub out : List ℕ

-- "The length is answered, 0 at a refusal"
abbrev pub refusal : ℕ → ℕ → FragmentAnswer
refusal code at = record { code = code; place = at; events = 0; labels = 0; length = 0 }

abbrev pub acceptance : Answer → ℕ → FragmentAnswer
acceptance a n = record { code = 0; place = 0; events = a.events; labels = a.labels; length = n }

-- after any refusal the output is zero
abbrev pub refuses : ℕ → ℕ → Rooms → List ℕ → Fragmented
refuses code at rooms out = record { answer = refusal code at; rooms = rooms; out = zeros out }

-- 10: is there no link, image, autolink or footnote reference? 11: does the output room hold the fragment? After both all four rooms are zero;
-- after acceptance they are as the reader leaves them, and the output is zero behind the fragment
unfoldable pub judged : Option Place → List ℕ → Rooms → Outcome → List ℕ → Fragmented
judged (Some p) f rooms o out = refuses 10 p.0 (cleared rooms) out
judged None f rooms o out =
    elim (leb (length f) (length out)) [
      | false ↦ refuses 11 0 (cleared rooms) out
      | true ↦ record { answer = acceptance o.answer (length f); rooms = o.rooms; out = filled f out }
    ]

-- the reader's refusals come first, and leave the rooms as the reader does
unfoldable pub behind : List ℕ → List Event → Rooms → Outcome → List ℕ → Fragmented
behind text es rooms o out =
    elim (eqb o.answer.code 0) [
      | false ↦ refuses o.answer.code o.answer.place o.rooms out
      | true ↦ judged (first_barred es) (fragment text es) rooms o out
    ]

-- the whole answer, and the five rooms at its end
abbrev pub fragmented : List ℕ → List Line → ℕ → Rooms → List ℕ → Fragmented
fragmented text ls reading rooms out =
    behind text (events (sheet text ls reading (label_room rooms.labels)) ls) rooms (outcome text ls reading rooms) out

-- so much output room always suffices: five bytes for each byte of the lines, and 29 for each event, of which there are at most N + 1
abbrev pub enough : List Line → ℕ
enough ls = 5 * total ls + 29 * (total ls + 1)

abbrev pub fragmented_of : FragmentAnswer → Rooms → List ℕ → Fragmented
fragmented_of a rooms out = record { answer = a; rooms = rooms; out = out }

-- an accepted call, as the reader's. The answer of a fragment does not say how long the search got
abbrev pub read_of : Fragmented → Outcome
read_of f =
    record {
      answer = record { code = f.answer.code; place = f.answer.place; events = f.answer.events; labels = f.answer.labels; looks = 0 };
      rooms = f.rooms;
    }

-- of an accepted call demand 3 holds, and the fragment is faithful to the events
pub record Shows (text : List ℕ) (ls : List Line) (reading : ℕ) (rooms : Rooms) (f : Fragmented) : Type 0 where
  pub accepted : Accepted text ls reading rooms (read_of f)
  pub faithful : Faithful text (events (sheet text ls reading (label_room rooms.labels)) ls)
