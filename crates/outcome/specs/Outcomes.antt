-- What the contract of a call is stated in: its answer and the four rooms at its end.
use Rattle.std.specs.Prelude.{ℕ, ◌-◌, ◌*◌, List, ◌++◌, length, take, replicate}
use Rattle.reading.specs.declared.Answer.{Answer}
use Rattle.reading.specs.Events.{event_numbers}
use Rattle.reading.specs.Questions.{Rooms, Outcome, acceptance, zeros}

-- the four rooms, as they are lent
abbrev pub rooms_of : List ℕ → List ℕ → List ℕ → List ℕ → Rooms
rooms_of e q o l = record { events = e; queue = q; openers = o; labels = l }

abbrev pub outcome_of : Answer → List ℕ → List ℕ → List ℕ → List ℕ → Outcome
outcome_of a e q o l = record { answer = a; rooms = rooms_of e q o l }

-- the first n numbers of a room, and zero behind them
abbrev pub kept : ℕ → List ℕ → List ℕ
kept n room = take n room ++ replicate (length room - n) 0

-- so many events and label bytes stay, and all else is zero
abbrev pub accepts : ℕ → ℕ → ℕ → Rooms → Outcome
accepts count bytes looks rooms =
    outcome_of (acceptance count bytes looks) (kept (count * event_numbers) rooms.events) (zeros rooms.queue) (zeros rooms.openers)
    (kept bytes rooms.labels)
