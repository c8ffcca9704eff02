-- The four rooms of a call as they are lent.
use Rattle.std.specs.Prelude.{◌≡◌}
use Rattle.reading.specs.declared.Answer.{Answer}
use Rattle.reading.specs.Questions as questions
use Rattle.outcome.specs.declared.Rooms.{Rooms}
use Rattle.outcome.specs.Outcomes.{rooms_of, outcome_of}

-- what they hold
abbrev pub held : Rooms → questions.Rooms
held r = rooms_of r.events.now r.queue.now r.openers.now r.labels.now

-- an answer, and what they hold
abbrev pub left_by : Answer → Rooms → questions.Outcome
left_by a r = outcome_of a r.events.now r.queue.now r.openers.now r.labels.now

-- they are the same rooms
pub record Lent (r r' : Rooms) : Type 0 where
  pub events : r'.events.ghost_name ≡ r.events.ghost_name
  pub queue : r'.queue.ghost_name ≡ r.queue.ghost_name
  pub openers : r'.openers.ghost_name ≡ r.openers.ghost_name
  pub labels : r'.labels.ghost_name ≡ r.labels.ghost_name
