-- What a function does to the parser. Each is stated of the records and label bytes that are counted: what lies behind them in the rooms is open, and so
-- are the eighth number of an event and the fourth of an opener. A call zeroes the rooms at its end.
use Rattle.std.specs.Prelude.{ℕ, ◌+◌, ◌*◌, ◌≤◌, ◌≡◌, ◌∷◌, length, take}
use Rattle.reading.specs.declared.Event.{Event}
use Rattle.reading.specs.declared.Opener.{Opener}
use Rattle.reading.specs.Events.{queue_numbers, opener_numbers}
use Rattle.reading.specs.Machine.{State, Turn, amend, with_queue, with_openers}
use Rattle.rooms.specs.declared.Parser.{Parser}
use Rattle.rooms.specs.Standing.{stands}

-- what a parser stands for, without its cursor and with it
abbrev pub state : Parser → State
state p = stands p.at p.queue.now p.openers.now p.labels.now

abbrev pub turn : Parser → Turn
turn p = record { cursor = p.at.cursor; state = state p }

-- the rooms of r are those that were lent to p, and as long
pub record Lent (p r : Parser) : Type 0 where
  pub queue : r.queue.ghost_name ≡ p.queue.ghost_name
  pub openers : r.openers.ghost_name ≡ p.openers.ghost_name
  pub labels : r.labels.ghost_name ≡ p.labels.ghost_name
  pub queue_length : length r.queue.now ≡ length p.queue.now
  pub openers_length : length r.openers.now ≡ length p.openers.now
  pub labels_length : length r.labels.now ≡ length p.labels.now

-- each room of p holds what is counted in it
pub record Holding (p : Parser) : Type 0 where
  pub queue_held : p.at.events * queue_numbers ≤ length p.queue.now
  pub openers_held : p.at.openers * opener_numbers ≤ length p.openers.now
  pub labels_held : p.at.labels ≤ length p.labels.now

-- what a function does: of p it makes r
pub record Stepped (p r : Parser) (f : State → Turn) : Type 0 where
  pub same : turn r ≡ f (state p)
  pub lent : Lent p r
  pub labels : r.at.labels ≤ length r.labels.now

-- what one does that leaves the label room
pub record Changed (p r : Parser) (f : State → Turn) : Type 0 where
  pub same : turn r ≡ f (state p)
  pub lent : Lent p r
  pub labels : r.at.labels ≡ p.at.labels
  pub label_room : r.labels.now ≡ p.labels.now

-- what one does that leaves the openers too
pub record Queued (p r : Parser) (f : State → Turn) : Type 0 where
  pub changed : Changed p r f
  pub openers : r.at.openers ≡ p.at.openers
  pub opener_room : r.openers.now ≡ p.openers.now

-- a function that keeps the cursor
abbrev pub staying : Parser → (State → State) → State → Turn
staying p f s = record { cursor = p.at.cursor; state = f s }

-- a function that goes from the cursor on
abbrev pub turning : Parser → (Turn → Turn) → State → Turn
turning p f s = f (record { cursor = p.at.cursor; state = s })

-- one event of the queue changed
abbrev pub amending : (Event → Event) → ℕ → State → State
amending f i s = with_queue (amend f i s.queue) s

-- the first n events alone
abbrev pub cutting : ℕ → State → State
cutting n s = with_queue (take n s.queue) s

-- one more opener
abbrev pub opening : Opener → State → State
opening o s = with_openers (o ∷ s.openers) s

-- room for k more events
abbrev pub Room : ℕ → Parser → Type 0
Room k p = (p.at.events + k) * queue_numbers ≤ length p.queue.now
