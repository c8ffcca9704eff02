-- Questions 7 to 9 as the reader asks them of what was read.
use Rattle.std.specs.Prelude.{ℕ, ◌*◌, ◌^◌, ◌≤◌, ◌<◌, ◌≡◌, List, Bool, true, false, leb, length, Option, Some, None, Result, Ok, Err}
use Rattle.reading.specs.declared.Event.{Event}
use Rattle.reading.specs.declared.Place.{Place}
use Rattle.reading.specs.declared.refusal.Refusal.{Refusal}
use Rattle.reading.specs.declared.refusal.Refusal.TheVariants.{Brace, LabelRoom, EventRoom}
use Rattle.reading.specs.Events.{queue_numbers}
use Rattle.reading.specs.Draining.{drain}
use Rattle.rooms.specs.declared.Status.{Status}
use Rattle.rooms.specs.Records.{events}

-- 7 by the brace at which the reading stopped, 8 by whether all labels fit, and 9 of some events and a room for so many; then how many they are
abbrev pub asked_last : Option Place → Bool → List Event → ℕ → Result ℕ Refusal
asked_last (Some at) fits es cap = Err (Brace at)
asked_last None false es cap = Err LabelRoom
asked_last None true es cap = elim (leb (length es) cap) [ false ↦ Err EventRoom | true ↦ Ok (length es) ]

-- what the last questions ask of a parser and its rooms: that its counts are of them
pub record Parsed (p : Status) (q l : List ℕ) : Type 0 where
  pub queued : p.events * queue_numbers ≤ length q
  pub few : p.refused ≡ None → length (drain (events p.events q)) < 2 ^ 32
  pub labels : p.labels ≤ length l
  pub bytes : p.labels < 2 ^ 32
