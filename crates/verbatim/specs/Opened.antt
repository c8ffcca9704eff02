-- What a verbatim's functions ask of the rooms, and what their contracts are stated in beside the definition.
use Rattle.std.specs.Prelude.{ℕ, ◌-◌, ◌≤◌, ◌<◌, ◌≡◌, List, true, false, ltb, take, Option, Some, None}
use Rattle.reading.specs.declared.Verbatim.{Verbatim}
use Rattle.reading.specs.Events.{enter_from, exit_from, shorter}
use Rattle.reading.specs.Machine.{View, State, with_queue, amend_last}
use Rattle.reading.specs.Reading.{begun, unasked}
use Rattle.reading.specs.Verbatim.{exits}
use Rattle.rooms.specs.declared.Parser.{Parser}
use Rattle.rooms.specs.Records.{event_at}
use Rattle.rooms.specs.Steps.{state, turn}
use Rattle.verbatim.specs.declared.EventKind.{EventKind}
use Rattle.verbatim.specs.declared.EventKind.TheVariants.{Atom, Enter, Exit}

-- an open verbatim: its enter stands in the queue, in the front part that a closing run keeps
pub record Opened (w : Verbatim) (p : Parser) : Type 0 where
  pub low : w.event < w.keep
  pub high : w.keep ≤ p.at.events
  pub enters : enter_from ≤ (event_at p.queue.now w.event).kind
  pub below : (event_at p.queue.now w.event).kind < exit_from

unfoldable pub OpenedBy : Option Verbatim → Parser → Type 0
OpenedBy None p = Unit {0}
OpenedBy (Some w) p = Opened w p

-- dollars that the newest of n events has
pub record Dollars (d n : ℕ) (q : List ℕ) : Type 0 where
  pub some : 0 < d → 0 < n
  pub within : 0 < d → d ≤ (event_at q (n - 1)).end.0

-- dollars leave the newest event
abbrev pub leaving : ℕ → State → State
leaving d s = with_queue (amend_last (shorter d) s.queue) s

-- a kind taken apart
unfoldable pub kind_of : ℕ → EventKind
kind_of k = elim (ltb k enter_from) [ true ↦ Atom k | false ↦ elim (ltb k exit_from) [ true ↦ Enter (k - enter_from) | false ↦ Exit (k - exit_from) ] ]

-- an exit behind the first n events
abbrev pub headed : Verbatim → ℕ → ℕ → ℕ → State → State
headed w n a b s = exits w (take n s.queue) a b s

-- a new line, of any sheet in a reading. The rooms stay, and so do the counts
pub record Begun (reading : ℕ) (p r : Parser) : Type 0 where
  pub same : (text : List ℕ) (room : ℕ) (v : View) → turn r ≡ begun (unasked text reading room) v (state p)
  pub queue : r.queue ≡ p.queue
  pub openers : r.openers ≡ p.openers
  pub labels : r.labels ≡ p.labels
  pub events : r.at.events ≡ p.at.events
  pub opened : r.at.openers ≡ p.at.openers
  pub built : r.at.labels ≡ p.at.labels
