-- Events put into a room one by one: what the functions of this crate do. That it comes to `answered` and `handed` is a law.
use Rattle.std.specs.Prelude.{ℕ, suc, ◌*◌, ◌/◌, ◌≡◌, List, [], ◌∷◌, true, false, ltb, length, Option, Some, None}
use Rattle.drain.specs.declared.Held.{Held}
use Rattle.std.proofs.lemmas.List.Edits.{sets}
use Rattle.reading.specs.declared.Event.{Event}
use Rattle.reading.specs.Events.{event_numbers}
use Rattle.reading.specs.Draining.{drained}
use Rattle.drain.specs.Handing.{plain}

-- how many were put out, and the room
pub record Out : Type 0 where
  pub answer : Option ℕ
  pub room : List ℕ

abbrev pub out : Option ℕ → List ℕ → Out
out d room = record { answer = d; room = room }

-- one event
unfoldable pub put : Event → Option ℕ → List ℕ → Out
put e (Some k) room =
    elim (ltb k (length room / event_numbers)) [
      | true ↦ out (Some (suc k)) (sets room (k * event_numbers) (plain (e ∷ [])))
      | false ↦ out None room
    ]
put e None room = out None room

-- one after the other
unfoldable pub put_all : List Event → Out → Out
put_all [] s = s
put_all (e ∷ es) s = put_all es (put e s.answer s.room)

-- of events of the queue, what is to be put out behind the Str that is held
abbrev pub behind : Held → List Event → List Event
behind h es = drained h.start.0 h.end.0 es

-- what was put out by the answer r and what is then held, and the events that are left behind it. A
-- full room stays as it is
unfoldable pub after : Option (Unit {0}) → Held → List Event → Out
after (Some _) h left = put_all left (out (Some h.count) h.room.now)
after None h left = out None h.room.now

-- from what is held to the answer r and what is then held, in the same lent room: of the events es
-- all are put out but those that are left; or r is None, and the room was full before their last
pub record Puts (h : Held) (es : List Event) (r : Option (Unit {0})) (h' : Held) (left : List Event) : Type 0 where
  pub same : after r h' left ≡ after (Some tt) h es
  pub lent : h'.room.ghost_name ≡ h.room.ghost_name
