-- That the parser's rooms hold what is counted in them (`Holding`): behind a line's tokens, where a
-- line begins, and at the end.
use Rattle.std.specs.Prelude.{None, Option, Some}
use Prim.Native.Nat.{ℕ, ◌+◌, ◌≤◌}
use mathlib.Core.Path.{sym, subst}
use mathlib.Core.List.{List, [], ◌∷◌}
use native.Mathlib.Omega.{arith}
use lib.ListN.{length, get_or, length-append}
use Rattle.reading.specs.declared.Verbatim.{Verbatim}
use Rattle.reading.specs.Machine.{View, State, Turn}
use Rattle.reading.specs.Events.{exit_of}
use Rattle.reading.specs.Verbatim.{nothing, ended_at}
use Rattle.reading.specs.Reading.{steps, unasked}
use Rattle.reading.proofs.Spans.{Any}
use Rattle.reading.proofs.Stepping.{Held}
use Rattle.reading.proofs.Feeding.{steps-some}
use Rattle.rooms.specs.declared.Parser.{Parser}
use Rattle.rooms.specs.Steps.{state, turn, turning, staying, Holding, Stepped, Queued, Room}
use Rattle.rooms.proofs.Changing.{queue_long, openers_long, stepped-events, queued-holding}
use Rattle.verbatim.specs.Opened.{Begun}
use Rattle.inline.specs.Asks.{Lined}
use Rattle.inline.proofs.Begins.{lined-begins}

-- behind so many steps of a line
pub fed-holding : (text : List ℕ) (v : View) (reading n : ℕ) (p r : Parser) → Lined text v reading p
    → Stepped p r (turning p (steps n (unasked text reading (length p.labels.now)) v)) → Holding r
fed-holding text v reading n p r l c =
    let w = lined-begins text v reading p l in
    let x = unasked text reading (length p.labels.now) in
    let k = subst (λ (a : Turn). Held Any text v w.count 0 a) (sym c.same) (steps-some Any text x v w.count w.shows n (turn p) w.held (λ i o. tt)) in
    record {
      queue_held = omega (arith, k.few, k.sound.place, w.room, queue_long r, c.lent.queue_length);
      openers_held = omega (arith, k.opens, k.sound.place, w.stack, openers_long r, c.lent.openers_length);
      labels_held = c.labels;
    }

-- where a line begins
pub begun-holding : (reading : ℕ) (p r : Parser) → Begun reading p r → Holding p → Holding r
begun-holding reading p r b h =
    record {
      queue_held = rw (b.events, b.queue) h.queue_held;
      openers_held = rw (b.opened, b.openers) h.openers_held;
      labels_held = rw (b.built, b.labels) h.labels_held;
    }

-- at the end of the lines there is one event more at most
ended-few : (b : ℕ) (w : Option Verbatim) (s : State) → length (ended_at b w s).queue ≤ length s.queue + 1
unfolding ended_at
ended-few b None s = omega arith
ended-few b (Some w) s = omega (arith, length-append s.queue (exit_of (get_or s.queue w.event nothing) b b ∷ []))

pub ended-holding : (b : ℕ) (p r : Parser) → Queued p r (staying p (ended_at b p.at.inside)) → Room 1 p → Holding p → Holding r
ended-holding b p r c w h =
    queued-holding p r _ c (omega (arith, w, stepped-events p r (staying p (ended_at b p.at.inside)) c.changed.same, ended-few b p.at.inside (state p), queue_long p)) h
