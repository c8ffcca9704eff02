-- What was read, and what the definition says of its list.
use Prim.Native.Nat.{ℕ, ◌*◌, ◌/◌, ◌≤◌}
use mathlib.Core.Path.{◌≡◌, sym, ap, ◌∙◌}
use mathlib.Core.List.{List}
use native.Mathlib.Omega.{arith}
use borrow.Author.Tests.{eq-eqb, ne_eqb}
use lib.ListN.{length, take}
use Rattle.reading.specs.declared.Line.{Line}
use Rattle.reading.specs.Events.{event_numbers}
use Rattle.reading.specs.Questions.{Rooms, Outcome, outcome}
use Rattle.packed.specs.declared.PackedAnswer.{PackedAnswer}
use Rattle.packed.specs.Calls.{Call, call, refusal, packing, enough_bytes}
use Rattle.packed.proofs.Rounds.{events-within, sheet-packed}
use Rattle.send.specs.Sent.{sent}

-- what comes of a sheet
module _ (text : List ℕ) (ls : List Line) (rooms : Rooms) (read : Outcome) (is : read ≡ outcome text ls 0 rooms) where
  abbrev o : Outcome
  o = outcome text ls 0 rooms

  -- the promise
  abbrev pub Sends : List ℕ → PackedAnswer → List ℕ → Type 0
  Sends out r out' = (call r out' ≡ sent o out) × (r.code ≡ o.answer.code)

  pub refused-sent : (out : List ℕ) → (read.answer.code ≡ 0 → ⊥) → Sends out (refusal read.answer.code read.answer.place) out
  unfolding sent
  refused-sent out n =
      let same : call (refusal read.answer.code read.answer.place) out ≡ sent read out = rw (ne_eqb read.answer.code 0 n, sent) in
      (same ∙ ap (λ (p : Outcome). sent p out) is, ap (λ (p : Outcome). p.answer.code) is)

  module _ (e : read.answer.code ≡ 0) where
    zero : o.answer.code ≡ 0
    zero = ap (λ (p : Outcome). p.answer.code) (sym is) ∙ e

    -- as many events as are handed out stand in their room
    handed_out : read.answer.events * event_numbers ≤ length read.rooms.events
    handed_out =
        let w = events-within text ls 0 rooms zero in
        omega (arith, w, ap (λ (p : Outcome). p.answer.events) is, ap (λ (p : Outcome). length p.rooms.events) is)

    pub accepted-sent : (out : List ℕ) (r : PackedAnswer) (out' : List ℕ) → enough_bytes (length rooms.events / event_numbers) ≤ length out → length read.rooms.events ≡ length rooms.events
        → call r out' ≡ packing (take (read.answer.events * event_numbers) read.rooms.events) out → Sends out r out'
    unfolding sent
    accepted-sent out r out' h s p =
        let n : read.answer.events ≡ o.answer.events = ap (λ (q : Outcome). q.answer.events) is in
        let there : packing (take (read.answer.events * event_numbers) read.rooms.events) out ≡ sent read out = rw (eq-eqb read.answer.code 0 e, sent) in
        let here = p ∙ ap (λ (q : Outcome). packing (take (q.answer.events * event_numbers) q.rooms.events) out) is in (
          p ∙ there ∙ ap (λ (q : Outcome). sent q out) is,
          ap (λ (c : Call). c.answer.code) (here ∙ sheet-packed text ls 0 rooms zero out (omega (arith, h, n, s, handed_out))) ∙ sym zero,
        )
