-- The call: its outcome, and demand 3 of it.
use Rattle.std.specs.Prelude.{Result, Ok, Err}
use Prim.Native.Nat.{ℕ, ◌+◌, ◌/◌, ◌≤◌}
use mathlib.Core.Path.{◌≡◌, sym, ap, ◌∙◌, subst}
use mathlib.Core.List.{List, []}
use lib.ListN.{length}
use Rattle.reading.specs.declared.Answer.{Answer}
use Rattle.reading.specs.declared.Line.{Line}
use Rattle.reading.specs.declared.refusal.Refusal.{Refusal}
use Rattle.reading.specs.Machine.{State}
use Rattle.reading.specs.Reading.{sheet, read}
use Rattle.reading.specs.Events.{event_numbers}
use Rattle.reading.specs.Questions.{Rooms, Outcome, total, label_room, judged, outcome}
use Rattle.reading.specs.Refusals.{answer_of}
use Rattle.reading.specs.Walked.{Accepted, AcceptedHomes}
use Rattle.reading.proofs.Answers.{accepted, never-nine, homed}
use Rattle.rooms.specs.declared.Status.{Status}
use Rattle.rooms.specs.Standing.{stands}
use Rattle.inline.specs.Asks.{StandsFor}
use Rattle.outcome.specs.Outcomes.{rooms_of, outcome_of}
use Rattle.questions.specs.Asking.{asked_of, concluded}
use Rattle.questions.proofs.Asking.{outcome-asked}
use Rattle.reader.proofs.Ending.{with_lines, judged-lined, judged-rooms}

-- an outcome, and what is owed of it
pub record Owed (text : List ℕ) (ls : List Line) (reading : ℕ) (rooms : Rooms) (x : Outcome) : Type 0 where
  pub as_defined : x ≡ outcome text ls reading rooms
  pub accepted : x.answer.code ≡ 0 → Accepted text ls reading rooms x
  pub homed : x.answer.code ≡ 0 → AcceptedHomes text ls reading rooms x
  pub events_suffice : total ls + 1 ≤ length rooms.events / event_numbers → x.answer.code ≡ 9 → ⊥

owed : {text : List ℕ} {ls : List Line} {reading : ℕ} {rooms : Rooms} {x : Outcome} → x ≡ outcome text ls reading rooms → Owed text ls reading rooms x
owed {text} {ls} {reading} {rooms} {x} e =
    record {
      as_defined = e;
      accepted = subst (λ (y : Outcome). y.answer.code ≡ 0 → Accepted text ls reading rooms y) (sym e) (accepted text ls reading rooms);
      homed = subst (λ (y : Outcome). y.answer.code ≡ 0 → AcceptedHomes text ls reading rooms y) (sym e) (homed text ls reading rooms);
      events_suffice = λ h z. never-nine text ls reading rooms h (sym (ap (λ (y : Outcome). y.answer.code) e) ∙ z);
    }

abbrev Asked : Type 0
Asked = Result (Unit {0}) Refusal

module _ (text : List ℕ) (ls : List Line) (reading : ℕ) (e q o l : List ℕ) {a : Result (Unit {0}) Refusal}
    (h : a ≡ asked_of text ls reading (length q) (length o)) where
  concludes : {b : Asked} → a ≡ b → concluded text ls reading (rooms_of e q o l) b ≡ outcome text ls reading (rooms_of e q o l)
  concludes k =
      sym (outcome-asked text ls reading (rooms_of e q o l) ∙ ap (λ (z : Asked). concluded text ls reading (rooms_of e q o l) z) (sym h ∙ k))

  -- a refusal under 1 to 6
  pub owed_early : {r : Refusal} → a ≡ Err r → {x : Answer} → x ≡ answer_of r → Owed text ls reading (rooms_of e q o l) (outcome_of x e q o l)
  unfolding concluded
  owed_early k g = owed (ap (λ (z : Answer). outcome_of z e q o l) g ∙ concludes k)

  -- and what comes of a sheet that is read
  pub owed_all : {u : Unit {0}} → a ≡ Ok u → {p : Status} {q' o' l' : List ℕ} → StandsFor p q' o' l' (read (sheet text ls reading (label_room l)) ls)
      → length q' ≡ length q → length o' ≡ length o → length l' ≡ length l → {x : Outcome}
      → x ≡ judged [] p.refused p.fits (stands p q' o' l') (rooms_of e q' o' l') → Owed text ls reading (rooms_of e q o l) (with_lines ls x)
  unfolding concluded
  owed_all k {p} {q'} {o'} {l'} s u v w g =
      owed
      (ap (with_lines ls) g
      ∙ judged-lined ls _ _ _ _
      ∙ ap (λ (z : State). judged ls z.refused z.fits z (rooms_of e q' o' l')) s.same
      ∙ judged-rooms ls _ _ _ e q o l q' o' l' u v w
      ∙ concludes k)
