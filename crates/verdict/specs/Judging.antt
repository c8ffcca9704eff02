-- Questions 10 and 11 as the call asks them.
use Rattle.std.specs.Prelude.{ℕ, ◌*◌, ◌^◌, ◌≤◌, ◌<◌, ◌≡◌, List, true, false, leb, length, take, Option, Some, None, Result, Ok, Err}
use Rattle.reading.specs.declared.Place.{Place}
use Rattle.reading.specs.declared.Answer.{Answer}
use Rattle.reading.specs.Events.{event_numbers}
use Rattle.listing.specs.Listing.{listed}
use Rattle.markup.specs.Markup.{fragment}
use Rattle.verdict.specs.declared.FragmentAnswer.{FragmentAnswer}
use Rattle.verdict.specs.declared.Refusal.{Refusal}
use Rattle.verdict.specs.declared.Refusal.TheVariants.{Linked, OutputRoom}
use Rattle.verdict.specs.Fragments.{refusal}

-- the number and the place of a refusal, and its answer
abbrev pub code_of : Refusal → ℕ
code_of (Linked p) = 10
code_of OutputRoom = 11

abbrev pub place_of : Refusal → ℕ
place_of (Linked p) = p.0
place_of OutputRoom = 0

abbrev pub answer_of : Refusal → FragmentAnswer
answer_of r = refusal (code_of r) (place_of r)

-- the bytes that stand written, by the length that is answered, or why there are none
unfoldable pub shown : Result ℕ Refusal → List ℕ → Result (List ℕ) Refusal
shown (Ok n) out = Ok (take n out)
shown (Err r) out = Err r

-- 10: is there no link? 11: does an output room of that size hold the fragment?
unfoldable pub shown_as : Option Place → List ℕ → ℕ → Result (List ℕ) Refusal
shown_as (Some p) f size = Err (Linked p)
shown_as None f size = elim (leb (length f) size) [ true ↦ Ok f | false ↦ Err OutputRoom ]

-- what is asked of a reader's answer: that the events of an accepted sheet stand in their room, and that what they write fits 32 bits
pub record Listed (a : Answer) (text events : List ℕ) : Type 0 where
  pub room : a.code ≡ 0 → a.events * event_numbers ≤ length events
  pub few : a.code ≡ 0 → length (fragment text (listed a.events events)) < 2 ^ 32
