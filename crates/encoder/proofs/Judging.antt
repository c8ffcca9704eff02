-- The first event that cannot be written.
use Rattle.std.specs.Prelude.{ℕ, ◌≡◌, ◌+◌, ◌/◌, ◌≤◌, ◌<◌, List, ◌∷◌, true, false, length, drop, None, is_none, Err}
use Rattle.std.specs.Option.{option_or}
use Rattle.std.proofs.Common.{sym, ap, ◌∙◌, arith}
use Rattle.std.proofs.lemmas.Bool.Decides.{nat_tests}
use native.Mathlib.Numerals.{add-one}
use Rattle.reading.specs.declared.Event.{Event}
use Rattle.reading.specs.declared.Located.{Located}
use Rattle.reading.specs.Events.{event_numbers}
use Rattle.listing.specs.Listing.{record_at}
use Rattle.listing.proofs.Listed.{rows_next, rows-end}
use Rattle.packing.specs.Packed.{Flawed, unless, flaw_of, first_flaw}
use Rattle.encoder.specs.declared.PutError.TheVariants as put
use Rattle.encoder.specs.Encoding.{whole, put_as, Forward}

-- the events of a room from the i-th on
module _ (events : List ℕ) where
  abbrev n : ℕ
  n = length events / event_numbers

  abbrev pub flaw-from : ℕ → ℕ → Flawed
  flaw-from i prev = first_flaw i prev (drop i (whole events))

  pub flaw-end : (i prev : ℕ) → n ≤ i → flaw-from i prev ≡ None
  unfolding first_flaw
  flaw-end i prev h = ap (first_flaw i prev) (rows-end record_at events n i h)

  module _ (i prev : ℕ) (h : i < n) (r : Located) (is : r ≡ record_at events i) where
    pub next_event : drop i (whole events) ≡ r ∷ drop (i + 1) (whole events)
    next_event = rows_next record_at events n i h ∙ (λ t. sym is t ∷ drop (sym (add-one i) t) (whole events))

    next : flaw-from i prev ≡ option_or (flaw_of i prev r.event) (flaw-from (i + 1) r.event.end.0)
    unfolding first_flaw
    next =
        ap (first_flaw i prev) next_event
        ∙ ap (λ (k : ℕ). option_or (flaw_of i prev r.event) (first_flaw k r.event.end.0 (drop (i + 1) (whole events)))) (sym (add-one i))

    -- an event that cannot be written is refused, and one that can be is passed
    pub flaw-here : (bytes size : ℕ) → is_none (flaw_of i prev r.event) ≡ false → put_as (flaw-from i prev) bytes size ≡ Err (put.Flaw i)
    unfolding flaw_of unless put_as
    flaw-here bytes size s = rw (next) (grind (arith, nat_tests))

    pub flaw-later : is_none (flaw_of i prev r.event) ≡ true → flaw-from i prev ≡ flaw-from (i + 1) r.event.end.0
    unfolding flaw_of unless
    flaw-later s = rw (next) (grind (arith, nat_tests))

-- so its numbers run forward
pub sound-forward : (i prev : ℕ) (e : Event) → is_none (flaw_of i prev e) ≡ true → Forward prev e
unfolding flaw_of unless
sound-forward i prev e s = record { late = grind (arith, nat_tests); span = grind (arith, nat_tests); range = grind (arith, nat_tests) }
