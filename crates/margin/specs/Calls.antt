-- What two calls have in common on texts that agree on all fed lines and on the byte before each (document 02, L7).
use Rattle.std.specs.Prelude.{ℕ, ◌<◌, ◌≡◌, List, map}
use Rattle.reading.specs.declared.Event.{Event}
use Rattle.reading.specs.declared.Located.{Located}
use Rattle.reading.specs.Events.{home_none, home_labels, place, homed}
use Rattle.reading.specs.Questions.{Outcome}
use Rattle.listing.specs.Listing.{event_at, records}
use Rattle.lookup.specs.Lookup.{label_of}
use Rattle.verdict.specs.Fragments.{Fragmented}

-- "event kinds, spans, line indices and link numbers": the record of an event without its home
abbrev pub unhomed : Located → Located
unhomed r =
    record {
      event = homed r.event.kind (record { home = home_none; start = place 0; end = place 0; link = r.event.link }) r.event.start.0 r.event.end.0;
      line = r.line;
    }

-- the label of an event, as the lookup hands it back
abbrev pub label_in : List ℕ → List ℕ → Event → List ℕ
label_in text labels e = label_of text labels e.home e.home_start.0 e.home_end.0

-- two calls, on a text t and on a text u, that leave o and p. Within says of a link, by its number, that no event of its destination spans a byte between two
-- lines: such a link, if its label is built, is the only one that may have another in u
pub record Common (t u : List ℕ) (Within : ℕ → Type 0) (o p : Outcome) : Type 0 where
  pub code : p.answer.code ≡ o.answer.code
  pub place : p.answer.place ≡ o.answer.place
  pub count : p.answer.events ≡ o.answer.events
  pub looks : p.answer.looks ≡ o.answer.looks
  pub events : map unhomed (records p.answer.events p.rooms.events) ≡ map unhomed (records o.answer.events o.rooms.events)
  pub labels : (i : ℕ) → i < o.answer.events → let e = event_at o.rooms.events i in
      (e.home ≡ home_labels → Within e.link.0) → label_in u p.rooms.labels (event_at p.rooms.events i) ≡ label_in t o.rooms.labels e
  -- of a refusal all is the same, and so where all links are such
  pub refused : (o.answer.code ≡ 0 → ⊥) → p ≡ o
  pub same : ((n : ℕ) → Within n) → p ≡ o

-- two calls for a fragment
pub record CommonFragment (f g : Fragmented) : Type 0 where
  pub code : g.answer.code ≡ f.answer.code
  pub place : g.answer.place ≡ f.answer.place
  pub count : g.answer.events ≡ f.answer.events
  pub length : g.answer.length ≡ f.answer.length
  pub out : g.out ≡ f.out
