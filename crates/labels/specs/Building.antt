-- A label as it is built, byte by byte, in the label room behind the bytes that it holds.
use Rattle.std.specs.Prelude.{ℕ, ◌+◌, ◌≤◌, ◌≡◌, List, [], ◌∷◌, ◌++◌, Bool, true, false, eqb, length, take, Option, Some, None}
use Prim.Native.Char.{code}
use Rattle.reading.specs.declared.Place.{Place}
use Rattle.reading.specs.declared.Link.{Link}
use Rattle.reading.specs.declared.Event.{Event}
use Rattle.reading.specs.Events.{place, home_none, home_text, home_labels}
use Rattle.reading.specs.Labels.{Labelled, part, pieces, separator}
use Rattle.labels.specs.declared.LabelHome.{LabelHome}
use Rattle.labels.specs.declared.Joint.{Joint}

-- the answer r with the label room l is what the definition says. Behind the bytes used the room is open: a label that did not fit may have begun there
pub record LabelStands (r : LabelHome) (l : List ℕ) (x : Labelled) : Type 0 where
  pub same : record { home = r.home; labels = take r.labels l; fits = r.fits } ≡ x
  pub room : r.labels ≤ length l

-- what bytes give to a label of several lines, and what they leave of its state
abbrev pub given : Joint → List ℕ → List ℕ
given j bs = pieces (separator j.inline) j.begun j.apart bs

unfoldable pub behind : Joint → List ℕ → Joint
behind j [] = j
behind j (b ∷ bs) =
    elim (eqb b (code "\n")) [
      | true ↦ behind (record { inline = j.inline; begun = j.begun; apart = j.begun }) bs
      | false ↦ behind (record { inline = j.inline; begun = true; apart = false }) bs
    ]

-- what one event of a destination gives, behind a span that ends at a place
unfoldable pub stretch : List ℕ → ℕ → Event → List ℕ
stretch text at e = elim (eqb at e.start.0) [ true ↦ [] | false ↦ code "\n" ∷ [] ] ++ part text e.start.0 e.end.0

-- the answers: a part of the text, no label, and one that was built
abbrev pub in_text : Place → Place → Link → ℕ → Bool → LabelHome
in_text from to link used fits =
    record { home = record { home = home_text; start = from; end = to; link = link }; labels = used; fits = fits }

abbrev pub unbuilt : Link → ℕ → LabelHome
unbuilt link used =
    record { home = record { home = home_none; start = place 0; end = place 0; link = link }; labels = used; fits = false }

unfoldable pub in_room : Link → ℕ → Option ℕ → LabelHome
in_room link used (Some n) =
    record { home = record { home = home_labels; start = place used; end = place (used + n); link = link }; labels = used + n; fits = true }
in_room link used None = unbuilt link used
