-- What a fragment shows, and what is claimed of it (document 02, L1): it is read back, byte by byte, into tags and characters.
use Rattle.std.specs.Prelude.{ℕ, zero, suc, ◌+◌, ◌-◌, ◌≡◌, List, [], ◌∷◌, ◌++◌, map, Bool, true, false, ◌&&◌, eqb, length}
use Rattle.reading.specs.declared.Event.{Event}
use Rattle.reading.specs.Events.{nowhere, enter_from, exit_from}
use Rattle.reading.specs.Walked.{Walk, neither, walk_by, Matches}
use Rattle.markup.specs.Markup.{Row, opening, closing, breaking, entities, tag, characters, outside_raw, fragment}

-- a part of a fragment: the tag of an event of a kind, or the byte of a character
pub data Part : Type 0 where
  element : ℕ → Part
  shows : ℕ → Part

-- bytes that are known as a part
pub record Known : Type 0 where
  pub part : Part
  pub bytes : List ℕ

-- each tag, by the kind that writes it, and each entity, by the byte that it stands for
abbrev pub known : List Known
known =
    map (λ (r : Row). record { part = element (enter_from + r.number); bytes = r.bytes }) opening
    ++ map (λ (r : Row). record { part = element (exit_from + r.number); bytes = r.bytes }) closing
    ++ map (λ (r : Row). record { part = element r.number; bytes = r.bytes }) breaking
    ++ map (λ (r : Row). record { part = shows r.number; bytes = r.bytes }) entities

-- a list begins with another
unfoldable pub begins : List ℕ → List ℕ → Bool
begins [] bs = true
begins (c ∷ cs) [] = false
begins (c ∷ cs) (b ∷ bs) = eqb c b && begins cs bs

-- the first part of some bytes, the first of which is b, and how many bytes it has behind that one
pub record First : Type 0 where
  pub part : Part
  pub more : ℕ

unfoldable pub first_of : List Known → ℕ → List ℕ → First
first_of [] b bs = record { part = shows b; more = 0 }
first_of (k ∷ ks) b bs =
    elim (begins k.bytes (b ∷ bs)) [
      | true ↦ record { part = k.part; more = length k.bytes - 1 }
      | false ↦ first_of ks b bs
    ]

-- the parts of some bytes, of which the first n belong to the part before them
unfoldable pub parts_behind : ℕ → List ℕ → List Part
parts_behind n [] = []
parts_behind zero (b ∷ bs) = let f = first_of known b bs in f.part ∷ parts_behind f.more bs
parts_behind (suc n) (b ∷ bs) = parts_behind n bs

abbrev pub parts : List ℕ → List Part
parts bs = parts_behind 0 bs

-- the elements alone, each as it opens or closes
unfoldable pub walk_at : Part → Walk
walk_at (element kind) = walk_by kind nowhere
walk_at (shows b) = neither

-- the characters alone: the elements taken out, and the entities put back
unfoldable pub characters_in : List Part → List ℕ
characters_in [] = []
characters_in (element kind ∷ ps) = characters_in ps
characters_in (shows b ∷ ps) = b ∷ characters_in ps

-- the parts of an event: its tag, if it has one, and its characters
unfoldable pub tagged : ℕ → List ℕ → List Part
tagged kind [] = []
tagged kind (b ∷ bs) = element kind ∷ []

abbrev pub parts_of : List ℕ → Event → List Part
parts_of text e = tagged e.kind (tag e.kind) ++ map shows (characters text e)

-- the characters of the events, outside raw parts
abbrev pub shown : List ℕ → List Event → List ℕ
shown text es = outside_raw (characters text) 0 es

-- what a fitter may rely on. Read back, the fragment is the events' tags and characters, in their order and each once; elements are closed in the
-- order in which they were opened, and none is left open; and the characters are those of the events
pub record Faithful (text : List ℕ) (es : List Event) : Type 0 where
  pub same : parts (fragment text es) ≡ outside_raw (parts_of text) 0 es
  pub elements : Matches (map walk_at (parts (fragment text es))) []
  pub characters : characters_in (parts (fragment text es)) ≡ shown text es
