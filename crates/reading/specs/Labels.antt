-- Labels (document 01, "Labels"; Djot's rules on the destinations of links and images).
use Rattle.std.specs.Prelude.{ℕ, ◌+◌, ◌-◌, List, [], ◌∷◌, ◌++◌, Bool, true, false, not, ◌&&◌, ◌||◌, leb, ltb, eqb, length, take, drop}
use Prim.Native.Char.{code}
use Rattle.reading.specs.declared.Link.{Link}
use Rattle.reading.specs.declared.Event.{Event}
use Rattle.reading.specs.declared.Home.{Home}
use Rattle.reading.specs.Events.{place, escape, softbreak, hardbreak, enter_from, home_none, home_text, home_labels}

-- the bytes of the text from a place to another
abbrev pub part : List ℕ → ℕ → ℕ → List ℕ
part text a b = take (b - a) (drop a text)

-- what an event of the link's text gives: enters, exits and Escape nothing, a break one space, Str and the other atoms their bytes
unfoldable pub word : List ℕ → Event → List ℕ
word text e =
    elim (leb enter_from e.kind || eqb e.kind escape) [
      | true ↦ []
      | false ↦ elim (eqb e.kind softbreak || eqb e.kind hardbreak) [
        | true ↦ code " " ∷ []
        | false ↦ part text e.start.0 e.end.0
      ]
    ]

-- square brackets with no byte between: the link's text (Djot: `[text][]` refers by its text)
unfoldable pub words : List ℕ → List Event → List ℕ
words text [] = []
words text (e ∷ es) = word text e ++ words text es

-- the stretches of the destination's events, from a place on: where two spans do not touch a stretch ends, as at a newline
unfoldable pub stretches : List ℕ → ℕ → List Event → List ℕ
stretches text at [] = []
stretches text at (e ∷ es) =
    elim (eqb at e.start.0) [ true ↦ [] | false ↦ code "\n" ∷ [] ] ++ part text e.start.0 e.end.0 ++ stretches text e.end.0 es

-- the non-empty pieces between newlines, with sep between two of them. A piece has begun; a newline stood behind the last one
unfoldable pub pieces : List ℕ → Bool → Bool → List ℕ → List ℕ
pieces sep begun apart [] = []
pieces sep begun apart (b ∷ bs) =
    elim (eqb b (code "\n")) [
      | true ↦ pieces sep begun begun bs
      | false ↦ elim apart [ true ↦ sep | false ↦ [] ] ++ b ∷ pieces sep true false bs
    ]

-- a reference has one space between two pieces (Djot: a line's end in it is a space); an inline link's destination has nothing (Djot: line
-- ends in it are left out)
abbrev pub separator : Bool → List ℕ
separator true = []
separator false = code " " ∷ []

-- a label is a part of the text, or is built
pub data Label : Type 0 where
  here : ℕ → ℕ → Label
  built : List ℕ → Label

-- the label of a link that closes at a place of a line that starts at base: d is the event of its destination's opener, texts are the events
-- of its text, and dest those behind d
unfoldable pub label_of : List ℕ → Bool → ℕ → ℕ → Event → List Event → List Event → Label
label_of text inline base at d texts dest =
    elim (not inline && eqb d.end.0 at) [
      | true ↦ built (words text texts)
      | false ↦ elim (ltb d.start.0 base) [
        | true ↦ built (pieces (separator inline) false false (stretches text d.end.0 dest))
        | false ↦ here d.end.0 at
      ]
    ]

-- the home of a label, and the label room behind it
pub record Labelled : Type 0 where
  pub home : Home
  pub labels : List ℕ
  pub fits : Bool

-- link number n gets its home. A label that does not fit is not written, nor any later one; the reading goes on
unfoldable pub label_home : ℕ → Link → List ℕ → Bool → Label → Labelled
label_home room n labels fits (here a b) =
    record { home = record { home = home_text; start = place a; end = place b; link = n }; labels = labels; fits = fits }
label_home room n labels fits (built bs) =
    elim (fits && leb (length labels + length bs) room) [
      | true ↦ record {
        home = record { home = home_labels; start = place (length labels); end = place (length labels + length bs); link = n };
        labels = labels ++ bs;
        fits = true;
      }
      | false ↦ record { home = record { home = home_none; start = place 0; end = place 0; link = n }; labels = labels; fits = false }
    ]
