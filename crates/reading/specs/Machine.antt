-- What a step of the reading goes by: the view of a line, the rules of the reading, the state, and an event put into the queue.
use Rattle.std.specs.Prelude.{ℕ, zero, suc, ◌+◌, ◌-◌, List, [], ◌∷◌, ◌++◌, Bool, true, false, not, ◌&&◌, ltb, eqb, get_or, take, drop, Option, Some, None}
use Rattle.reading.specs.declared.Place.{Place}
use Rattle.reading.specs.declared.Verbatim.{Verbatim}
use Prim.Native.Char.{code}
use Rattle.lex.specs.declared.lex.Cursor.{Cursor}
use Rattle.reading.specs.declared.Line.{Line}
use Rattle.reading.specs.declared.Link.{Link}
use Rattle.reading.specs.declared.Event.{Event}
use Rattle.reading.specs.declared.Opener.{Opener}
use Rattle.reading.specs.declared.Last.{Last}
use Rattle.reading.specs.Events.{place, link, event, str}

-- a line as the reading sees it: where it starts, the byte before it (0 at the text's start), and its bytes
pub record View : Type 0 where
  pub base : ℕ
  pub before : ℕ
  pub bytes : List ℕ

abbrev pub byte_before : List ℕ → ℕ → ℕ
byte_before text zero = 0
byte_before text (suc i) = get_or text i 0

abbrev pub view_of : List ℕ → Line → View
view_of text l =
    record { base = l.start; before = byte_before text l.start; bytes = take (l.end - l.start) (drop l.start text) }

-- the byte before the i-th of a line; of the first it may belong to no line
unfoldable pub prev : View → ℕ → ℕ
prev v zero = v.before
prev v (suc i) = get_or v.bytes i 0

-- the rules of a reading: whether the lexer is in verbatim on the lines behind the opener's, and how the token behind a closing run is
-- read, by whether the opener stands on this line
pub record Rules : Type 0 where
  pub later : Bool
  pub after : Bool → Bool

-- Reading 0 is as the Rust: only on the opener's own line is a backslash in verbatim an ordinary byte, and there the token behind the closing run is read
-- as in verbatim too, so that a backslash escapes nothing. In reading 1 it is an ordinary byte on every line, and behind every closing run it escapes
-- (document 02, L6)
abbrev pub rules_of : ℕ → Rules
rules_of zero = record { later = false; after = λ here. here }
rules_of (suc n) = record { later = true; after = λ here. false }

-- what is the same for the whole sheet: the rules; for labels, the text and the bytes that the label room holds; and at which places an attribute
-- block stands
pub record Sheet : Type 0 where
  pub rules : Rules
  pub text : List ℕ
  pub room : ℕ
  pub block : ℕ → Bool

-- the state: events, the oldest first; openers, the newest first; the open verbatim; the newest event; the label bytes built, and whether
-- all of them fitted; the number of the next link that closes; the first attribute block; the opener records looked at
pub record State : Type 0 where
  pub queue : List Event
  pub openers : List Opener
  pub inside : Option Verbatim
  pub last : Option Last
  pub labels : List ℕ
  pub fits : Bool
  pub links : Link
  pub refused : Option Place
  pub looks : ℕ

-- the state and the lexer's cursor, between two tokens
pub record Turn : Type 0 where
  pub cursor : Cursor
  pub state : State

-- a token within its line: from the i-th byte to before the j-th, and the cursor behind it
pub record Here : Type 0 where
  pub from : ℕ
  pub to : ℕ
  pub cursor : Cursor

-- one event of a list changed
unfoldable pub amend : (Event → Event) → ℕ → List Event → List Event
amend f i [] = []
amend f zero (e ∷ es) = f e ∷ es
amend f (suc i) (e ∷ es) = e ∷ amend f i es

-- the last one changed
unfoldable pub amend_last : (Event → Event) → List Event → List Event
amend_last f [] = []
amend_last f (e ∷ []) = f e ∷ []
amend_last f (e ∷ g ∷ es) = e ∷ amend_last f (g ∷ es)

abbrev pub dollar : View → ℕ → Bool
dollar v i = eqb (prev v i) (code "$") && not (eqb (prev v (i - 1)) (code "\\"))

-- how many dollars at the end of a Str a backtick run behind it takes: one or two, within the Str, no backslash before (Djot: `$` before a
-- verbatim makes it inline math, `$$` display math)
unfoldable pub dollars_of : View → ℕ → ℕ → ℕ
dollars_of v i j =
    elim (ltb i j && dollar v j) [
      | false ↦ 0
      | true ↦ elim (ltb (suc i) j && dollar v (j - 1)) [ true ↦ 2 | false ↦ 1 ]
    ]

-- what is noted of an event of a kind from the i-th byte to before the j-th: nothing, if it is no Str
unfoldable pub last_of : View → ℕ → ℕ → ℕ → Option Last
last_of v kind i j =
    elim (eqb kind str) [ true ↦ Some record { end = place (v.base + j); dollars = dollars_of v i j } | false ↦ None ]

-- The state with one part changed. Here, and for `start` and `refuse` of `Reading`, all of its parts are named; elsewhere it is passed on.

-- another queue, and what is noted of its last event
abbrev pub noting : List Event → Option Last → State → State
noting q l s =
    record {
      queue = q;
      openers = s.openers;
      inside = s.inside;
      last = l;
      labels = s.labels;
      fits = s.fits;
      links = s.links;
      refused = s.refused;
      looks = s.looks;
    }

abbrev pub with_queue : List Event → State → State
with_queue q s = noting q s.last s

-- events behind the queue, and what is noted of the last
abbrev pub puts : List Event → Option Last → State → State
puts es l s = noting (s.queue ++ es) l s

-- an event without home, from the i-th byte of the line to before the j-th
abbrev pub put : View → ℕ → ℕ → ℕ → State → State
put v kind i j s = puts (event kind (v.base + i) (v.base + j) ∷ []) (last_of v kind i j) s

abbrev pub with_openers : List Opener → State → State
with_openers os s =
    record {
      queue = s.queue;
      openers = os;
      inside = s.inside;
      last = s.last;
      labels = s.labels;
      fits = s.fits;
      links = s.links;
      refused = s.refused;
      looks = s.looks;
    }

abbrev pub with_inside : Option Verbatim → State → State
with_inside w s =
    record {
      queue = s.queue;
      openers = s.openers;
      inside = w;
      last = s.last;
      labels = s.labels;
      fits = s.fits;
      links = s.links;
      refused = s.refused;
      looks = s.looks;
    }

-- one more link has closed: the label bytes behind it, and whether all of them fitted
abbrev pub with_link : List ℕ → Bool → State → State
with_link bs f s =
    record {
      queue = s.queue;
      openers = s.openers;
      inside = s.inside;
      last = s.last;
      labels = bs;
      fits = f;
      links = link (suc s.links.0);
      refused = s.refused;
      looks = s.looks;
    }

-- so many more opener records were looked at
abbrev pub looking : ℕ → State → State
looking n s =
    record {
      queue = s.queue;
      openers = s.openers;
      inside = s.inside;
      last = s.last;
      labels = s.labels;
      fits = s.fits;
      links = s.links;
      refused = s.refused;
      looks = s.looks + n;
    }
