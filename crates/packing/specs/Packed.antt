-- A packed list, as it is written (document 02, L4 and L5): "event count, then per event kind, start
-- minus the previous end (0 before the first), length", the line, "home; if home is not 0, home
-- start and home length; for kinds 44 to 47 and 76 to 79, the link number". And what the writer
-- refuses.
use Rattle.std.specs.Prelude.{ℕ, suc, ◌-◌, List, [], ◌∷◌, ◌++◌, Bool, true, false, not, ◌&&◌, ◌||◌, leb, ltb, eqb, length, Option, Some, None}
use Rattle.std.specs.Option.{option_or}
use Rattle.groups.specs.Groups.{spelled_all}
use Rattle.reading.specs.declared.Event.{Event}
use Rattle.reading.specs.declared.Located.{Located}
use Rattle.reading.specs.Events.{home_none, home_labels}
use Rattle.reading.specs.Homes.{known, has_home, has_link}

-- the largest number, and how many events there can be
abbrev pub largest : ℕ
largest = 4294967295

-- a home that is not none
abbrev pub present : ℕ → Bool
present home = not (eqb home home_none)

-- a number that stands before others, or does not
unfoldable pub given : Bool → ℕ → List ℕ → List ℕ
given true n ns = n ∷ ns
given false n ns = ns

-- the numbers of an event on a line, behind one that ends at prev
unfoldable pub fields : ℕ → Located → List ℕ
fields prev r =
    let e = r.event in
    e.kind
    ∷ (e.start.0 - prev)
    ∷ (e.end.0 - e.start.0)
    ∷ r.line
    ∷ e.home
    ∷ given (present e.home) e.home_start.0
    (given (present e.home) (e.home_end.0 - e.home_start.0)
    (given (has_link e.kind) e.link.0 []))

-- of each event, 0 being the end before the first
unfoldable pub fields_all : ℕ → List Located → List ℕ
fields_all prev [] = []
fields_all prev (r ∷ rs) = fields prev r ++ fields_all r.event.end.0 rs

-- the bytes of a list
abbrev pub packed : List Located → List ℕ
packed rs = spelled_all (length rs ∷ fields_all 0 rs)

-- what the writer refuses: "such a kind or home, a span or home end before its start, a start
-- before the previous end, a field without meaning that is not 0, or 4,294,967,295 events before
-- it"
pub data Flaw : Type 0 where
  unknown_kind no_such_home backwards early meaning many : Flaw

-- the flaw of the first event that has one, and how many events are before it; or none has
abbrev pub Flawed : Type 0
Flawed = Option (Flaw × ℕ)

-- a home that a kind may have: none; the text or the label room, if it is a kind with one
unfoldable pub may_have : ℕ → ℕ → Bool
may_have kind home = eqb home home_none || (leb home home_labels && has_home kind)

-- the fields without meaning are 0: the range of no home, and the link number of a kind without one
unfoldable pub idle : Event → Bool
idle e =
    (present e.home || (eqb e.home_start.0 0 && eqb e.home_end.0 0)) && (has_link e.kind || eqb e.link.0 0)

-- a flaw of the event with i others before it, unless something holds
unfoldable pub unless : Bool → Flaw → ℕ → Flawed
unless true f i = None
unless false f i = Some (f, i)

-- the event with i others before it, the last of which ends at prev
unfoldable pub flaw_of : ℕ → ℕ → Event → Flawed
flaw_of i prev e =
    option_or (unless (known e.kind) unknown_kind i)
    (option_or (unless (may_have e.kind e.home) no_such_home i)
    (option_or (unless (leb e.start.0 e.end.0 && leb e.home_start.0 e.home_end.0) backwards i)
    (option_or (unless (leb prev e.start.0) early i)
    (option_or (unless (idle e) meaning i)
    (unless (ltb i largest) many i)))))

-- a line has a meaning, whatever its number
unfoldable pub first_flaw : ℕ → ℕ → List Located → Flawed
first_flaw i prev [] = None
first_flaw i prev (r ∷ rs) = option_or (flaw_of i prev r.event) (first_flaw (suc i) r.event.end.0 rs)
