-- Walked events (document 01, "Walked events"): what is to hold of the events of every sheet that is read.
use Rattle.std.specs.Prelude.{ℕ, ◌+◌, ◌-◌, ◌*◌, ◌≤◌, ◌<◌, ◌≡◌, List, [], ◌∷◌, map, Bool, true, false, ◌&&◌, ◌⊎◌, leb, ltb, length, get_or}
use Rattle.classes.specs.Classes.{bit, blank}
use Rattle.reading.specs.declared.Line.{Line}
use Rattle.reading.specs.declared.Event.{Event}
use Rattle.reading.specs.declared.Located.{Located}
use Rattle.reading.specs.declared.Home.{Home}
use Rattle.reading.specs.Events.{home_of, enter_from, exit_from, exit, reference_link, inline_image}
use Rattle.reading.specs.Machine.{Sheet}
use Rattle.reading.specs.Reading.{end_of, sheet, read}
use Rattle.reading.specs.Dropped.{dropped}
use Rattle.reading.specs.Draining.{drain}
use Rattle.reading.specs.Located.{located}
use Rattle.reading.specs.Questions.{Rooms, Outcome, total, numbers, filled, label_room}
use Rattle.reading.specs.Homes.{AllHomed}

-- what an exit and an enter must agree in: k, home, home start, home end and link number
pub record Tag : Type 0 where
  pub k : ℕ
  pub home : Home

-- an enter opens, an exit closes the last one open, and other kinds do neither
pub data Walk : Type 0 where
  opening : Tag → Walk
  closing : Tag → Walk
  neither : Walk

unfoldable pub walk_by : ℕ → Home → Walk
walk_by kind h =
    elim (ltb kind enter_from) [
      | true ↦ neither
      | false ↦ elim (ltb kind exit_from) [
        | true ↦ opening record { k = kind - enter_from; home = h }
        | false ↦ closing record { k = kind - exit_from; home = h }
      ]
    ]

abbrev pub walk_of : Event → Walk
walk_of e = walk_by e.kind (home_of e)

-- every exit matches the last enter still open, and none is open at the end; ts are open, the last one first
unfoldable pub Matches : List Walk → List Tag → Type 0
Matches [] [] = Unit {0}
Matches [] (t ∷ ts) = ⊥
Matches (neither ∷ es) ts = Matches es ts
Matches (opening t ∷ es) ts = Matches es (t ∷ ts)
Matches (closing t ∷ es) [] = ⊥
Matches (closing t ∷ es) (u ∷ ts) = (t ≡ u) × Matches es ts

-- nothing is open at first
abbrev pub Walked : List Event → Type 0
Walked es = Matches (map walk_of es) []

-- no span ends before it begins, none begins before a, where the last one ended, and none ends behind b
unfoldable pub Ordered : ℕ → List Event → ℕ → Type 0
Ordered a [] b = a ≤ b
Ordered a (e ∷ es) b = (a ≤ e.start.0) × (e.start.0 ≤ e.end.0) × Ordered e.end.0 es b

-- a byte is of one of some lines: of the fed lines, or of the dropped blanks
unfoldable pub Of : List Line → ℕ → Type 0
Of [] i = ⊥
Of (l ∷ ls) i = ((l.start ≤ i) × (i < l.end)) ⊎ Of ls i

-- how many spans a byte is under
unfoldable pub under : ℕ → List Event → ℕ
under i [] = 0
under i (e ∷ es) = bit (leb e.start.0 i && ltb i e.end.0) + under i es

-- each byte of a fed line is under exactly one span, except that a byte of a dropped blank may be under none
abbrev pub Covered : List Line → List Line → List Event → Type 0
Covered fed dropped es = (i : ℕ) → Of fed i → (under i es ≡ 1) ⊎ ((under i es ≡ 0) × Of dropped i)

-- the exit of a link or an image: its span goes on over the destination
unfoldable pub link_exit : ℕ → Bool
link_exit kind = leb (exit reference_link) kind && leb kind (exit inline_image)

-- a byte is under a span that is not such an exit's
unfoldable pub Shown : ℕ → List Event → Type 0
Shown i [] = ⊥
Shown i (e ∷ es) = ((link_exit e.kind ≡ false) × (e.start.0 ≤ i) × (i < e.end.0)) ⊎ Shown i es

-- the lines of some events never fall from a on, and each is the index of one of n lines
unfoldable pub Lined : ℕ → ℕ → List Located → Type 0
Lined a n [] = Unit {0}
Lined a n (r ∷ rs) = (a ≤ r.line) × (r.line < n) × Lined r.line n rs

-- the one list that the rules give
abbrev pub events : Sheet → List Line → List Event
events x ls = drain (read x ls).queue

-- demand 3, as one claim of the whole list
pub record Whole (x : Sheet) (ls : List Line) : Type 0 where
  pub walked : Walked (events x ls)
  pub ordered : Ordered 0 (events x ls) (end_of ls 0)
  pub covered : Covered ls (dropped x ls) (events x ls)
  pub shown : (i : ℕ) → Shown i (events x ls) → Of ls i × (Of (dropped x ls) i → ⊥)
  pub blanks : (i : ℕ) → Of (dropped x ls) i → blank (get_or x.text i 0) ≡ true
  pub room : length (events x ls) ≤ total ls + 1
  pub lined : Lined 0 (length ls) (located ls (events x ls))

-- an accepted sheet: the events handed out are that list, and demand 3 holds of it
pub record Accepted (text : List ℕ) (ls : List Line) (reading : ℕ) (rooms : Rooms) (o : Outcome) : Type 0 where
  pub whole : Whole (sheet text ls reading (label_room rooms.labels)) ls
  pub count : o.answer.events ≡ length (events (sheet text ls reading (label_room rooms.labels)) ls)
  pub handed : o.rooms.events ≡ filled (numbers (located ls (events (sheet text ls reading (label_room rooms.labels)) ls))) rooms.events
  -- how long the search gets at most: N times (N - 1), halved
  pub search : 2 * o.answer.looks ≤ total ls * (total ls - 1)

-- and of an accepted sheet each event has the home and the link number that its kind has
pub record AcceptedHomes (text : List ℕ) (ls : List Line) (reading : ℕ) (rooms : Rooms) (o : Outcome) : Type 0 where
  pub homes : AllHomed (length text) o.answer.labels (events (sheet text ls reading (label_room rooms.labels)) ls)
