-- A packed list, as it is read (document 02, L4 and L5): "The reader stops at the first fault". "cut short
-- (place the length), longer than needed, too large (a fifth byte over 15), a start or end beyond
-- the largest, an unknown kind (32 and 64 among them), a home over 2 or on a kind without one,
-- bytes left over; its place is else the first byte of that number or rest".
use Rattle.std.specs.Prelude.{ℕ, zero, suc, ◌+◌, List, [], ◌∷◌, Bool, true, false, leb, length, Result, Ok, Err}
use Rattle.groups.specs.declared.NumberError.{NumberError}
use Rattle.groups.specs.declared.NumberError.TheVariants as number
use Rattle.groups.specs.Groups.{number_at}
use Rattle.reading.specs.declared.Located.{Located}
use Rattle.reading.specs.declared.Home.{Home}
use Rattle.reading.specs.Events.{place, link, homed}
use Rattle.reading.specs.Homes.{known, has_link}
use Rattle.packing.specs.declared.Fault.{Fault}
use Rattle.packing.specs.declared.FaultAt.{FaultAt}
use Rattle.packing.specs.declared.Fault.TheVariants.{Cut, Longer, TooLarge, Beyond, UnknownKind, WrongHome, Rest}
use Rattle.packing.specs.Packed.{largest, present, may_have}

-- what is read from a place on: a value, and the place behind it; or a fault, and its place
abbrev pub Got : Type 0 → Type 0
Got A = Result (A × ℕ) FaultAt

abbrev pub fault : {A : Type 0} → Fault → ℕ → Got A
fault w p = Err (record { fault = w; place = p })

abbrev pub Reads : Type 0 → Type 0
Reads A = ℕ → Got A

-- one thing after another, up to the first fault
unfoldable pub on : {A B : Type 0} → (A → Reads B) → Got A → Got B
on f (Ok (a, next)) = f a next
on f (Err e) = Err e

abbrev pub ◌>>=◌ : {A B : Type 0} → Reads A → (A → Reads B) → Reads B
◌>>=◌ p f at = on f (p at)

abbrev pub pure : {A : Type 0} → A → Reads A
pure a next = Ok (a, next)

-- a number
unfoldable pub number_as : ℕ → ℕ → Result (ℕ × ℕ) NumberError → Got ℕ
number_as size at (Ok n) = Ok n
number_as size at (Err number.Cut) = fault Cut size
number_as size at (Err number.Longer) = fault Longer at
number_as size at (Err number.TooLarge) = fault TooLarge at

abbrev pub a_number : List ℕ → Reads ℕ
a_number bytes at = number_as (length bytes) at (number_at bytes at)

-- a value, if it is as it should be; else a fault at a place
unfoldable pub if_sound : {A : Type 0} → Bool → Fault → ℕ → A → Reads A
if_sound true w p a next = Ok (a, next)
if_sound false w p a next = fault w p

-- a number on top of another, at most the largest: a start, an end
abbrev pub a_sum : List ℕ → ℕ → Reads ℕ
a_sum bytes base at = on (λ n. if_sound (leb (base + n) largest) Beyond at (base + n)) (a_number bytes at)

abbrev pub a_kind : List ℕ → Reads ℕ
a_kind bytes at = on (λ n. if_sound (known n) UnknownKind at n) (a_number bytes at)

abbrev pub a_home : List ℕ → ℕ → Reads ℕ
a_home bytes kind at = on (λ n. if_sound (may_have kind n) WrongHome at n) (a_number bytes at)

-- a number that stands there, or 0
unfoldable pub optional : Bool → Reads ℕ → Reads ℕ
optional true p at = p at
optional false p at = Ok (0, at)

-- home, its start and length if it is not none, and the link number if the kind has one
abbrev pub with_link : List ℕ → ℕ → ℕ → ℕ → ℕ → Reads Home
with_link bytes kind home from to = do
  n ← optional (has_link kind) (a_number bytes)
  pure (record { home = home; start = place from; end = place to; link = link n })

abbrev pub with_range : List ℕ → ℕ → ℕ → Reads Home
with_range bytes kind home = do
  from ← optional (present home) (a_number bytes)
  to ← optional (present home) (a_sum bytes from)
  with_link bytes kind home from to

abbrev pub home_from : List ℕ → ℕ → Reads Home
home_from bytes kind = do
  home ← a_home bytes kind
  with_range bytes kind home

-- an event with its line, behind one that ends at prev
abbrev pub with_home : List ℕ → ℕ → ℕ → ℕ → ℕ → Reads Located
with_home bytes kind start end line = do
  h ← home_from bytes kind
  pure (record { event = homed kind h start end; line = line })

abbrev pub with_span : List ℕ → ℕ → ℕ → Reads Located
with_span bytes prev kind = do
  start ← a_sum bytes prev
  end ← a_sum bytes start
  line ← a_number bytes
  with_home bytes kind start end line

abbrev pub event_from : List ℕ → ℕ → Reads Located
event_from bytes prev = do
  kind ← a_kind bytes
  with_span bytes prev kind

-- so many events
unfoldable pub events_from : List ℕ → ℕ → ℕ → Reads (List Located)
events_from bytes zero prev = pure []
events_from bytes (suc n) prev = do
  r ← event_from bytes prev
  rs ← events_from bytes n r.event.end.0
  pure (r ∷ rs)

-- nothing is left over
abbrev pub at_end : {A : Type 0} → List ℕ → A → Reads A
at_end bytes a at = if_sound (leb (length bytes) at) Rest at a at

-- count and events
abbrev pub list_from : List ℕ → Reads (List Located)
list_from bytes = do
  n ← a_number bytes
  rs ← events_from bytes n 0
  at_end bytes rs

-- the events of a packed list, and the place behind them
abbrev pub unpacked : List ℕ → Got (List Located)
unpacked bytes = list_from bytes 0
