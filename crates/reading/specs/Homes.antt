-- Homes and link numbers (document 01, "What it reads and what it hands out"): which kinds have one, and what is to hold of the events of every sheet that is read.
use Rattle.std.specs.Prelude.{ℕ, ◌-◌, ◌≤◌, ◌≡◌, List, [], ◌∷◌, Bool, true, false, ◌&&◌, ◌||◌, ◌⊎◌, leb, ltb, eqb}
use Rattle.reading.specs.declared.Event.{Event}
use Rattle.reading.specs.declared.Home.{Home}
use Rattle.reading.specs.Events.{str, symbol, footnote, subscript, raw_format, reference_link, inline_image, autolink, enter_from, exit_from}
use Rattle.reading.specs.Events.{home_of, home_none, home_text, home_labels}

-- the container of an enter or an exit
unfoldable pub container_of : ℕ → ℕ
container_of kind = elim (ltb kind exit_from) [ true ↦ kind - enter_from | false ↦ kind - exit_from ]

-- the kinds: what neither opens nor closes, and enter and exit of each container; Span, 0, is never handed out
unfoldable pub known : ℕ → Bool
known kind =
    elim (ltb kind enter_from) [
      | true ↦ leb str kind && leb kind footnote
      | false ↦ leb subscript (container_of kind) && leb (container_of kind) autolink
    ]

-- a home "holds the symbol, footnote label, raw format, autolink address or link label"
unfoldable pub has_home : ℕ → Bool
has_home kind =
    elim (ltb kind enter_from) [
      | true ↦ leb symbol kind && leb kind footnote
      | false ↦ eqb (container_of kind) raw_format || (leb reference_link (container_of kind) && leb (container_of kind) autolink)
    ]

-- links and images have a link number
unfoldable pub has_link : ℕ → Bool
has_link kind =
    elim (ltb kind enter_from) [
      | true ↦ false
      | false ↦ leb reference_link (container_of kind) && leb (container_of kind) inline_image
    ]

-- from start to end within so many bytes
abbrev pub Runs : Home → ℕ → Type 0
Runs h size = (h.start.0 ≤ h.end.0) × (h.end.0 ≤ size)

-- a kind with a home has one, a part of the text or of the label bytes; of any other the fields have no meaning, and are 0
unfoldable pub HomeBy : Bool → ℕ → ℕ → Home → Type 0
HomeBy true text labels h = ((h.home ≡ home_text) × Runs h text) ⊎ ((h.home ≡ home_labels) × Runs h labels)
HomeBy false text labels h = (h.home ≡ home_none) × (h.start.0 ≡ 0) × (h.end.0 ≡ 0)

-- so has one with a link number
unfoldable pub LinkBy : Bool → Home → Type 0
LinkBy true h = Unit {0}
LinkBy false h = h.link.0 ≡ 0

-- an event of a kind that there is, with the home and the link number that the kind has; text and labels are how many bytes there are
pub record Homed (text labels kind : ℕ) (h : Home) : Type 0 where
  pub there : known kind ≡ true
  pub home : HomeBy (has_home kind) text labels h
  pub link : LinkBy (has_link kind) h

-- each of some events
unfoldable pub AllHomed : ℕ → ℕ → List Event → Type 0
AllHomed text labels [] = Unit {0}
AllHomed text labels (e ∷ es) = Homed text labels e.kind (home_of e) × AllHomed text labels es
