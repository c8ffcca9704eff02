-- What the code adds to the tables of the definition: roles and makings by their parts.
use Rattle.std.specs.Prelude.{ℕ, Bool, Option}
use Rattle.reading.specs.declared.Sort.{Sort}
use Rattle.reading.specs.declared.Closer.{Closer}
use Rattle.reading.specs.declared.Role.{Role}
use Rattle.reading.specs.declared.Role.TheVariants as role
use Rattle.reading.specs.declared.DelimEventKind.{DelimEventKind}
use Rattle.reading.specs.declared.DelimEventKind.TheVariants as makes

abbrev pub other_of : Option Sort → Option Closer → ℕ → Role
other_of o c a = role.Other record { opens = o; closes = c; alone = a }

abbrev pub pair_of : ℕ → ℕ → DelimEventKind
pair_of a b = makes.Pair record { first = a; second = b }

abbrev pub link_of : ℕ → Bool → DelimEventKind
link_of k inline = makes.Link record { container = k; inline = inline }
