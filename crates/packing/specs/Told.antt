-- What the faults of a list are, in plain words.
use Rattle.std.specs.Prelude.{ℕ, List, codes}
use Rattle.packing.specs.declared.Fault.{Fault}
use Rattle.packing.specs.declared.Fault.TheVariants.{Cut, Longer, TooLarge, Beyond, UnknownKind, WrongHome, Rest}

abbrev pub fault_text : Fault → List ℕ
fault_text Cut = codes "the list ends there, within a number or before one"
fault_text Longer = codes "the number there has more bytes than it needs"
fault_text TooLarge = codes "the number there is over 4294967295"
fault_text Beyond = codes "the number there moves a start or an end beyond 4294967295"
fault_text UnknownKind = codes "the number there is no kind of an event"
fault_text WrongHome = codes "the number there is no home, or the event's kind has none"
fault_text Rest = codes "bytes are left over from there on"
