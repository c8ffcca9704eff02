-- The lists of `Worked`, by computation: what is written of their events, what is read of their
-- bytes, and the faults.
use Rattle.std.specs.Prelude.{Some, None, Ok}
use mathlib.Core.Path.{◌≡◌, refl}
use mathlib.Core.List.{map}
use lib.ListN.{length}
use Rattle.reading.specs.Homes.{container_of, known, has_home, has_link}
use Rattle.groups.specs.Groups.{groups, spelled_all, more, front, placed}
use Rattle.packing.specs.Packed.{given, fields, fields_all, packed, unless, may_have, idle, flaw_of, first_flaw}
use Rattle.packing.specs.Unpacked.{fault, on, number_as, if_sound, optional, events_from, unpacked}
use Rattle.packing.specs.Worked.{Pair, worked, Faulty, faulty, Refusal, refused}

-- they are written so, and none has a flaw
written-rows : map (λ (p : Pair). packed p.events) worked ≡ map (λ (p : Pair). p.bytes) worked
unfolding groups spelled_all given fields fields_all has_link container_of
written-rows = refl

sound-rows : map (λ (p : Pair). first_flaw 0 0 p.events) worked ≡ map (λ (p : Pair). None) worked
unfolding unless may_have idle flaw_of first_flaw known has_home has_link container_of
sound-rows = refl

-- they are read so
read-rows : map (λ (p : Pair). unpacked p.bytes) worked ≡ map (λ (p : Pair). Ok (p.events, length p.bytes)) worked
unfolding more front placed on number_as if_sound optional events_from may_have known has_home has_link container_of
read-rows = refl

-- and the others are refused there
faulty-rows : map (λ (p : Faulty). unpacked p.bytes) faulty ≡ map (λ (p : Faulty). fault p.fault p.place) faulty
unfolding more front placed on number_as if_sound optional events_from may_have known has_home has_link container_of
faulty-rows = refl

refused-rows : map (λ (p : Refusal). first_flaw 0 0 p.events) refused ≡ map (λ (p : Refusal). Some (p.flaw, p.index)) refused
unfolding unless may_have idle flaw_of first_flaw known has_home has_link container_of
refused-rows = refl
