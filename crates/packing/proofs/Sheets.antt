-- Every list that the reader of sheets hands out can be written.
use Rattle.std.specs.Prelude.{None}
use Prim.Native.Nat.{ℕ, ◌≤◌}
use mathlib.Core.Path.{◌≡◌, refl}
use mathlib.Core.List.{List, [], ◌∷◌}
use mathlib.Core.Bool.{Bool, true, false}
use Rattle.std.proofs.lemmas.Bool.Decides.{nat_tests}
use native.Mathlib.Omega.{arith}
use lib.ListN.{length}
use Rattle.reading.specs.declared.Line.{Line}
use Rattle.reading.specs.declared.Event.{Event}
use Rattle.reading.specs.declared.Home.{Home}
use Rattle.reading.specs.Events.{home_of}
use Rattle.reading.specs.Homes.{has_home, has_link, HomeBy, LinkBy, AllHomed}
use Rattle.reading.specs.Reading.{sheet, end_of}
use Rattle.reading.specs.Located.{located}
use Rattle.reading.specs.Questions.{Rooms, label_room, outcome}
use Rattle.reading.specs.Walked.{Ordered, events}
use Rattle.reading.proofs.Answers.{accepted, homed, short}
use Rattle.reading.proofs.Locating.{located-length}
use Rattle.packing.specs.Packed.{present, may_have, first_flaw}
use Rattle.packing.proofs.Lists.{AllWritable, none_first}

-- what the law of homes says, as the writer asks for it
record Kept (kind : ℕ) (h : Home) : Type 0 where
  pub home : may_have kind h.home ≡ true
  pub range : h.start.0 ≤ h.end.0
  pub homeless : present h.home ≡ false → (h.start.0 ≡ 0) × (h.end.0 ≡ 0)

kept_by : (text labels kind : ℕ) (h : Home) (b : Bool) → has_home kind ≡ b → HomeBy b text labels h → Kept kind h
unfolding HomeBy may_have
kept_by text labels kind h true has r = grind (arith, nat_tests)
kept_by text labels kind h false has r = grind (arith, nat_tests)

unlinked-by : (h : Home) (b : Bool) → LinkBy b h → b ≡ false → h.link.0 ≡ 0
unfolding LinkBy
unlinked-by h true l e = cc
unlinked-by h false l e = l

homed-writable : (text labels : ℕ) (ls : List Line) (a : ℕ) (es : List Event) (b : ℕ) → Ordered a es b → AllHomed text labels es → AllWritable a (located ls es)
unfolding Ordered AllHomed AllWritable located
homed-writable text labels ls a [] b o h = tt
homed-writable text labels ls a (e ∷ es) b o h =
    let k = kept_by text labels e.kind (home_of e) (has_home e.kind) refl h.0.home in (
      record {
        kind = h.0.there;
        home = k.home;
        span = o.1;
        range = k.range;
        late = o.0;
        homeless = k.homeless;
        unlinked = unlinked-by (home_of e) (has_link e.kind) h.0.link;
      },
      homed-writable text labels ls e.end.0 es b o.2 h.1,
    )

-- of each sheet that is read
pub sheet-sound : (text : List ℕ) (ls : List Line) (reading : ℕ) (rooms : Rooms) → (outcome text ls reading rooms).answer.code ≡ 0
    → first_flaw 0 0 (located ls (events (sheet text ls reading (label_room rooms.labels)) ls)) ≡ None
sheet-sound text ls reading rooms e =
    let a = accepted text ls reading rooms e in
    let o = outcome text ls reading rooms in
    none_first 0 0 _ (homed-writable (length text) o.answer.labels ls 0 _ (end_of ls 0) a.whole.ordered (homed text ls reading rooms e).homes)
    (omega (arith, located-length ls (events (sheet text ls reading (label_room rooms.labels)) ls), a.whole.room, short text ls reading rooms e))
