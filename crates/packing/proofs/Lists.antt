-- There and back, of a list of events: unpacking a packed list restores it, and packing an unpacked
-- one restores the bytes. So the writer accepts exactly what the reader can give. And how long a
-- packed list can get.
use Rattle.std.proofs.lemmas.Bool.Decides.{nat_tests}
use Rattle.std.specs.Prelude.{Some, None, Ok}
use Rattle.std.specs.Option.{option_or}
use Prim.Native.Nat.{ℕ, zero, suc, ◌+◌, ◌*◌, ◌≤◌, ◌<◌}
use mathlib.Core.Path.{◌≡◌, refl, sym, ap, ◌∙◌, subst}
use mathlib.Core.List.{List, [], ◌∷◌, ◌++◌, append-nil}
use mathlib.Core.Bool.{Bool, true, false}
use mathlib.Core.Logic.{◌↔◌}
use native.Mathlib.Omega.{arith}
use borrow.Author.Tests.{leb-true, le-leb}
use lib.Dec.{leb}
use lib.ListN.{length, drop, length-append, drop_of_length-le}
use Rattle.reading.specs.declared.Located.{Located}
use Rattle.groups.specs.Groups.{spelled, spelled_all}
use Rattle.groups.proofs.Numbers.{limit, Bytes, bytes-none, bytes-append, groups-bytes, groups-size, spelled-append}
use Rattle.groups.proofs.Turns.{spelled_one}
use Rattle.packing.specs.declared.Fault.TheVariants.{Rest}
use Rattle.packing.specs.Packed.{largest, given, fields, fields_all, packed, Flawed, flaw_of, first_flaw}
use Rattle.packing.specs.Unpacked.{Got, a_number, if_sound, events_from, at_end, unpacked}
use Rattle.packing.proofs.Stands.{same-got, Stands, Small, spelled-stands, stands-spelled, stands-append, stands_parts, small-append, small-parts}
use Rattle.packing.proofs.Single.{Writable, Narrow, flaw-none, writable-none, on_then, on-got, numbers-read, Read, event-found}
use Rattle.packing.proofs.Single.{known-low, home-low, fields-small, link-small, line-small}

-- each event can be written behind the one before it
unfoldable pub AllWritable : ℕ → List Located → Type 0
AllWritable prev [] = Unit {0}
AllWritable prev (e ∷ es) = Writable prev e.event × AllWritable e.event.end.0 es

-- and has numbers of 32 bits
unfoldable pub AllNarrow : List Located → Type 0
AllNarrow [] = Unit {0}
AllNarrow (e ∷ es) = Narrow e × AllNarrow es

-- no flaw, with i events before
else-none : (a b : Flawed) → option_or a b ≡ None → (a ≡ None) × (b ≡ None)
else-none (Some f) b e = cc
else-none None b e = (refl, e)

pub first-none : (i prev : ℕ) (es : List Located) → i ≤ largest → first_flaw i prev es ≡ None → AllWritable prev es × (i + length es ≤ largest)
unfolding first_flaw AllWritable
first-none i prev [] l h = (tt, omega arith)
first-none i prev (e ∷ es) l h =
    let a = else-none (flaw_of i prev e.event) _ h in
    let b = flaw-none i prev e.event a.0 in
    let c = first-none (suc i) e.event.end.0 es b.1 a.1 in
    ((b.0, c.0), omega (arith, c.1))

pub none_first : (i prev : ℕ) (es : List Located) → AllWritable prev es → i + length es ≤ largest → first_flaw i prev es ≡ None
unfolding first_flaw AllWritable
none_first i prev [] w l = refl
none_first i prev (e ∷ es) w l = rw (writable-none i prev e.event w.0 (omega arith)) (none_first (suc i) e.event.end.0 es w.1 (omega arith))

module _ (bytes : List ℕ) where
  -- numbers that stand there are read
  all_read : (prev at : ℕ) (es : List Located) (to : ℕ) → AllWritable prev es → AllNarrow es → Stands bytes at (fields_all prev es) to
      → events_from bytes (length es) prev at ≡ Ok (es, to)
  unfolding AllWritable AllNarrow Stands fields_all events_from
  all_read prev at [] to w n s = ap (λ (k : ℕ). Ok ([], k)) s
  all_read prev at (e ∷ es) to w n s =
      let p = stands_parts bytes at (fields prev e) (fields_all e.event.end.0 es) to s in
      on_then _ (numbers-read bytes e prev at p.0 w.0 n.0 p.1)
      ∙ on_then _ (all_read e.event.end.0 p.0 es to w.1 n.1 p.2)

  -- and what was read stands there
  pub record Found (n prev at : ℕ) (es : List Located) (to : ℕ) : Type 0 where
    pub count : length es ≡ n
    pub writable : AllWritable prev es
    pub stands : Stands bytes at (fields_all prev es) to
    pub narrow : Small (fields_all prev es) → AllNarrow es

  -- the first event, and the others behind it
  found-more : (n prev at : ℕ) (e : Located) (mid : ℕ) (es : List Located) (to : ℕ) → Read bytes prev at e mid → Found n e.event.end.0 mid es to
      → Found (suc n) prev at (e ∷ es) to
  unfolding AllWritable AllNarrow fields_all
  found-more n prev at e mid es to r f =
      record {
        count = ap suc f.count;
        writable = (r.writable, f.writable);
        stands = stands-append bytes at (fields prev e) (fields_all e.event.end.0 es) mid to r.stands f.stands;
        narrow = λ s.
            let p = small-parts (fields prev e) (fields_all e.event.end.0 es) s in
            (record { end = r.end; home = r.home; link = link-small prev e r.writable p.0; line = line-small prev e p.0 }, f.narrow p.1);
      }

  found_as : (n prev at : ℕ) (ds es : List Located) (m to : ℕ) → ◌≡◌ {A = Got (List Located)} (Ok (ds, m)) (Ok (es, to)) → Found n prev at ds m → Found n prev at es to
  found_as n prev at ds es m to h f =
      let same = same-got ds es m to h in
      subst (λ (k : ℕ). Found n prev at es k) same.1 (subst (λ (x : List Located). Found n prev at x m) same.0 f)

  all_found : (n prev at : ℕ) (es : List Located) (to : ℕ) → events_from bytes n prev at ≡ Ok (es, to) → Found n prev at es to
  unfolding events_from AllWritable AllNarrow Stands fields_all
  all_found zero prev at es to h = grind (arith, nat_tests)
  all_found (suc n) prev at es to h =
      let a = on-got _ _ _ _ h in
      let b = on-got _ _ _ _ a.3 in
      found_as (suc n) prev at (a.0 ∷ b.0) es b.1 to b.3
      (found-more n prev at a.0 a.1 b.0 b.1 (event-found bytes prev at a.0 a.1 a.2) (all_found n a.0.event.end.0 a.1 b.0 b.1 b.2))

all_small : (prev : ℕ) (es : List Located) → AllWritable prev es → AllNarrow es → Small (fields_all prev es)
unfolding AllWritable AllNarrow Small fields_all
all_small prev [] w n = tt
all_small prev (e ∷ es) w n =
    small-append (fields prev e) (fields_all e.event.end.0 es) (fields-small prev e w.0 n.0) (all_small e.event.end.0 es w.1 n.1)

-- a list whose numbers stand in some bytes, to their end
list_read : (bytes : List ℕ) (es : List Located) (to : ℕ) → AllWritable 0 es → AllNarrow es → Stands bytes 0 (length es ∷ fields_all 0 es) to → length bytes ≤ to
    → unpacked bytes ≡ Ok (es, to)
unfolding Stands if_sound
list_read bytes es to w n s l =
    on_then _ s.1
    ∙ on_then _ (all_read bytes 0 s.0 es to w n s.2)
    ∙ ap (λ (b : Bool). if_sound b Rest to es to) (le-leb (length bytes) to l)

-- unpacking a packed list restores it
pub unpack-packed : (es : List Located) → AllNarrow es → first_flaw 0 0 es ≡ None → unpacked (packed es) ≡ Ok (es, length (packed es))
unfolding Small
unpack-packed es n h =
    let w = first-none 0 0 es (omega arith) h in
    let ns = length es ∷ fields_all 0 es in
    let s = spelled-stands [] [] ns (omega (arith, w.1), all_small 0 es w.0 n) in
    let end : 0 + length (packed es) ≡ length (packed es) = omega arith in
    list_read (packed es) es (length (packed es)) w.0 n
    (subst (Stands (packed es) 0 ns) end (subst (λ (bs : List ℕ). Stands bs 0 ns (0 + length (packed es))) (append-nil (packed es)) s)) (omega arith)

-- packing an unpacked list restores the bytes, and the writer has nothing against it
pub record Restored (bytes : List ℕ) (es : List Located) : Type 0 where
  pub same : packed es ≡ bytes
  pub sound : first_flaw 0 0 es ≡ None
  pub narrow : AllNarrow es

module _ (bytes : List ℕ) (y : Bytes bytes) where
  -- the count, the events and the end, each read where the one before it ends
  restored-of : (n m : ℕ) (ds : List Located) (k : ℕ) (es : List Located) (to : ℕ) → a_number bytes 0 ≡ Ok (n, m) → events_from bytes n 0 m ≡ Ok (ds, k)
      → at_end bytes ds k ≡ Ok (es, to) → Restored bytes es
  unfolding Stands Small if_sound
  restored-of n m ds k es to a b c = by (leb (length bytes) k) refl c
    where
      f : Found bytes n 0 m ds k
      f = all_found bytes n 0 m ds k b

      stands : Stands bytes 0 (length ds ∷ fields_all 0 ds) k
      stands = (m, a ∙ ap (λ (j : ℕ). Ok (j, m)) (sym f.count), f.stands)

      parts : (bytes ≡ packed ds ++ drop k bytes) × Small (length ds ∷ fields_all 0 ds)
      parts = stands-spelled bytes 0 (length ds ∷ fields_all 0 ds) k y stands

      restored : length bytes ≤ k → Restored bytes ds
      restored l =
          record {
            same = sym (parts.0 ∙ ap (λ (bs : List ℕ). packed ds ++ bs) (drop_of_length-le bytes {i = k} l) ∙ append-nil (packed ds));
            sound = none_first 0 0 ds f.writable (omega (arith, parts.1.0));
            narrow = f.narrow parts.1.1;
          }

      by : (t : Bool) → leb (length bytes) k ≡ t → if_sound t Rest k ds k ≡ Ok (es, to) → Restored bytes es
      by true l c = subst (Restored bytes) (same-got ds es k to c).0 (restored (leb-true (length bytes) k l))
      by false l c = cc

  pub pack-unpacked : (es : List Located) (to : ℕ) → unpacked bytes ≡ Ok (es, to) → Restored bytes es
  pack-unpacked es to h =
      let a = on-got _ _ _ _ h in
      let b = on-got _ _ _ _ a.3 in
      restored-of a.0 a.1 b.0 b.1 es to a.2 b.2 b.3

spelled-bytes : (ns : List ℕ) → Small ns → Bytes (spelled_all ns)
unfolding Small spelled_all limit
spelled-bytes [] s = bytes-none
spelled-bytes (n ∷ ns) s = bytes-append (spelled n) (spelled_all ns) (groups-bytes 4 n (omega (arith, s.0))) (spelled-bytes ns s.1)

pub packed-bytes : (es : List Located) → AllNarrow es → first_flaw 0 0 es ≡ None → Bytes (packed es)
unfolding Small
packed-bytes es n h =
    let w = first-none 0 0 es (omega arith) h in
    spelled-bytes (length es ∷ fields_all 0 es) (omega (arith, w.1), all_small 0 es w.0 n)

-- some bytes are read as a list
abbrev pub Given : List Located → Type 0
Given es = (bytes : List ℕ) × Bytes bytes × (unpacked bytes ≡ Ok (es, length bytes))

-- the writer accepts exactly what the reader can give
pub accepts-given : (es : List Located) → AllNarrow es → (first_flaw 0 0 es ≡ None) ↔ Given es
accepts-given es n = (
  λ h. (packed es, packed-bytes es n h, unpack-packed es n h),
  λ g. (pack-unpacked g.0 g.1 es (length g.0) g.2).sound,
)

-- how many bytes some numbers take: from a to b
abbrev Sized : List ℕ → ℕ → ℕ → Type 0
Sized ns a b = (a ≤ length (spelled_all ns)) × (length (spelled_all ns) ≤ b)

sized-more : (n : ℕ) (ns : List ℕ) (a b : ℕ) → Sized ns a b → Sized (n ∷ ns) (a + 1) (b + 5)
unfolding spelled_all
sized-more n ns a b s =
    let z = length-append (spelled n) (spelled_all ns) in
    let g = groups-size 4 n in
    (omega (arith, z, g.0, s.0), omega (arith, z, g.1, s.1))

sized-low : (n : ℕ) (ns : List ℕ) (a b : ℕ) → n < 128 → Sized ns a b → Sized (n ∷ ns) (a + 1) (b + 1)
unfolding spelled_all
sized-low n ns a b h s =
    let z = length-append (spelled n) (spelled_all ns) in
    let o = ap length (spelled_one n h) in
    (omega (arith, z, o, s.0), omega (arith, z, o, s.1))

sized-given : (t : Bool) (n : ℕ) (ns : List ℕ) (a b : ℕ) → Sized ns a b → Sized (given t n ns) a (b + 5)
unfolding given
sized-given true n ns a b s = let r = sized-more n ns a b s in (omega (arith, r.0), r.1)
sized-given false n ns a b s = (s.0, omega (arith, s.1))

sized-none : Sized [] 0 0
unfolding spelled_all
sized-none = (omega arith, omega arith)

event-size : (prev : ℕ) (e : Located) → Writable prev e.event → Sized (fields prev e) 5 32
unfolding fields
event-size prev e w =
    sized-low _ _ 4 31 (omega (arith, known-low e.event.kind w.kind))
    (sized-more _ _ 3 26
    (sized-more _ _ 2 21
    (sized-more _ _ 1 16
    (sized-low _ _ 0 15 (omega (arith, home-low e.event.kind e.event.home w.home))
    (sized-given _ _ _ 0 10 (sized-given _ _ _ 0 5 (sized-given _ _ [] 0 0 sized-none)))))))

events-size : (prev : ℕ) (es : List Located) → AllWritable prev es → Sized (fields_all prev es) (5 * length es) (32 * length es)
unfolding AllWritable fields_all
events-size prev [] w = sized-none
events-size prev (e ∷ es) w =
    let z = ap length (spelled-append (fields prev e) (fields_all e.event.end.0 es)) ∙ length-append (spelled_all (fields prev e)) (spelled_all (fields_all e.event.end.0 es)) in
    let a = event-size prev e w.0 in
    let b = events-size e.event.end.0 es w.1 in
    (omega (arith, z, a.0, b.0), omega (arith, z, a.1, b.1))

-- a list takes 5 bytes an event and one more at least, and 32 an event and 5 more at most
pub packed-size : (es : List Located) → first_flaw 0 0 es ≡ None → (5 * length es + 1 ≤ length (packed es)) × (length (packed es) ≤ 32 * length es + 5)
packed-size es h = sized-more (length es) (fields_all 0 es) (5 * length es) (32 * length es) (events-size 0 es (first-none 0 0 es (omega arith) h).0)
