-- One event: what the writer accepts of it is what the reader can give, and its numbers are read
-- back.
use Rattle.std.specs.Prelude.{None, Ok, Err}
use Prim.Native.Nat.{ℕ, ◌+◌, ◌-◌, ◌≤◌, ◌<◌}
use mathlib.Core.Path.{◌≡◌, refl, ap, ◌∙◌, subst}
use mathlib.Core.List.{List, [], ◌∷◌}
use mathlib.Core.Bool.{Bool, true, false}
use Rattle.std.proofs.lemmas.Bool.Decides.{nat_tests}
use native.Mathlib.Omega.{arith}
use borrow.Author.Tests.{leb-true, le-leb}
use lib.Dec.{leb}
use Rattle.reading.specs.declared.Event.{Event}
use Rattle.reading.specs.declared.Located.{Located}
use Rattle.reading.specs.declared.Home.{Home}
use Rattle.reading.specs.Events.{place, link, homed, home_of}
use Rattle.reading.specs.Homes.{container_of, known, has_link}
use Rattle.packing.specs.declared.Fault.{Fault}
use Rattle.packing.specs.declared.Fault.TheVariants.{Beyond, UnknownKind, WrongHome}
use Rattle.packing.specs.Packed.{largest, present, given, fields, may_have, idle, unless, flaw_of}
use Rattle.packing.specs.Unpacked.{Got, Reads, on, a_number, if_sound, a_sum, a_kind, a_home, optional, home_from, event_from}
use Rattle.packing.proofs.Stands.{same-got, Stands, Small, given-read, read-given, read_none}

-- an event that can be written behind one that ends at prev
pub record Writable (prev : ℕ) (e : Event) : Type 0 where
  pub kind : known e.kind ≡ true
  pub home : may_have e.kind e.home ≡ true
  pub span : e.start.0 ≤ e.end.0
  pub range : e.home_start.0 ≤ e.home_end.0
  pub late : prev ≤ e.start.0
  pub homeless : present e.home ≡ false → (e.home_start.0 ≡ 0) × (e.home_end.0 ≡ 0)
  pub unlinked : has_link e.kind ≡ false → e.link.0 ≡ 0

-- numbers of 32 bits
pub record Narrow (r : Located) : Type 0 where
  pub end : r.event.end.0 ≤ largest
  pub home : r.event.home_end.0 ≤ largest
  pub link : r.event.link.0 ≤ largest
  pub line : r.line ≤ largest

module _ (i prev : ℕ) (e : Event) where
  pub flaw-none : flaw_of i prev e ≡ None → Writable prev e × (i < largest)
  unfolding flaw_of idle unless
  flaw-none h = (
    record {
      kind = grind (arith, nat_tests);
      home = grind (arith, nat_tests);
      span = grind (arith, nat_tests);
      range = grind (arith, nat_tests);
      late = grind (arith, nat_tests);
      homeless = λ z. (grind (arith, nat_tests), grind (arith, nat_tests));
      unlinked = λ z. grind (arith, nat_tests);
    },
    grind (arith, nat_tests),
  )

  pub writable-none : Writable prev e → i < largest → flaw_of i prev e ≡ None
  unfolding flaw_of idle unless
  writable-none w l = grind (arith, nat_tests)

-- what is read, and then made something of
pub on_then : {A B : Type 0} (f : A → Reads B) {g : Got A} {a : A} {m : ℕ} → g ≡ Ok (a, m) → on f g ≡ f a m
unfolding on
on_then f e = ap (on f) e

pub on-got : {A B : Type 0} (f : A → Reads B) (g : Got A) (b : B) (n : ℕ) → on f g ≡ Ok (b, n) → (a : A) × (m : ℕ) × (g ≡ Ok (a, m)) × (f a m ≡ Ok (b, n))
unfolding on
on-got f (Ok (a, m)) b n e = (a, m, refl, e)
on-got f (Err w) b n e = cc

-- a number that is asked about
module _ (bytes : List ℕ) (at : ℕ) (ok : ℕ → Bool) (w : Fault) (f : ℕ → ℕ) where
  abbrev asked : Got ℕ
  asked = on (λ n. if_sound (ok n) w at (f n)) (a_number bytes at)

  pub asked-got : (n m : ℕ) → a_number bytes at ≡ Ok (n, m) → ok n ≡ true → asked ≡ Ok (f n, m)
  unfolding if_sound
  asked-got n m e k = on_then _ e ∙ ap (λ (b : Bool). if_sound b w at (f n) m) k

  pub got-asked : (v m : ℕ) → asked ≡ Ok (v, m) → (n : ℕ) × (a_number bytes at ≡ Ok (n, m)) × (ok n ≡ true) × (f n ≡ v)
  unfolding if_sound
  got-asked v m e =
      let r = on-got (λ n. if_sound (ok n) w at (f n)) (a_number bytes at) v m e in
      by r.0 r.1 r.2 (ok r.0) refl r.3
    where
      by : (n k : ℕ) → a_number bytes at ≡ Ok (n, k) → (b : Bool) → ok n ≡ b → if_sound b w at (f n) k ≡ Ok (v, m)
          → (n : ℕ) × (a_number bytes at ≡ Ok (n, m)) × (ok n ≡ true) × (f n ≡ v)
      by n k a true b e = let same = same-got (f n) v k m e in (n, a ∙ ap (λ (k : ℕ). Ok (n, k)) same.1, b, same.0)
      by n k a false b e = cc

-- a number on top of another
module _ (bytes : List ℕ) (base at : ℕ) where
  pub sum-read : (v m : ℕ) → base ≤ v → v ≤ largest → a_number bytes at ≡ Ok (v - base, m) → a_sum bytes base at ≡ Ok (v, m)
  sum-read v m l h e =
      let whole : base + (v - base) ≡ v = omega arith in
      asked-got bytes at (λ n. leb (base + n) largest) Beyond (λ n. base + n) (v - base) m e (le-leb (base + (v - base)) largest (omega arith)) ∙ ap (λ (k : ℕ). Ok (k, m)) whole

  pub read-sum : (v m : ℕ) → a_sum bytes base at ≡ Ok (v, m) → (a_number bytes at ≡ Ok (v - base, m)) × (base ≤ v) × (v ≤ largest)
  read-sum v m e =
      let r = got-asked bytes at (λ n. leb (base + n) largest) Beyond (λ n. base + n) v m e in
      let part : r.0 ≡ v - base = omega (arith, r.3) in
      (r.1 ∙ ap (λ (k : ℕ). Ok (k, m)) part, omega (arith, r.3), omega (arith, r.3, leb-true (base + r.0) largest r.2))

module _ (bytes : List ℕ) (e : Event) where
  -- the numbers of home and link number
  abbrev behind : List ℕ
  behind =
      given (present e.home) e.home_start.0
      (given (present e.home) (e.home_end.0 - e.home_start.0)
      (given (has_link e.kind) e.link.0 []))

  home_read : (prev at to : ℕ) → Writable prev e → e.home_end.0 ≤ largest → Stands bytes at (e.home ∷ behind) to → home_from bytes e.kind at ≡ Ok (home_of e, to)
  unfolding Stands
  home_read prev at to w n s =
      let a = asked-got bytes at (may_have e.kind) WrongHome (λ n. n) e.home s.0 s.1 w.home in
      let b = given-read bytes s.0 (a_number bytes) e.home_start.0 e.home_start.0 _ to (present e.home) (λ z. (w.homeless z).0) (λ m q. q) s.2 in
      let c = given-read bytes b.0 (a_sum bytes e.home_start.0) (e.home_end.0 - e.home_start.0) e.home_end.0 _ to (present e.home) (λ z. (w.homeless z).1)
      (λ m q. sum-read bytes e.home_start.0 b.0 e.home_end.0 m w.range n q) b.2 in
      let d = given-read bytes c.0 (a_number bytes) e.link.0 e.link.0 [] to (has_link e.kind) w.unlinked (λ m q. q) c.2 in
      on_then _ a ∙ on_then _ b.1 ∙ on_then _ c.1 ∙ on_then _ d.1 ∙ ap (λ (k : ℕ). Ok (home_of e, k)) d.2

module _ (bytes : List ℕ) (l : Located) where
  abbrev e : Event
  e = l.event

  pub numbers-read : (prev at to : ℕ) → Writable prev e → Narrow l → Stands bytes at (fields prev l) to → event_from bytes prev at ≡ Ok (l, to)
  unfolding Stands fields
  numbers-read prev at to w n s =
      let a = asked-got bytes at known UnknownKind (λ n. n) e.kind s.0 s.1 w.kind in
      let b = sum-read bytes prev s.0 e.start.0 s.2.0 w.late (omega (arith, w.span, n.end)) s.2.1 in
      let c = sum-read bytes e.start.0 s.2.0 e.end.0 s.2.2.0 w.span n.end s.2.2.1 in
      let d = home_read bytes e prev s.2.2.2.0 to w n.home s.2.2.2.2 in
      on_then _ a ∙ on_then _ b ∙ on_then _ c ∙ on_then _ s.2.2.2.1 ∙ on_then _ d

-- a home that was read, of a kind
record HomeRead (bytes : List ℕ) (at kind : ℕ) (h : Home) (to : ℕ) : Type 0 where
  pub home : may_have kind h.home ≡ true
  pub range : h.start.0 ≤ h.end.0
  pub narrow : h.end.0 ≤ largest
  pub homeless : present h.home ≡ false → (h.start.0 ≡ 0) × (h.end.0 ≡ 0)
  pub unlinked : has_link kind ≡ false → h.link.0 ≡ 0
  pub stands : Stands bytes at
      (h.home
      ∷ given (present h.home) h.start.0
      (given (present h.home) (h.end.0 - h.start.0)
      (given (has_link kind) h.link.0 []))) to

module _ (bytes : List ℕ) where
  range-found : (b : Bool) (at from m to n : ℕ) → optional b (a_number bytes) at ≡ Ok (from, m) → optional b (a_sum bytes from) m ≡ Ok (to, n) → (from ≤ to) × (to ≤ largest)
  unfolding optional
  range-found true at from m to n e f = let r = read-sum bytes from m to n f in (r.1, r.2)
  range-found false at from m to n e f = grind (arith, nat_tests)

  -- of its four numbers, each read where the one before it ends
  home-of : (at kind home a from b to c n d : ℕ) → a_home bytes kind at ≡ Ok (home, a) → optional (present home) (a_number bytes) a ≡ Ok (from, b)
      → optional (present home) (a_sum bytes from) b ≡ Ok (to, c) → optional (has_link kind) (a_number bytes) c ≡ Ok (n, d)
      → HomeRead bytes at kind (record { home = home; start = place from; end = place to; link = link n }) d
  unfolding Stands
  home-of at kind home a from b to c n d x y z w =
      let k = got-asked bytes at (may_have kind) WrongHome (λ n. n) home a x in
      let r = range-found (present home) a from b to c y z in
      record {
        home = subst (λ (m : ℕ). may_have kind m ≡ true) k.3 k.2;
        range = r.0;
        narrow = r.1;
        homeless = λ none. (read_none (a_number bytes) a from b (present home) none y, read_none (a_sum bytes from) b to c (present home) none z);
        unlinked = λ none. read_none (a_number bytes) c n d (has_link kind) none w;
        stands = (
          a,
          k.1 ∙ ap (λ (m : ℕ). Ok (m, a)) k.3,
          read-given bytes a (a_number bytes) from from _ d (present home) b (λ e. e) y
              (read-given bytes b (a_sum bytes from) (to - from) to _ d (present home) c (λ e. (read-sum bytes from b to c e).0) z
              (read-given bytes c (a_number bytes) n n [] d (has_link kind) d (λ e. e) w refl)),
        );
      }

  home_found : (at kind : ℕ) (h : Home) (to : ℕ) → home_from bytes kind at ≡ Ok (h, to) → HomeRead bytes at kind h to
  home_found at kind h to e =
      let a = on-got _ _ _ _ e in
      let b = on-got _ _ _ _ a.3 in
      let c = on-got _ _ _ _ b.3 in
      let d = on-got _ _ _ _ c.3 in
      found-home at kind _ h _ to d.3 (home-of at kind a.0 a.1 b.0 b.1 c.0 c.1 d.0 d.1 a.2 b.2 c.2 d.2)
    where
      found-home : (at kind : ℕ) (g h : Home) (m to : ℕ) → ◌≡◌ {A = Got Home} (Ok (g, m)) (Ok (h, to)) → HomeRead bytes at kind g m → HomeRead bytes at kind h to
      found-home at kind g h m to e r =
          let same = same-got g h m to e in
          subst (λ (k : ℕ). HomeRead bytes at kind h k) same.1 (subst (λ (x : Home). HomeRead bytes at kind x m) same.0 r)

-- what is read of an event: it can be written, and its numbers stand there
pub record Read (bytes : List ℕ) (prev at : ℕ) (l : Located) (to : ℕ) : Type 0 where
  pub writable : Writable prev l.event
  pub end : l.event.end.0 ≤ largest
  pub home : l.event.home_end.0 ≤ largest
  pub stands : Stands bytes at (fields prev l) to

module _ (bytes : List ℕ) (prev at : ℕ) where
  event-of : (kind a start b end c line i : ℕ) (h : Home) (d : ℕ) → a_kind bytes at ≡ Ok (kind, a) → a_sum bytes prev a ≡ Ok (start, b) → a_sum bytes start b ≡ Ok (end, c)
      → a_number bytes c ≡ Ok (line, i) → home_from bytes kind i ≡ Ok (h, d) → Read bytes prev at (record { event = homed kind h start end; line = line }) d
  unfolding Stands fields
  event-of kind a start b end c line i h d x y z v w =
      let k = got-asked bytes at known UnknownKind (λ n. n) kind a x in
      let s = read-sum bytes prev a start b y in
      let t = read-sum bytes start b end c z in
      let r = home_found bytes i kind h d w in
      record {
        writable = record {
          kind = subst (λ (m : ℕ). known m ≡ true) k.3 k.2;
          home = r.home;
          span = t.1;
          range = r.range;
          late = s.1;
          homeless = r.homeless;
          unlinked = r.unlinked;
        };
        end = t.2;
        home = r.narrow;
        stands = (a, k.1 ∙ ap (λ (m : ℕ). Ok (m, a)) k.3, (b, s.0, (c, t.0, (i, v, r.stands))));
      }

  pub event-found : (e : Located) (to : ℕ) → event_from bytes prev at ≡ Ok (e, to) → Read bytes prev at e to
  event-found e to h =
      let a = on-got _ _ _ _ h in
      let b = on-got _ _ _ _ a.3 in
      let c = on-got _ _ _ _ b.3 in
      let d = on-got _ _ _ _ c.3 in
      let k = on-got _ _ _ _ d.3 in
      as_read _ e _ to k.3 (event-of a.0 a.1 b.0 b.1 c.0 c.1 d.0 d.1 k.0 k.1 a.2 b.2 c.2 d.2 k.2)
    where
      as_read : (g e : Located) (m to : ℕ) → ◌≡◌ {A = Got Located} (Ok (g, m)) (Ok (e, to)) → Read bytes prev at g m → Read bytes prev at e to
      as_read g e m to h r =
          let same = same-got g e m to h in
          subst (λ (k : ℕ). Read bytes prev at e k) same.1 (subst (λ (x : Located). Read bytes prev at x m) same.0 r)

-- kinds and homes are low
pub known-low : (kind : ℕ) → known kind ≡ true → kind ≤ 80
unfolding known container_of
known-low kind h = grind (arith, nat_tests)

pub home-low : (kind home : ℕ) → may_have kind home ≡ true → home ≤ 2
unfolding may_have
home-low kind home h = grind (arith, nat_tests)

-- numbers of 32 bits are small, and small numbers are of 32 bits
given-small : (b : Bool) (n : ℕ) (ns : List ℕ) → n ≤ largest → Small ns → Small (given b n ns)
unfolding Small given
given-small true n ns h s = (h, s)
given-small false n ns h s = s

small-given : (b : Bool) (n : ℕ) (ns : List ℕ) → Small (given b n ns) → (b ≡ true → n ≤ largest) × Small ns
unfolding Small given
small-given true n ns s = (λ e. s.0, s.1)
small-given false n ns s = (λ e. cc, s)

pub fields-small : (prev : ℕ) (l : Located) → Writable prev l.event → Narrow l → Small (fields prev l)
unfolding Small fields
fields-small prev l w n = (
  omega (arith, known-low l.event.kind w.kind),
  (
    omega (arith, w.span, n.end),
    (
      omega (arith, n.end),
      (
        n.line,
        (
          omega (arith, home-low l.event.kind l.event.home w.home),
          given-small _ _ _ (omega (arith, w.range, n.home)) (given-small _ _ _ (omega (arith, n.home)) (given-small _ _ [] n.link tt)),
        ),
      ),
    ),
  ),
)

pub line-small : (prev : ℕ) (l : Located) → Small (fields prev l) → l.line ≤ largest
unfolding Small fields
line-small prev l s = s.1.1.1.0

pub link-small : (prev : ℕ) (l : Located) → Writable prev l.event → Small (fields prev l) → l.event.link.0 ≤ largest
unfolding Small fields
link-small prev l w s =
    let a = small-given _ _ _ s.1.1.1.1.1 in
    let b = small-given _ _ _ a.1 in
    by (has_link l.event.kind) refl (small-given _ _ [] b.1).0
  where
    by : (t : Bool) → has_link l.event.kind ≡ t → (has_link l.event.kind ≡ true → l.event.link.0 ≤ largest) → l.event.link.0 ≤ largest
    by true t f = f t
    by false t f = omega (arith, w.unlinked t)
