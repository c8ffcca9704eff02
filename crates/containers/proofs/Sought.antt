-- The close of each sort, and a token tried as a closer, then as an opener, then alone.
use Rattle.std.specs.Prelude.{None, Option, Some, unwrap_or}
use Prim.Native.Nat.{ℕ, ◌+◌, ◌-◌, ◌≤◌, ◌<◌}
use mathlib.Core.Path.{◌≡◌, refl, sym, ap, ◌∙◌, subst}
use mathlib.Core.List.{List, [], ◌∷◌}
use mathlib.Core.Bool.{Bool, true, false}
use native.Mathlib.Omega.{arith}
use Rattle.std.proofs.Common.{rules}
use lib.ListN.{length}
use Rattle.lex.specs.declared.lex.Cursor.{Cursor}
use Rattle.lex.specs.declared.lex.Token.{Token}
use Rattle.lex.specs.Lexer.{peek_of}
use Rattle.lex.proofs.Laws.{Sound, peek-kept}
use Rattle.reading.specs.declared.Closer.{Closer}
use Rattle.reading.specs.declared.Opener.{Opener}
use Rattle.reading.specs.declared.Marks.{Marks}
use Rattle.reading.specs.declared.Pair.{Pair}
use Rattle.reading.specs.declared.Target.{Target}
use Rattle.reading.specs.declared.DelimEventKind.{DelimEventKind}
use Rattle.reading.specs.declared.DelimEventKind.TheVariants as makes
use Rattle.reading.specs.declared.Sort.{Sort}
use Rattle.reading.specs.declared.Sort.TheVariants as sort
use Rattle.reading.specs.Machine.{View, Sheet, State, Turn, Here, with_openers}
use Rattle.reading.specs.Tokens.{closing_of}
use Rattle.reading.specs.Containers.{seek, may_close, close_as, opens_or, tried, container}
use Rattle.reading.specs.Looks.{looked}
use Rattle.reading.specs.Naming.{Names, Named}
use Rattle.reading.proofs.Looks.{looked-left, looked-all}
use Rattle.reading.proofs.Named.{named-seek}
use Rattle.reading.proofs.Places.{peeked-taken, peek-sound, peek-place}
use Rattle.rooms.specs.declared.Parser.{Parser}
use Rattle.rooms.specs.declared.span.Span.{Span}
use Rattle.rooms.specs.Records.{opener_at, opens, place}
use Rattle.rooms.specs.Standing.{here}
use Rattle.rooms.specs.Steps.{state}
use Rattle.rooms.proofs.Changing.{openers_long}
use Rattle.rooms.proofs.Rows.{stack-length}
use Rattle.rooms.proofs.Search.{found_at, place_none}
use Rattle.containers.specs.Ready.{closable}

-- a bracket that is taken along lies within the line
pub span-within : (line : List ℕ) (c : Cursor) (to : ℕ) (t : Token) → Sound line c → c.pos ≡ to → (peek_of line c).token ≡ Some t
    → (1 ≤ t.len) × (to + t.len ≤ length line)
span-within line c to t so pl e =
    let k = peeked-taken line (peek_of line c).cursor t (peek-sound line c so) ((peek-kept line c).held ∙ e) in
    (k.long, omega (arith, k.within, peek-place line c to pl))

-- what an opener names, by what its end makes
pub named-pair : (x : Opener) (n : ℕ) (d : DelimEventKind) (k : Pair) → Names d x n → d ≡ makes.Pair k → x.event < n
unfolding Names
named-pair x n d k h e = subst (λ (y : DelimEventKind). Names y x n) e h

pub named-span : (x : Opener) (n : ℕ) (d : DelimEventKind) (i : Bool) → Names d x n → d ≡ makes.Span i → x.event < n
unfolding Names
named-span x n d i h e = subst (λ (y : DelimEventKind). Names y x n) e h

pub named-link : (x : Opener) (n : ℕ) (d : DelimEventKind) (t : Target) → Names d x n → d ≡ makes.Link t → (x.span + 2 ≤ x.event) × (x.event < n)
unfolding Names
named-link x n d t h e = subst (λ (y : DelimEventKind). Names y x n) e h

named-event : (x : Opener) (n : ℕ) (d : DelimEventKind) → Names d x n → x.event < n
unfolding Names
named-event x n (makes.Pair k) h = h
named-event x n (makes.Span i) h = h
named-event x n (makes.Link t) h = h.1

-- a link's container is one of four
SmallBy : DelimEventKind → Type 0
SmallBy (makes.Pair k) = Unit {0}
SmallBy (makes.Span i) = Unit {0}
SmallBy (makes.Link t) = t.container < 32

small_of : (s : Sort) → SmallBy (closing_of s)
unfolding closing_of SmallBy
small_of sort.Span = tt
small_of sort.Image = tt
small_of sort.Strong = tt
small_of sort.BraceStrong = tt
small_of sort.Emphasis = tt
small_of sort.BraceEmphasis = tt
small_of sort.Superscript = tt
small_of sort.BraceSuperscript = tt
small_of sort.Subscript = tt
small_of sort.BraceSubscript = tt
small_of sort.Mark = tt
small_of sort.Delete = tt
small_of sort.Insert = tt
small_of sort.SingleQuoted = tt
small_of sort.DoubleQuoted = tt
small_of sort.ReferenceLink = omega arith
small_of sort.ReferenceImage = omega arith
small_of sort.InlineLink = omega arith
small_of sort.InlineImage = omega arith

pub link-small : (s : Sort) (t : Target) → closing_of s ≡ makes.Link t → t.container < 32
unfolding SmallBy
link-small s t e = subst SmallBy e (small_of s)

-- the opener that is tried
module _ (v : View) (h : Here) (s : State) (o : List ℕ) (mark : Option Closer) (n : ℕ) (f : Option ℕ) (isf : f ≡ place (seek mark (opens n o))) where
  pub sought_none : f ≡ None → None ≡ closable v h s (seek mark (opens n o))
  unfolding closable
  sought_none e = sym (ap (closable v h s) (place_none (seek mark (opens n o)) (sym isf ∙ e)))

  module _ (i : ℕ) (e : f ≡ Some i) where
    found : (i < n) × (seek mark (opens n o) ≡ opener_at o i ∷ opens i o)
    found = found_at o mark n i (sym isf ∙ e)

    pub sought-names : (x : Opener) → x ≡ opener_at o i → (k : ℕ) → Named (opens n o) k → x.event < k
    unfolding Named
    sought-names x isx k w =
        named-event x k (closing_of x.sort)
        (subst (λ (y : Opener). Names (closing_of y.sort) y k) (sym isx)
        (subst (λ (os : List Opener). Named os k) found.1 (named-seek mark (opens n o) k w)).0)

    module _ (x : Opener) (isx : x ≡ opener_at o i) where
      sought : seek mark (opens n o) ≡ x ∷ opens i o
      sought = found.1 ∙ ap (λ (y : Opener). y ∷ opens i o) (sym isx)

      pub sought-closes : may_close v h s x ≡ true → Some i ≡ closable v h s (seek mark (opens n o))
      unfolding closable
      sought-closes t = sym (rw (sought, t, closable) (ap Some (stack-length opener_at i o)))

      pub sought-not : may_close v h s x ≡ false → None ≡ closable v h s (seek mark (opens n o))
      unfolding closable
      sought-not t = sym (rw (sought, t, closable))

-- how many are looked at: all but those older than the one that is found, or all
looked-found : (c : Option Closer) (os : List Opener) (i : ℕ) → place (seek c os) ≡ Some i → looked (Some c) os + i ≡ length os
unfolding place
looked-found c os i e = go (seek c os) refl e
  where
    go : (found : List Opener) → seek c os ≡ found → place found ≡ Some i → looked (Some c) os + i ≡ length os
    go [] is e = cc
    go (o ∷ older) is e = let z : length older ≡ i = cc in omega (arith, looked-left c os o older is, z)

looked-by : (c : Option Closer) (os : List Opener) (f : Option ℕ) → f ≡ place (seek c os) → length os - unwrap_or f 0 ≡ looked (Some c) os
looked-by c os None e = let z : unwrap_or {T = ℕ} None 0 ≡ 0 = search rules in omega (arith, z, looked-all c os (place_none (seek c os) (sym e)))
looked-by c os (Some i) e = let z : unwrap_or {T = ℕ} (Some i) 0 ≡ i = search rules in omega (arith, z, looked-found c os i (sym e))

pub looked-count : (c : Option Closer) (p : Parser) (f : Option ℕ) → f ≡ place (seek c (state p).openers) → (d : ℕ) → d ≡ unwrap_or f 0
    → p.at.openers - d ≡ looked (Some c) (state p).openers
looked-count c p f isf d isd =
    ap (λ (n : ℕ). n - d) (sym (openers_long p))
    ∙ ap (λ (n : ℕ). length (state p).openers - n) isd
    ∙ looked-by c (state p).openers f isf

-- what the answer of the trial says
module _ (v : View) (h : Here) (s : State) where
  closable-place : (os : List Opener) (i : ℕ) → closable v h s os ≡ Some i → place os ≡ Some i
  unfolding closable place
  closable-place [] i e = e
  closable-place (o ∷ os) i e = go (may_close v h s o) e
    where
      go : (b : Bool) → elim b [ true ↦ Some (length os) | false ↦ None ] ≡ Some i → Some (length os) ≡ Some i
      go true e = e
      go false e = let z : ◌≡◌ {A = ℕ} 0 1 = cc in absurd (omega arith)

  closable-may : (o : Opener) (os : List Opener) (i : ℕ) → closable v h s (o ∷ os) ≡ Some i → may_close v h s o ≡ true
  unfolding closable
  closable-may o os i e = go (may_close v h s o) e
    where
      go : (b : Bool) → elim b [ true ↦ Some (length os) | false ↦ None ] ≡ Some i → b ≡ true
      go true e = refl
      go false e = let z : ◌≡◌ {A = ℕ} 0 1 = cc in absurd (omega arith)

  tried-none : (x : Sheet) (k : Marks) (os : List Opener) → closable v h s os ≡ None
      → tried x v h k os s ≡ record { cursor = h.cursor; state = opens_or v h k.alone k.opens s }
  unfolding closable tried
  tried-none x k [] e = refl
  tried-none x k (o ∷ os) e = go (may_close v h s o) e
    where
      go : (b : Bool) → ◌≡◌ {A = Option ℕ} (elim b [ true ↦ Some (length os) | false ↦ None ]) None
          → ◌≡◌ {A = Turn}
          (elim b [
            | true ↦ close_as x v h o (closing_of o.sort) (with_openers os s)
            | false ↦ record { cursor = h.cursor; state = opens_or v h k.alone k.opens s }
          ]) (record { cursor = h.cursor; state = opens_or v h k.alone k.opens s })
      go true e = let z : ◌≡◌ {A = ℕ} 0 1 = cc in absurd (omega arith)
      go false e = refl

-- a token tried
module _ (v : View) (h : Span) (k : Marks) (p : Parser) (f : Option ℕ)
    (isf : f ≡ closable v (here h p.at) (state p) (seek k.closes (state p).openers)) where
  pub none-tried : f ≡ None → (x : Sheet)
      → record { cursor = p.at.cursor; state = opens_or v (here h p.at) k.alone k.opens (state p) } ≡ container x v (here h p.at) k (state p)
  none-tried e x = sym (tried-none v (here h p.at) (state p) x k (seek k.closes (state p).openers) (sym isf ∙ e))

  module _ (i : ℕ) (e : f ≡ Some i) where
    at : (i < p.at.openers) × (seek k.closes (state p).openers ≡ opener_at p.openers.now i ∷ opens i p.openers.now)
    at = found_at p.openers.now k.closes p.at.openers i (closable-place v (here h p.at) (state p) (seek k.closes (state p).openers) i (sym isf ∙ e))

    named-there : Named (state p).openers p.at.events → Named (opener_at p.openers.now i ∷ opens i p.openers.now) p.at.events
    named-there w = subst (λ (os : List Opener). Named os p.at.events) at.1 (named-seek k.closes (state p).openers p.at.events w)

    -- the older openers
    pub found-named : Named (state p).openers p.at.events → Named (opens i p.openers.now) p.at.events
    unfolding Named
    found-named w = (named-there w).1

    module _ (x : Opener) (isx : x ≡ opener_at p.openers.now i) where
      pub found-names : Named (state p).openers p.at.events → Names (closing_of x.sort) x p.at.events
      unfolding Named
      found-names w = subst (λ (y : Opener). Names (closing_of y.sort) y p.at.events) (sym isx) (named-there w).0

      there : seek k.closes (state p).openers ≡ x ∷ opens i p.openers.now
      there = at.1 ∙ ap (λ (y : Opener). y ∷ opens i p.openers.now) (sym isx)

      may : may_close v (here h p.at) (state p) x ≡ true
      may =
          closable-may v (here h p.at) (state p) x (opens i p.openers.now) i
          (subst (λ (os : List Opener). closable v (here h p.at) (state p) os ≡ Some i) there (sym isf ∙ e))

      -- the newer openers are discarded
      pub closed-tried : (y : Sheet)
          → close_as y v (here h p.at) x (closing_of x.sort) (with_openers (opens i p.openers.now) (state p)) ≡ container y v (here h p.at) k (state p)
      unfolding tried
      closed-tried y = sym (rw (there, may, tried))
