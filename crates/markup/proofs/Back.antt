-- Reading back: the parts of a fragment are the tags and characters of the events, in their order.
use Prim.Native.Nat.{ℕ, zero, suc, ◌+◌, ◌-◌, ◌≤◌}
use Prim.Native.Char.{code}
use mathlib.Core.Path.{◌≡◌, refl, sym, ap, ◌∙◌, subst}
use mathlib.Core.List.{List, [], ◌∷◌, ◌++◌, map, append_assoc, append-nil}
use mathlib.Core.Bool.{Bool, true, false}
use native.Mathlib.Omega.{arith}
use Rattle.std.proofs.Common.{rules}
use borrow.Author.Tests.{ltb-false}
use lib.Dec.{ltb}
use Rattle.classes.specs.Classes.{bytes}
use Rattle.reading.specs.declared.Event.{Event}
use Rattle.reading.specs.Events.{enter_from, exit_from}
use Rattle.markup.specs.Markup.{Row, find, opening, closing, breaking, entities, tag, characters, escape_by, escaped, written, raw_behind}
use Rattle.markup.specs.Markup.{unless_raw, outside_raw}
use Rattle.markup.specs.Shown.{Part, shows, Known, known, begins, First, first_of, parts_behind, parts, tagged, parts_of}
use Rattle.markup.proofs.Tables.{equal, All, found, every}

-- what may follow a backslash of the sheet: no end of a math's tag
pub record Apart (bs : List ℕ) : Type 0 where
  pub span : begins (bytes "</span>") bs ≡ false
  pub inline : begins (bytes ")</span>") bs ≡ false
  pub display : begins (bytes "]</span>") bs ≡ false

-- bs are read as ps before whatever may follow them
pub record Reads (bs : List ℕ) (ps : List Part) : Type 0 where
  pub same : (rest : List ℕ) → Apart rest → parts (bs ++ rest) ≡ ps ++ parts rest
  pub apart : (rest : List ℕ) → Apart rest → Apart (bs ++ rest)

reads_none : Reads [] []
reads_none = record { same = λ rest a. refl; apart = λ rest a. a }

reads-append : (cs bs : List ℕ) (ps qs : List Part) → Reads cs ps → Reads bs qs → Reads (cs ++ bs) (ps ++ qs)
reads-append cs bs ps qs x y =
    record {
      same = λ rest a.
          ap parts (append_assoc cs bs rest) ∙ x.same (bs ++ rest) (y.apart rest a) ∙ ap (λ (l : List Part). ps ++ l) (y.same rest a) ∙ sym (append_assoc ps qs (parts rest));
      apart = λ rest a. subst Apart (sym (append_assoc cs bs rest)) (x.apart (bs ++ rest) (y.apart rest a));
    }

-- a row of a table of tags, whose numbers are kinds from a number on
abbrev Tag : ℕ → Row → Type 0
Tag from r = Reads r.bytes (tagged (from + r.number) r.bytes)

opening-tags : All (Tag enter_from) opening
unfolding All bytes opening closing breaking entities begins first_of parts_behind tagged
opening-tags = search rules

closing-tags : All (Tag exit_from) closing
unfolding All bytes opening closing breaking entities begins first_of parts_behind tagged
closing-tags = search rules

breaking-tags : All (Tag 0) breaking
unfolding All bytes opening closing breaking entities begins first_of parts_behind tagged
breaking-tags = search rules

find-reads : (from n : ℕ) (rs : List Row) → All (Tag from) rs → Reads (find n rs) (tagged (from + n) (find n rs))
unfolding tagged
find-reads from n rs all =
    found (λ (bs : List ℕ). Reads bs (tagged (from + n) bs)) n rs
    (every (Tag from) (λ (r : Row). n ≡ r.number → Reads r.bytes (tagged (from + n) r.bytes)) rs all
    (λ r t e. subst (λ (k : ℕ). Reads r.bytes (tagged (from + k) r.bytes)) (sym e) t))
    reads_none

-- a tag
tag-reads : (kind : ℕ) → Reads (tag kind) (tagged kind (tag kind))
unfolding tag
tag-reads kind = go (ltb kind enter_from) refl
  where
    Told : List ℕ → Type 0
    Told w = Reads w (tagged kind w)

    exact : (from : ℕ) (rs : List Row) → All (Tag from) rs → from ≤ kind → Reads (find (kind - from) rs) (tagged kind (find (kind - from) rs))
    exact from rs all l =
        let e : from + (kind - from) ≡ kind = omega arith in
        subst (λ (k : ℕ). Reads (find (kind - from) rs) (tagged k (find (kind - from) rs))) e (find-reads from (kind - from) rs all)

    late : (t : Bool) → ltb kind exit_from ≡ t → enter_from ≤ kind
        → Told (elim t [ true ↦ find (kind - enter_from) opening | false ↦ find (kind - exit_from) closing ])
    late true e l = exact enter_from opening opening-tags l
    late false e l = exact exit_from closing closing-tags (ltb-false kind exit_from e)

    go : (t : Bool) → ltb kind enter_from ≡ t
        → Told (elim t [
          | true ↦ find kind breaking
          | false ↦ elim (ltb kind exit_from) [ true ↦ find (kind - enter_from) opening | false ↦ find (kind - exit_from) closing ]
        ])
    go true e = let z : 0 + kind ≡ kind = omega arith in subst (λ (k : ℕ). Reads (find kind breaking) (tagged k (find kind breaking))) z (find-reads 0 kind breaking breaking-tags)
    go false e = late (ltb kind exit_from) refl (ltb-false kind enter_from e)

-- nothing is known that some bytes begin with
unfoldable Misses : List Known → ℕ → List ℕ → Type 0
Misses [] b bs = Unit {0}
Misses (k ∷ ks) b bs = (begins k.bytes (b ∷ bs) ≡ false) × Misses ks b bs

first-none : (ks : List Known) (b : ℕ) (bs : List ℕ) → Misses ks b bs → first_of ks b bs ≡ record { part = shows b; more = 0 }
unfolding first_of Misses
first-none [] b bs m = refl
first-none (k ∷ ks) b bs m = rw (m.0, first_of) (first-none ks b bs m.1)

-- a byte that has no entity: none of the tags begins with it, but those that end a math, if it is a backslash
module _ (b : ℕ) (amp : b ≡ code "&" → ⊥) (less : b ≡ code "<" → ⊥) where
  less-not : (cs rest : List ℕ) → begins (code "<" ∷ cs) (b ∷ rest) ≡ false
  unfolding begins
  less-not cs rest = grind arith

  amp-not : (cs rest : List ℕ) → begins (code "&" ∷ cs) (b ∷ rest) ≡ false
  unfolding begins
  amp-not cs rest = grind arith

  -- nor do those that end a math, by what follows
  slash-not : (cs rest : List ℕ) → begins cs rest ≡ false → begins (code "\\" ∷ cs) (b ∷ rest) ≡ false
  unfolding begins
  slash-not cs rest h = grind arith

  plain-first : (rest : List ℕ) → Apart rest → first_of known b rest ≡ record { part = shows b; more = 0 }
  unfolding bytes opening closing breaking entities Misses
  plain-first rest a =
      first-none known b rest
      (search (less-not, amp-not, slash-not, a.inline, a.display))

  plain-same : (rest : List ℕ) → Apart rest → parts (b ∷ rest) ≡ shows b ∷ parts rest
  unfolding parts_behind
  plain-same rest a = ap (λ (f : First). f.part ∷ parts_behind f.more rest) (plain-first rest a)

  plain-apart : (rest : List ℕ) → Apart rest → Apart (b ∷ rest)
  unfolding bytes begins
  plain-apart rest a = record { span = grind arith; inline = grind (arith, a.span); display = grind (arith, a.span) }

byte_reads : (b : ℕ) → Reads (escape_by entities b) (shows b ∷ [])
unfolding bytes opening closing breaking entities begins first_of parts_behind escape_by
byte_reads b = go (equal b (code "&")) (equal b (code "<")) (equal b (code ">"))
  where
    at : (c : ℕ) → b ≡ c → Reads (escape_by entities c) (shows c ∷ []) → Reads (escape_by entities b) (shows b ∷ [])
    at c e r = subst (λ (d : ℕ). Reads (escape_by entities d) (shows d ∷ [])) (sym e) r

    go : Dec (b ≡ code "&") → Dec (b ≡ code "<") → Dec (b ≡ code ">") → Reads (escape_by entities b) (shows b ∷ [])
    go (yes e) y z = at (code "&") e (search rules)
    go (no x) (yes e) z = at (code "<") e (search rules)
    go (no x) (no y) (yes e) = at (code ">") e (search rules)
    go (no x) (no y) (no z) =
        let own : escape_by entities b ≡ b ∷ [] = grind arith in
        subst (λ (bs : List ℕ). Reads bs (shows b ∷ [])) (sym own) (record { same = plain-same b x y; apart = plain-apart b x y })

-- characters
characters-read : (cs : List ℕ) → Reads (escaped cs) (map shows cs)
unfolding escaped
characters-read [] = reads_none
characters-read (c ∷ cs) = reads-append (escape_by entities c) (escaped cs) (shows c ∷ []) (map shows cs) (byte_reads c) (characters-read cs)

-- an event
written-reads : (text : List ℕ) (e : Event) → Reads (written text e) (parts_of text e)
written-reads text e =
    reads-append (tag e.kind) (escaped (characters text e)) (tagged e.kind (tag e.kind)) (map shows (characters text e)) (tag-reads e.kind) (characters-read (characters text e))

-- the events, outside raw parts
outside-reads : (text : List ℕ) (n : ℕ) (es : List Event) → Reads (outside_raw (written text) n es) (outside_raw (parts_of text) n es)
unfolding outside_raw unless_raw
outside-reads text n [] = reads_none
outside-reads text zero (e ∷ es) =
    reads-append (written text e) (outside_raw (written text) (raw_behind 0 e.kind) es) (parts_of text e) (outside_raw (parts_of text) (raw_behind 0 e.kind) es) (written-reads text e) (outside-reads text (raw_behind 0 e.kind) es)
outside-reads text (suc n) (e ∷ es) = outside-reads text (raw_behind (suc n) e.kind) es

-- read back, the fragment is the events' tags and characters
pub read_back : (text : List ℕ) (n : ℕ) (es : List Event) → parts (outside_raw (written text) n es) ≡ outside_raw (parts_of text) n es
unfolding parts_behind bytes begins
read_back text n es =
    ap parts (sym (append-nil (outside_raw (written text) n es)))
    ∙ (outside-reads text n es).same [] (record { span = refl; inline = refl; display = refl })
    ∙ append-nil (outside_raw (parts_of text) n es)
