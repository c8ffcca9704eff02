-- Elements: of events whose exits match their enters, the tags outside raw parts do too.
use Prim.Native.Nat.{ℕ, zero, suc, ◌+◌, ◌-◌}
use mathlib.Core.Path.{◌≡◌, refl, sym, ap, ◌∙◌, subst}
use mathlib.Core.List.{List, [], ◌∷◌, ◌++◌, map, append_assoc}
use mathlib.Core.Bool.{Bool, true, false}
use native.Mathlib.Omega.{arith}
use lib.Dec.{ltb, eqb}
use Rattle.reading.specs.declared.Event.{Event}
use Rattle.reading.specs.Events.{home_of, nowhere, enter_from, exit_from, raw_format}
use Rattle.reading.specs.Walked.{Tag, Walk, opening, closing, neither, walk_by, walk_of, Matches}
use Rattle.markup.specs.Markup.{find, tag, characters, raw_behind, unless_raw, outside_raw, opening as opens, closing as closes}
use Rattle.markup.specs.Shown.{Part, shows, walk_at, tagged, parts_of}
use Rattle.markup.proofs.Tables.{equal, if_any, same-containers}

-- how many of the open containers are raw parts
unfoldable raw_bit : ℕ → ℕ
raw_bit k = elim (eqb k raw_format) [ true ↦ 1 | false ↦ 0 ]

unfoldable depth : List Tag → ℕ
depth [] = 0
depth (t ∷ ts) = raw_bit t.k + depth ts

abbrev plain : ℕ → Tag
plain k = record { k = k; home = nowhere }

-- the elements that are open where these containers are: those outside raw parts that have a tag
unfoldable open_in : List Tag → List Tag
open_in [] = []
open_in (t ∷ ts) = unless_raw (depth ts) (if_any (find t.k opens) (plain t.k)) ++ open_in ts

raw-not : (k : ℕ) → (k ≡ raw_format → ⊥) → raw_bit k ≡ 0
unfolding raw_bit
raw-not k n = grind arith

module _ (n kind : ℕ) where
  raw-neither : ltb kind enter_from ≡ true → raw_behind n kind ≡ n
  unfolding raw_behind
  raw-neither h = grind arith

  raw-opening : ltb kind enter_from ≡ false → ltb kind exit_from ≡ true → raw_behind n kind ≡ raw_bit (kind - enter_from) + n
  unfolding raw_behind raw_bit
  raw-opening h k = grind arith

  raw-closing : ltb kind exit_from ≡ false → raw_behind n kind ≡ n - raw_bit (kind - exit_from)
  unfolding raw_behind raw_bit
  raw-closing h = grind arith

-- characters neither open nor close
matches-shown : (cs : List ℕ) (ps : List Part) (ts : List Tag) → Matches (map walk_at ps) ts → Matches (map walk_at (map shows cs ++ ps)) ts
unfolding walk_at Matches
matches-shown [] ps ts m = m
matches-shown (c ∷ cs) ps ts m = matches-shown cs ps ts m

-- an event outside raw parts, before parts ps, where us are open
module _ (text : List ℕ) (e : Event) (ps : List Part) (us : List Tag) where
  -- its tag goes first
  tag-first : (ts : List Tag) → Matches (map walk_at (tagged e.kind (tag e.kind) ++ (map shows (characters text e) ++ ps))) ts
      → Matches (map walk_at (parts_of text e ++ ps)) ts
  tag-first ts m =
      subst (λ (l : List Part). Matches (map walk_at l) ts) (sym (append_assoc (tagged e.kind (tag e.kind)) (map shows (characters text e)) ps)) m

  abbrev later : List Part
  later = map shows (characters text e) ++ ps

  at-neither : ltb e.kind enter_from ≡ true → Matches (map walk_at ps) us → Matches (map walk_at (parts_of text e ++ ps)) us
  unfolding tagged walk_at walk_by Matches
  at-neither h m = tag-first us (go (tag e.kind))
    where
      by : walk_by e.kind nowhere ≡ neither
      by = rw (h, walk_by)

      go : (bs : List ℕ) → Matches (map walk_at (tagged e.kind bs ++ later)) us
      go [] = matches-shown (characters text e) ps us m
      go (b ∷ bs) = subst (λ (w : Walk). Matches (w ∷ map walk_at later) us) (sym by) (matches-shown (characters text e) ps us m)

  at-opening : ltb e.kind enter_from ≡ false → ltb e.kind exit_from ≡ true
      → Matches (map walk_at ps) (if_any (find (e.kind - enter_from) opens) (plain (e.kind - enter_from)) ++ us) → Matches (map walk_at (parts_of text e ++ ps)) us
  unfolding tagged walk_at walk_by Matches if_any tag
  at-opening h k m = tag-first us (rw (h, k, tag) (go (find (e.kind - enter_from) opens) m))
    where
      by : walk_by e.kind nowhere ≡ opening (plain (e.kind - enter_from))
      by = rw (h, k, walk_by)

      go : (bs : List ℕ) → Matches (map walk_at ps) (if_any bs (plain (e.kind - enter_from)) ++ us) → Matches (map walk_at (tagged e.kind bs ++ later)) us
      go [] m = matches-shown (characters text e) ps us m
      go (b ∷ bs) m =
          subst (λ (w : Walk). Matches (w ∷ map walk_at later) us) (sym by) (matches-shown (characters text e) ps (plain (e.kind - enter_from) ∷ us) m)

  at-closing : ltb e.kind enter_from ≡ false → ltb e.kind exit_from ≡ false → Matches (map walk_at ps) us
      → Matches (map walk_at (parts_of text e ++ ps)) (if_any (find (e.kind - exit_from) opens) (plain (e.kind - exit_from)) ++ us)
  unfolding tagged walk_at walk_by Matches if_any tag
  at-closing h k m =
      subst (λ (ts : List Tag). Matches (map walk_at (parts_of text e ++ ps)) (ts ++ us)) (same-containers (plain (e.kind - exit_from)) (e.kind - exit_from))
      (tag-first (if_any (find (e.kind - exit_from) closes) (plain (e.kind - exit_from)) ++ us) (rw (h, k, tag) (go (find (e.kind - exit_from) closes))))
    where
      by : walk_by e.kind nowhere ≡ closing (plain (e.kind - exit_from))
      by = rw (h, k, walk_by)

      go : (bs : List ℕ) → Matches (map walk_at (tagged e.kind bs ++ later)) (if_any bs (plain (e.kind - exit_from)) ++ us)
      go [] = matches-shown (characters text e) ps us m
      go (b ∷ bs) =
          subst (λ (w : Walk). Matches (w ∷ map walk_at later) (plain (e.kind - exit_from) ∷ us)) (sym by) (refl, matches-shown (characters text e) ps us m)

-- within a raw part, and of a raw part itself, no element is open
no-element : (k d m : ℕ) → raw_bit k + d ≡ suc m → unless_raw d (if_any (find k opens) (plain k)) ≡ []
unfolding unless_raw find opens if_any
no-element k (suc d) m e = refl
no-element k zero m e = go (equal k raw_format)
  where
    go : Dec (k ≡ raw_format) → if_any (find k opens) (plain k) ≡ []
    go (yes is) = subst (λ (j : ℕ). if_any (find j opens) (plain j) ≡ []) (sym is) refl
    go (no d) = absurd (omega (arith, e, raw-not k d))

-- an event, given what holds behind it
module _ (text : List ℕ) (e : Event) (es : List Event)
    (rest : (n : ℕ) (ts : List Tag) → n ≡ depth ts → Matches (map walk_of es) ts → Matches (map walk_at (outside_raw (parts_of text) n es)) (open_in ts)) where
  abbrev After : ℕ → List Part
  After n = outside_raw (parts_of text) (raw_behind n e.kind) es

  neither-step : ltb e.kind enter_from ≡ true → (n : ℕ) (ts : List Tag) → n ≡ depth ts → Matches (map walk_of es) ts
      → Matches (map walk_at (unless_raw n (parts_of text e) ++ After n)) (open_in ts)
  unfolding unless_raw
  neither-step h zero ts d m = at-neither text e (After 0) (open_in ts) h (rest (raw_behind 0 e.kind) ts (raw-neither 0 e.kind h ∙ d) m)
  neither-step h (suc n) ts d m = rest (raw_behind (suc n) e.kind) ts (raw-neither (suc n) e.kind h ∙ d) m

  opening-step : ltb e.kind enter_from ≡ false → ltb e.kind exit_from ≡ true → (n : ℕ) (ts : List Tag) → n ≡ depth ts
      → Matches (map walk_of es) (record { k = e.kind - enter_from; home = home_of e } ∷ ts)
      → Matches (map walk_at (unless_raw n (parts_of text e) ++ After n)) (open_in ts)
  unfolding unless_raw depth open_in
  opening-step h k n ts d m = go n d behind
    where
      behind : Matches (map walk_at (After n)) (unless_raw n (if_any (find (e.kind - enter_from) opens) (plain (e.kind - enter_from))) ++ open_in ts)
      behind =
          subst (λ (j : ℕ). Matches (map walk_at (After n)) (unless_raw j (if_any (find (e.kind - enter_from) opens) (plain (e.kind - enter_from))) ++ open_in ts)) (sym d)
          (rest (raw_behind n e.kind) (record { k = e.kind - enter_from; home = home_of e } ∷ ts) (raw-opening n e.kind h k ∙ ap (λ (j : ℕ). raw_bit (e.kind - enter_from) + j) d) m)

      go : (n : ℕ) → n ≡ depth ts → Matches (map walk_at (After n)) (unless_raw n (if_any (find (e.kind - enter_from) opens) (plain (e.kind - enter_from))) ++ open_in ts)
          → Matches (map walk_at (unless_raw n (parts_of text e) ++ After n)) (open_in ts)
      go zero d m = at-opening text e (After 0) (open_in ts) h k m
      go (suc n) d m = m

  closing-step : ltb e.kind enter_from ≡ false → ltb e.kind exit_from ≡ false → (n : ℕ) (u : Tag) (us : List Tag) → n ≡ depth (u ∷ us)
      → record { k = e.kind - exit_from; home = home_of e } ≡ u → Matches (map walk_of es) us
      → Matches (map walk_at (unless_raw n (parts_of text e) ++ After n)) (open_in (u ∷ us))
  unfolding unless_raw depth open_in
  closing-step h k n u us d is m =
      go n d (rest (raw_behind n e.kind) us (raw-closing n e.kind k ∙ omega (arith, d, ap raw_bit number)) m)
    where
      number : e.kind - exit_from ≡ u.k
      number = ap (λ (t : Tag). t.k) is

      go : (n : ℕ) → n ≡ depth (u ∷ us) → Matches (map walk_at (After n)) (open_in us)
          → Matches (map walk_at (unless_raw n (parts_of text e) ++ After n)) (open_in (u ∷ us))
      go zero d m =
          let none : depth us ≡ 0 = omega (arith, d) in
          subst (λ (j : ℕ). Matches (map walk_at (parts_of text e ++ After 0)) (unless_raw j (if_any (find u.k opens) (plain u.k)) ++ open_in us)) (sym none)
          (subst (λ (j : ℕ). Matches (map walk_at (parts_of text e ++ After 0)) (if_any (find j opens) (plain j) ++ open_in us)) number
          (at-closing text e (After 0) (open_in us) h k m))
      go (suc n) d m =
          subst (λ (ts : List Tag). Matches (map walk_at (After (suc n))) (ts ++ open_in us)) (sym (no-element u.k (depth us) n (sym d))) m

  event-step : (n : ℕ) (ts : List Tag) → n ≡ depth ts → Matches (map walk_of (e ∷ es)) ts → Matches (map walk_at (outside_raw (parts_of text) n (e ∷ es))) (open_in ts)
  unfolding walk_by Matches outside_raw
  event-step n ts d m = go (ltb e.kind enter_from) refl (ltb e.kind exit_from) refl ts d m
    where
      go : (s : Bool) → ltb e.kind enter_from ≡ s → (t : Bool) → ltb e.kind exit_from ≡ t → (ts : List Tag) → n ≡ depth ts
          → Matches
          (elim s as (λ _. Walk) [
            | true ↦ neither
            | false ↦ elim t as (λ _. Walk) [
              | true ↦ opening record { k = e.kind - enter_from; home = home_of e }
              | false ↦ closing record { k = e.kind - exit_from; home = home_of e }
            ]
          ] ∷ map walk_of es)
          ts
          → Matches (map walk_at (unless_raw n (parts_of text e) ++ After n)) (open_in ts)
      go true h t k ts d m = neither-step h n ts d m
      go false h true k ts d m = opening-step h k n ts d m
      go false h false k [] d m = absurd m
      go false h false k (u ∷ us) d m = closing-step h k n u us d m.0 m.1

-- all events
matched : (text : List ℕ) (es : List Event) (n : ℕ) (ts : List Tag) → n ≡ depth ts → Matches (map walk_of es) ts
    → Matches (map walk_at (outside_raw (parts_of text) n es)) (open_in ts)
unfolding outside_raw Matches open_in
matched text [] n [] d m = tt
matched text [] n (t ∷ ts) d m = absurd m
matched text (e ∷ es) n ts d m = event-step text e es (matched text es) n ts d m

-- where nothing is open at first
pub matched-all : (text : List ℕ) (es : List Event) → Matches (map walk_of es) [] → Matches (map walk_at (outside_raw (parts_of text) 0 es)) []
unfolding depth open_in
matched-all text es m = matched text es 0 [] refl m
