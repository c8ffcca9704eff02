-- Two calls on texts that agree on all fed lines and on the byte before each have all in common, unless one is refused with 8, save of labels that are
-- built over bytes between two lines.
use Rattle.std.specs.Prelude.{None, Option, Some}
use Prim.Native.Nat.{ℕ, zero, suc, ◌+◌, ◌*◌, ◌/◌, ◌≤◌, ◌<◌}
use mathlib.Core.Path.{◌≡◌, refl, sym, ap, ◌∙◌, subst}
use mathlib.Core.List.{List, [], ◌∷◌, ◌++◌, map}
use mathlib.Core.Bool.{Bool, true, false, ◌&&◌}
use mathlib.Core.Logic.{inl, inr}
use native.Mathlib.Omega.{arith}
use borrow.Author.Tests.{eq-eqb, ne_eqb, le-leb}
use lib.Dec.{leb, ltb}
use lib.ListN.{length, get_or, length-append}
use Rattle.reading.specs.declared.Line.{Line}
use Rattle.reading.specs.declared.Event.{Event}
use Rattle.reading.specs.declared.Home.{Home}
use Rattle.reading.specs.declared.Place.{Place}
use Rattle.reading.specs.Events.{nowhere, home_of, home_none, home_text, home_labels, event_numbers, queue_numbers, opener_numbers, largest}
use Rattle.reading.specs.Machine.{rules_of, Sheet}
use Rattle.reading.specs.Verbatim.{nothing}
use Rattle.reading.specs.Reading.{sheet_with, sheet, read}
use Rattle.reading.specs.Draining.{drain}
use Rattle.reading.specs.Located.{located}
use Rattle.reading.specs.Homes.{has_home, HomeBy, AllHomed}
use Rattle.reading.specs.Margin.{Agree, destinations, Within}
use Rattle.reading.specs.Questions.{Rooms, Outcome, Fed, total, first_outside, first_early, label_room, refuses, filled, numbers, cleared, handed_out, judged, outcome_with, outcome}
use Rattle.reading.proofs.Choose.{choose, choose₂}
use Rattle.reading.proofs.Locating.{located-length}
use Rattle.reading.proofs.Like.{AllLike, like-length, like-at, like-other, like-drained, same-events}
use Rattle.reading.proofs.Telling.{bytes_in, bytes-text, bytes-labels, bytes-none, part-grown, Tells, tells-none}
use Rattle.reading.proofs.Sides.{Side}
use Rattle.reading.proofs.Margins.{sheet-same, sides, looks-same, ahead-from}
use Rattle.reading.proofs.Theorems.{up, homes}
use Rattle.rooms.proofs.Rows.{rows_at}
use Rattle.listing.specs.Listing.{event_at, records}
use Rattle.listing.proofs.Listed.{records-numbers, listed-numbers}
use Rattle.lookup.specs.Lookup.{within, source_in, part_in, label_of}
use Rattle.lookup.specs.declared.Source.{Source}
use Rattle.lookup.specs.declared.Source.TheVariants.{Text, Labels}
use Rattle.margin.specs.Calls.{unhomed, label_in, Common}

-- the records of a room that holds some events from its front
records-of : (ls : List Line) (es : List Event) (room : List ℕ) → records (length es) (filled (numbers (located ls es)) room) ≡ located ls es
records-of ls es room =
    ap (λ (n : ℕ). records n (filled (numbers (located ls es)) room)) (sym (located-length ls es)) ∙ records-numbers (located ls es) _

event-of : (ls : List Line) (es : List Event) (room : List ℕ) (i : ℕ) → i < length es → event_at (filled (numbers (located ls es)) room) i ≡ get_or es i nothing
event-of ls es room i h =
    sym (rows_at event_at (length es) (filled (numbers (located ls es)) room) i nothing h) ∙ ap (λ (l : List Event). get_or l i nothing) (listed-numbers ls es _)

-- the lookup of a home that a kind has, with zero behind the label bytes
in-text : (n m home a b : ℕ) → home ≡ home_text → a ≤ b → b ≤ n → source_in n m home a b ≡ Some Text
in-text n m home a b e l u = rw (eq-eqb home home_text e, le-leb a b l, le-leb b n u, source_in, within)

in-labels : (n m home a b : ℕ) → home ≡ home_labels → a ≤ b → b ≤ m → source_in n m home a b ≡ Some Labels
in-labels n m home a b e l u = rw (ne_eqb home home_text (λ z. omega (arith, e, z)), eq-eqb home home_labels e, le-leb a b l, le-leb b m u, source_in, within)

in-none : (n m home a b : ℕ) → home ≡ home_none → source_in n m home a b ≡ None
in-none n m home a b e = rw (ne_eqb home home_text (λ z. omega (arith, e, z)), ne_eqb home home_labels (λ z. omega (arith, e, z)), source_in)

looked : (b : Bool) (text labels behind : List ℕ) (h : Home) → HomeBy b (length text) (length labels) h
    → label_of text (labels ++ behind) h.home h.start.0 h.end.0 ≡ bytes_in text labels h
unfolding HomeBy
looked b text labels behind h = go b
  where
    from : {s : Option Source} → source_in (length text) (length (labels ++ behind)) h.home h.start.0 h.end.0 ≡ s
        → label_of text (labels ++ behind) h.home h.start.0 h.end.0 ≡ part_in s text (labels ++ behind) h.start.0 h.end.0
    from e = ap (λ (s : Option Source). part_in s text (labels ++ behind) h.start.0 h.end.0) e

    go : (b : Bool) → HomeBy b (length text) (length labels) h → label_of text (labels ++ behind) h.home h.start.0 h.end.0 ≡ bytes_in text labels h
    go true (inl z) = from (in-text (length text) (length (labels ++ behind)) h.home h.start.0 h.end.0 z.0 z.1.0 z.1.1) ∙ sym (bytes-text text labels h z.0)
    go true (inr z) =
        from (in-labels (length text) (length (labels ++ behind)) h.home h.start.0 h.end.0 z.0 z.1.0 (omega (arith, z.1.1, length-append labels behind)))
        ∙ part-grown labels behind h.start.0 h.end.0 z.1.0 z.1.1
        ∙ sym (bytes-labels text labels h z.0)
    go false z = from (in-none (length text) (length (labels ++ behind)) h.home h.start.0 h.end.0 z.0) ∙ sym (bytes-none text labels h z.0)

homed-at : (text labels i : ℕ) (q : List Event) → AllHomed text labels q → i < length q
    → let e = get_or q i nothing in HomeBy (has_home e.kind) text labels (home_of e)
unfolding AllHomed
homed-at text labels i [] a l = absurd (omega arith)
homed-at text labels zero (e ∷ q) a l = a.0.home
homed-at text labels (suc i) (e ∷ q) a l = homed-at text labels i q a.1 (omega arith)

-- without their homes the records are the same
unhomed-same : (T : Home → Home → Type 0) (ls : List Line) (es fs : List Event) → AllLike T es fs → map unhomed (located ls fs) ≡ map unhomed (located ls es)
unfolding AllLike located
unhomed-same T ls [] [] a = refl
unhomed-same T ls [] (f ∷ fs) a = absurd a
unhomed-same T ls (e ∷ es) [] a = absurd a
unhomed-same T ls (e ∷ es) (f ∷ fs) a = rw (a.0.kind, a.0.start, a.0.end, a.0.link, unhomed-same T ls es fs a.1)

-- a text of the same length asks the same of the lines
outside-same : (t u : List ℕ) → length t ≡ length u → (ls : List Line) → first_outside u ls ≡ first_outside t ls
unfolding first_outside
outside-same t u long [] = refl
outside-same t u long (l ∷ ls) =
    ap (λ (n : ℕ). elim (leb l.start l.end && leb l.end n) [ true ↦ suc (first_outside u ls) | false ↦ 0 ]) (sym long)
    ∙ ap (λ (n : ℕ). elim (leb l.start l.end && leb l.end (length t)) [ true ↦ suc n | false ↦ 0 ]) (outside-same t u long ls)

module _ (t u : List ℕ) (ls : List Line) (reading : ℕ) (rooms : Rooms) (agree : Agree t u ls) where
  abbrev x : Sheet
  x = sheet t ls reading (label_room rooms.labels)

  abbrev K : ℕ → Type 0
  K = Within x ls

  abbrev One : Type 0
  One = (n : ℕ) → K n

  abbrev C : Outcome → Outcome → Type 0
  C = Common t u K

  -- the other text, with blocks where the first has them
  abbrev y : Sheet
  y = sheet_with x.block u reading (label_room rooms.labels)

  -- and with its own
  abbrev z : Sheet
  z = sheet u ls reading (label_room rooms.labels)

  -- of a refusal under a number that is not 0 all is the same
  refused-same : (code at : ℕ) (r : Rooms) → 1 ≤ code → C (refuses code at r) (refuses code at r)
  refused-same code at r l =
      record {
        code = refl;
        place = refl;
        count = refl;
        looks = refl;
        events = refl;
        labels = λ i h. absurd (omega (arith, h));
        refused = λ n. refl;
        same = λ o. refl;
      }

  abbrev Unless : Outcome → Outcome → Type 0
  Unless o p = (o.answer.code ≡ 8 → ⊥) → (p.answer.code ≡ 8 → ⊥) → C o p

  module _ (fed : Fed t ls) where
    other : Fed u ls
    other = record { inside = rw (outside-same t u agree.long ls) fed.inside; apart = fed.apart }

    side : Side t u K One (read x ls) (read y ls)
    side =
        sides t u agree.long K One (λ o n. o n) (rules_of reading) x.block (label_room rooms.labels) (label_room rooms.labels) ls (up x ls fed) agree.bytes
        (ahead-from t u agree.long ls agree.bytes (destinations x ls) 0 (destinations x ls)
        (λ j n i. ap (λ (k : ℕ). get_or (destinations x ls) k []) (omega (arith, i))))

    looks : (read y ls).looks ≡ (read x ls).looks
    looks =
        looks-same t u agree.long K One (λ o n. o n) (rules_of reading) x.block (label_room rooms.labels) (label_room rooms.labels) ls (up x ls fed) agree.bytes
        (ahead-from t u agree.long ls agree.bytes (destinations x ls) 0 (destinations x ls)
        (λ j n i. ap (λ (k : ℕ). get_or (destinations x ls) k []) (omega (arith, i))))

    -- both are read, and their label bytes fit
    module _ (un : (read x ls).refused ≡ None) (e : (read x ls).fits ≡ true) (f : (read y ls).fits ≡ true) where
      abbrev es : List Event
      es = drain (read x ls).queue

      abbrev fs : List Event
      fs = drain (read y ls).queue

      abbrev T : Home → Home → Type 0
      T = Tells t u K One (read x ls).labels (read y ls).labels

      none : T nowhere nowhere
      none = tells-none t u K One (read x ls).labels (read y ls).labels

      alike : AllLike T es fs
      alike = like-drained T none 0 0 (read x ls).queue (read y ls).queue (like-other (λ h k z. z e f) _ _ side.queue)

      here : AllHomed (length t) (length (read x ls).labels) es
      here = homes x ls fed un e

      there : AllHomed (length u) (length (read y ls).labels) fs
      there = homes y ls other (side.refused ∙ un) f

      many : length fs ≡ length es
      many = like-length T es fs alike

      label-same : (i : ℕ) → i < length es → ((get_or es i nothing).home ≡ home_labels → K (get_or es i nothing).link.0)
          → label_in u (filled (read y ls).labels rooms.labels) (get_or fs i nothing) ≡ label_in t (filled (read x ls).labels rooms.labels) (get_or es i nothing)
      label-same i h k =
          looked _ u (read y ls).labels _ (home_of (get_or fs i nothing)) (homed-at _ _ i fs there (omega (arith, h, many)))
          ∙ sym ((like-at T none i es fs alike).homes.bytes k)
          ∙ sym (looked _ t (read x ls).labels _ (home_of (get_or es i nothing)) (homed-at _ _ i es here h))

      handed : C (handed_out ls es (read x ls).labels (read x ls).looks rooms) (handed_out ls fs (read y ls).labels (read y ls).looks rooms)
      unfolding handed_out
      handed =
          rw (many, handed_out)
          (choose₂ C (leb (length es) (length rooms.events / event_numbers)) _ _ _ _
          (λ b.
          record {
            code = refl;
            place = refl;
            count = many;
            looks = looks;
            events = ap (map unhomed) (records-of ls fs rooms.events)
                ∙ unhomed-same T ls es fs alike
                ∙ sym (ap (map unhomed) (records-of ls es rooms.events));
            labels = λ i h k.
                ap (λ (e : Event). label_in u (filled (read y ls).labels rooms.labels) e) (event-of ls fs rooms.events i (omega (arith, h, many)))
                ∙ label-same i h (subst (λ (e : Event). e.home ≡ home_labels → K e.link.0) (event-of ls es rooms.events i h) k)
                ∙ sym (ap (λ (e : Event). label_in t (filled (read x ls).labels rooms.labels) e) (event-of ls es rooms.events i h));
            refused = λ n. absurd (n refl);
            same = λ o. rw (same-events es fs (like-other (λ h k z. z.all o) es fs alike), side.labels o e f, looks);
          })
          (λ b. refused-same 9 0 (cleared rooms) (omega arith)))

    judged-same : (r : Option Place) → (read x ls).refused ≡ r → (f g : Bool) → (read x ls).fits ≡ f → (read y ls).fits ≡ g
        → Unless (judged ls r f (read x ls) rooms) (judged ls r g (read y ls) rooms)
    unfolding judged
    judged-same (Some p) e f g ef eg a b = refused-same 7 p.0 (cleared rooms) (omega arith)
    judged-same None e false g ef eg a b = absurd (a refl)
    judged-same None e true false ef eg a b = absurd (b refl)
    judged-same None e true true ef eg a b = handed e ef eg

    asked : Unless (judged ls (read x ls).refused (read x ls).fits (read x ls) rooms) (judged ls (read y ls).refused (read y ls).fits (read y ls) rooms)
    asked =
        subst (λ (r : Option Place). Unless (judged ls (read x ls).refused (read x ls).fits (read x ls) rooms) (judged ls r (read y ls).fits (read y ls) rooms))
        (sym side.refused) (judged-same (read x ls).refused refl (read x ls).fits (read y ls).fits refl refl)

    -- with blocks where the second text has them
    same-sheet : z ≡ y
    same-sheet = sheet-same t u agree.long ls reading (label_room rooms.labels) (up x ls fed) agree.bytes

    asked-there : Unless (judged ls (read x ls).refused (read x ls).fits (read x ls) rooms) (judged ls (read z ls).refused (read z ls).fits (read z ls) rooms)
    asked-there =
        subst (λ (w : Sheet). Unless (judged ls (read x ls).refused (read x ls).fits (read x ls) rooms) (judged ls (read w ls).refused (read w ls).fits (read w ls) rooms))
        (sym same-sheet) asked

    -- the events differ in homes at most, whether the labels fit or not
    pub bare-events : AllLike (λ h k. Unit {0}) (drain (read x ls).queue) (drain (read z ls).queue)
    bare-events =
        subst (λ (w : Sheet). AllLike (λ h k. Unit {0}) (drain (read x ls).queue) (drain (read w ls).queue)) (sym same-sheet)
        (like-drained (λ h k. Unit {0}) tt 0 0 (read x ls).queue (read y ls).queue (like-other (λ h k a. tt) _ _ side.queue))

    refused-there : (read z ls).refused ≡ (read x ls).refused
    refused-there = ap (λ (w : Sheet). (read w ls).refused) same-sheet ∙ side.refused

  -- the questions, for both: what holds of a refusal under 1 to 6, and of what comes of lines that pass 3 and 4
  asks-both : (P : Outcome → Outcome → Type 0) → ((code at : ℕ) → 1 ≤ code → code ≤ 6 → P (refuses code at rooms) (refuses code at rooms))
      → (Fed t ls → P (judged ls (read x ls).refused (read x ls).fits (read x ls) rooms) (judged ls (read z ls).refused (read z ls).fits (read z ls) rooms))
      → P (outcome t ls reading rooms) (outcome u ls reading rooms)
  unfolding outcome_with
  asks-both P early late =
      choose₂ P (leb reading 1) _ _ _ _
      (λ a. rw (sym agree.long)
      (choose₂ P (leb (length t) largest && leb (length ls) largest) _ _ _ _
      (λ b. rw (outside-same t u agree.long ls)
      (choose₂ P (ltb (first_outside t ls) (length ls)) _ _ _ _
      (λ c. rw (outside-same t u agree.long ls) (early 3 (first_outside t ls) (omega arith) (omega arith)))
      (λ c. choose₂ P (ltb (first_early 0 ls) (length ls)) _ _ _ _
      (λ d. early 4 (first_early 0 ls) (omega arith) (omega arith))
      (λ d. choose₂ P (leb (2 * total ls + 1) (length rooms.queue / queue_numbers)) _ _ _ _
      (λ f. choose₂ P (leb (total ls) (length rooms.openers / opener_numbers)) _ _ _ _
      (λ g. late (record { inside = c; apart = d }))
      (λ g. early 6 0 (omega arith) (omega arith)))
      (λ f. early 5 0 (omega arith) (omega arith))))))
      (λ b. early 2 0 (omega arith) (omega arith))))
      (λ a. early 1 0 (omega arith) (omega arith))

  pub margin : Unless (outcome t ls reading rooms) (outcome u ls reading rooms)
  margin = asks-both Unless (λ code at l h m n. refused-same code at rooms l) asked-there

  -- an attribute block refuses both, whatever the labels are
  abbrev Blocked : Outcome → Outcome → Type 0
  Blocked o p = o.answer.code ≡ 7 → p ≡ o

  handed-other : (es : List Event) (labels : List ℕ) (looks : ℕ) → (handed_out ls es labels looks rooms).answer.code ≡ 7 → ⊥
  unfolding handed_out
  handed-other es labels looks =
      choose (λ (o : Outcome). o.answer.code ≡ 7 → ⊥) (leb (length es) (length rooms.events / event_numbers)) _ _ (λ b e. omega (arith, e)) (λ b e. omega (arith, e))

  judged-blocked : (r : Option Place) (f g : Bool) → Blocked (judged ls r f (read x ls) rooms) (judged ls r g (read z ls) rooms)
  unfolding judged
  judged-blocked (Some p) f g e = refl
  judged-blocked None false g e = absurd (omega (arith, e))
  judged-blocked None true g e = absurd (handed-other _ _ _ e)

  pub blocked : Blocked (outcome t ls reading rooms) (outcome u ls reading rooms)
  blocked =
      asks-both Blocked (λ code at l h e. refl)
      (λ fed.
      subst (λ (r : Option Place). Blocked (judged ls (read x ls).refused (read x ls).fits (read x ls) rooms) (judged ls r (read z ls).fits (read z ls) rooms))
      (sym (refused-there fed)) (judged-blocked (read x ls).refused (read x ls).fits (read z ls).fits))
