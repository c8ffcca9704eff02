-- What a loop has still to write: one event after the other, and one byte of a label of several lines after the other.
use Rattle.std.proofs.Common.{ℕ, ◌+◌, ◌≤◌, ◌<◌, ◌≡◌, refl, sym, ap, ◌∙◌, arith, List, [], ◌∷◌, ◌++◌, Bool, true, false, length, get_or, drop, append_assoc}
use native.Mathlib.Numerals.{add-one}
use lib.Dec.{eqb}
use lib.ListN.{drop_of_length-le}
use lib.Seq.{drop-cons}
use Rattle.reading.specs.declared.Event.{Event}
use Rattle.reading.specs.Labels.{word, words, stretches, pieces, separator}
use Rattle.rooms.specs.Records.{event_at, events}
use Rattle.rooms.proofs.Rows.{rows-length, rows_at}
use Rattle.labels.specs.declared.Joint.{Joint}
use Rattle.labels.specs.Building.{given, behind, stretch}

-- the events of a queue from place i on
module _ (q : List ℕ) (n i : ℕ) where
  events-next : (e : Event) → i < n → e ≡ event_at q i → drop i (events n q) ≡ e ∷ drop (i + 1) (events n q)
  events-next e h is =
      drop-cons (events n q) i (event_at q i) (omega (arith, rows-length event_at n q))
      ∙ (λ t. (rows_at event_at n q i (event_at q i) h ∙ sym is) t ∷ drop (sym (add-one i) t) (events n q))

  events-end : n ≤ i → drop i (events n q) ≡ []
  events-end h = drop_of_length-le (events n q) {i = i} (omega (arith, rows-length event_at n q))

  pub words-next : (text : List ℕ) (e : Event) → i < n → e ≡ event_at q i
      → words text (drop i (events n q)) ≡ word text e ++ words text (drop (i + 1) (events n q))
  unfolding words
  words-next text e h is = ap (words text) (events-next e h is)

  pub words-end : (text : List ℕ) → n ≤ i → words text (drop i (events n q)) ≡ []
  unfolding words
  words-end text h = ap (words text) (events-end h)

-- behind a newline, and behind another byte
abbrev broken : Joint → Joint
broken j = record { inline = j.inline; begun = j.begun; apart = j.begun }

abbrev going : Joint → Joint
going j = record { inline = j.inline; begun = true; apart = false }

-- some bytes, and others behind them
given-append : (j : Joint) (a b : List ℕ) → given j (a ++ b) ≡ given j a ++ given (behind j a) b
unfolding pieces behind
given-append j [] b = refl
given-append j (x ∷ a) b = go (eqb x 10) (given-append (broken j) a b) (given-append (going j) a b)
  where
    gap : List ℕ
    gap = elim j.apart [ true ↦ separator j.inline | false ↦ [] ]

    go : (t : Bool) → given (broken j) (a ++ b) ≡ given (broken j) a ++ given (behind (broken j) a) b
        → given (going j) (a ++ b) ≡ given (going j) a ++ given (behind (going j) a) b
        → elim t [ true ↦ given (broken j) (a ++ b) | false ↦ gap ++ x ∷ given (going j) (a ++ b) ]
        ≡ elim t [ true ↦ given (broken j) a | false ↦ gap ++ x ∷ given (going j) a ] ++ given (elim t [ true ↦ behind (broken j) a | false ↦ behind (going j) a ]) b
    go true p q = p
    go false p q = ap (λ (l : List ℕ). gap ++ x ∷ l) q ∙ sym (append_assoc gap (x ∷ given (going j) a) (given (behind (going j) a) b))

module _ (j : Joint) (s : List ℕ) (i : ℕ) (h : i < length s) where
  abbrev byte : List ℕ
  byte = get_or s i 0 ∷ []

  bytes-next : drop i s ≡ byte ++ drop (i + 1) s
  bytes-next = drop-cons s i 0 h ∙ ap (λ (k : ℕ). get_or s i 0 ∷ drop k s) (sym (add-one i))

  pub given-next : given j (drop i s) ≡ given j byte ++ given (behind j byte) (drop (i + 1) s)
  given-next = ap (given j) bytes-next ∙ given-append j byte (drop (i + 1) s)

  pub behind-next : behind j (drop i s) ≡ behind (behind j byte) (drop (i + 1) s)
  unfolding behind
  behind-next = ap (behind j) bytes-next ∙ go (eqb (get_or s i 0) 10)
    where
      go : (t : Bool) → elim t [ true ↦ behind (broken j) (drop (i + 1) s) | false ↦ behind (going j) (drop (i + 1) s) ] ≡ behind (elim t [ true ↦ broken j | false ↦ going j ]) (drop (i + 1) s)
      go true = refl
      go false = refl

-- the events of a destination from place i on
module _ (j : Joint) (text q : List ℕ) (at n i : ℕ) where
  pub lines-next : (e : Event) → i < n → e ≡ event_at q i
      → given j (stretches text at (drop i (events n q))) ≡ given j (stretch text at e) ++ given (behind j (stretch text at e)) (stretches text e.end.0 (drop (i + 1) (events n q)))
  unfolding stretches stretch
  lines-next e h is =
      ap (λ (es : List Event). given j (stretches text at es)) (events-next q n i e h is)
      ∙ given-append j (stretch text at e) (stretches text e.end.0 (drop (i + 1) (events n q)))

  pub lines-end : n ≤ i → given j (stretches text at (drop i (events n q))) ≡ []
  unfolding stretches pieces
  lines-end h = ap (λ (es : List Event). given j (stretches text at es)) (events-end q n i h)
