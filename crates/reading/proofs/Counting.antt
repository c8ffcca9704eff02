-- How long the search gets in all: a token looks at no more openers than bytes stand before it, so that all together look at N times
-- (N - 1), halved, at most. Of a refused sheet nothing is claimed.
use Rattle.std.specs.Prelude.{None}
use Prim.Native.Nat.{ℕ, zero, suc, ◌+◌, ◌-◌, ◌*◌, ◌^◌, ◌≤◌}
use mathlib.Core.Path.{◌≡◌, refl, sym, ap, ◌∙◌, subst}
use mathlib.Core.List.{List, [], ◌∷◌}
use mathlib.Core.Bool.{Bool, true, false}
use mathlib.Core.Logic.{⊎_elim}
use native.Mathlib.Nat.{suc-mul, mul-suc, mul-le-mul_right}
use native.Mathlib.Omega.{arith}
use borrow.Author.Tests.{ltb-true, ltb-false}
use lib.Dec.{ltb}
use lib.ListN.{length}
use Rattle.reading.specs.declared.Line.{Line}
use Rattle.reading.specs.Machine.{View, Sheet, State, Turn, view_of}
use Rattle.reading.specs.Reading.{step, steps, begun, line, lines, start, end_of, views, read}
use Rattle.reading.specs.Questions.{total, Fed}
use Rattle.reading.proofs.Spans.{Gap, Any}
use Rattle.reading.proofs.Backticks.{Shows}
use Rattle.reading.proofs.Stepping.{Held, either, step-held}
use Rattle.reading.proofs.Braces.{ended-un}
use Rattle.reading.proofs.Looks.{looks-step, step-most, ended-looks}
use Rattle.reading.proofs.Feeding.{Rising, Stood, view-long, view-shows, begun-held, step-on, steps-some, fed-stood, start-stood}
use Rattle.reading.proofs.Theorems.{up, step_end}

-- 0 + 1 + .. + (n - 1)
unfoldable pub half : ℕ → ℕ
half zero = 0
half (suc n) = half n + n

half-suc : (n : ℕ) → half (suc n) ≡ half n + n
unfolding half
half-suc n = refl

half-pair : (n : ℕ) → 2 * half (suc n) ≡ suc n * n
unfolding half
half-pair zero = omega arith
half-pair (suc n) = omega (arith, half-pair n, suc-mul (suc n) (suc n), mul-suc (suc n) n)

pub half-twice : (n : ℕ) → 2 * half n ≡ n * (n - 1)
unfolding half
half-twice zero = omega arith
half-twice (suc n) =
    let z : n ≡ suc n - 1 = omega arith in
    half-pair n ∙ ap (λ (m : ℕ). suc n * m) z

pub half-more : (a b : ℕ) → a ≤ b → half a ≤ half b
unfolding half
half-more a zero h =
    let z : a ≡ 0 = omega (arith, h) in
    rw z (omega arith)
half-more a (suc b) h = go (half-more a b) (ltb a (suc b)) refl
  where
    go : (a ≤ b → half a ≤ half b) → (t : Bool) → ltb a (suc b) ≡ t → half a ≤ half (suc b)
    go f true e = omega (arith, f (omega (arith, ltb-true a (suc b) e)))
    go f false e =
        let z : a ≡ suc b = omega (arith, h, ltb-false a (suc b) e) in
        rw z (omega arith)

-- of the longest text that is less than a number of 64 bits holds, with an opener for each byte
pub half-small : (n : ℕ) → n ≤ 1048576 → half n ≤ 2 ^ 40
half-small n h = omega (arith, half-twice n, mul-le-mul_right {m = n} {n = 1048576} (n - 1) h)

-- behind n bytes
abbrev pub Counts : ℕ → State → Type 0
Counts n s = s.refused ≡ None → s.looks ≤ half n

module _ (x : Sheet) where
  module _ (v : View) (m : ℕ) (shows : Shows x.text v) where
    pub step-counts : (a : Turn) → a.state.refused ≡ None → Held Any x.text v m 0 a → Counts (m + a.cursor.pos) a.state
        → Counts (m + (step x v a).cursor.pos) (step x v a).state
    step-counts a un held c z = go (ltb a.cursor.pos (length v.bytes)) refl
      where
        here : Held Any x.text v m a.cursor.pos a
        here =
            record {
              sound = held.sound;
              few = held.few;
              opens = held.opens;
              good = λ e. record { sound = held.sound; far = omega arith; good = (held.good e).good };
            }

        on : suc a.cursor.pos ≤ (step x v a).cursor.pos → (step x v a).state.looks ≤ half (m + (step x v a).cursor.pos)
        on l =
            omega (
              arith,
              looks-step x v a,
              step-most v a,
              held.opens,
              c un,
              half-suc (m + a.cursor.pos),
              half-more (suc (m + a.cursor.pos)) (m + (step x v a).cursor.pos) (omega (arith, l)),
            )

        go : (t : Bool) → ltb a.cursor.pos (length v.bytes) ≡ t → (step x v a).state.looks ≤ half (m + (step x v a).cursor.pos)
        go true e =
            let s = ltb-true a.cursor.pos (length v.bytes) e in
            ⊎_elim (λ (k : Held Any x.text v m (suc a.cursor.pos) (step x v a)). on (k.good z).far)
            (λ (k : Held Any x.text v m (length v.bytes) (step x v a)). on (omega (arith, s, (k.good z).far)))
            (step-held Any x.text x v m shows a held.sound a.cursor.pos here un (λ i o. tt))
        go false e =
            subst (λ (b : Turn). b.state.looks ≤ half (m + b.cursor.pos))
            (sym (step_end x v a held.sound (omega (arith, ltb-false a.cursor.pos (length v.bytes) e)))) (c un)

    pub steps-count : (n : ℕ) (a : Turn) → Held Any x.text v m 0 a → Counts (m + a.cursor.pos) a.state
        → Counts (m + (steps n x v a).cursor.pos) (steps n x v a).state
    unfolding steps
    steps-count zero a held c = c
    steps-count (suc n) a held c =
        either (λ (b : Turn). Counts (m + b.cursor.pos) b.state) a.state.refused _ _ (λ p e. c)
        (λ e. steps-count n (step x v a) (step-on Any x.text x v m shows (λ i. tt) a e held) (step-counts a e held c))

  -- lines
  pub lines-count : (ls : List Line) (at m : ℕ) (s : State) → Rising x.text at ls → Stood Any x.text x at m s → Counts m s
      → Counts (m + total ls) (lines x (views x.text ls) s)
  unfolding Rising lines total
  lines-count [] at m s r h c e = omega (arith, c e, half-more m (m + 0) (omega arith))
  lines-count (l ∷ ls) at m s r h c e =
      let v = view_of x.text l in
      let gap : Gap Any at l.start = record { up = r.0; loose = λ i a b. tt } in
      let held = begun-held Any x.text x v at m s gap h in
      let shows = view-shows x.text l r.1 r.2 in
      let long = view-long x.text l r.1 r.2 in
      let k = steps-count v m shows (length v.bytes) (begun x v s) held (λ z. omega (arith, c z, half-more m (m + 0) (omega arith))) in
      let end = steps-some Any x.text x v m shows (length v.bytes) (begun x v s) held (λ i o. tt) in
      omega (
        arith,
        lines-count ls l.end (m + (l.end - l.start)) (line x v s) r.3 (fed-stood Any x.text x l at m s r.1 r.2 gap h (λ i o. tt))
            (λ z. omega (arith, k z, half-more (m + (steps (length v.bytes) x v (begun x v s)).cursor.pos) (m + (l.end - l.start)) (omega (arith, end.sound.place, long)))) e,
        half-more (m + (l.end - l.start) + total ls) (m + (l.end - l.start + total ls)) (omega arith),
      )

  -- the search of a whole sheet
  pub search-room : (ls : List Line) → Fed x.text ls → (read x ls).refused ≡ None → 2 * (read x ls).looks ≤ total ls * (total ls - 1)
  search-room ls fed e =
      let s = lines x (views x.text ls) start in
      let k = lines-count ls 0 0 start (up x ls fed) (start-stood Any x.text x) (λ z. omega arith) (sym (ended-un (end_of ls 0) s.inside s) ∙ e) in
      omega (arith, k, ended-looks (end_of ls 0) s.inside s, half-more (0 + total ls) (total ls) (omega arith), half-twice (total ls))
