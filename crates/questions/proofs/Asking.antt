-- Questions 1 to 6: the chain of them step by step, and that what they come to is the outcome.
use Rattle.std.specs.Prelude.{Result, Ok, Err}
use Prim.Native.Nat.{ℕ, suc, ◌+◌, ◌*◌, ◌/◌}
use mathlib.Core.Path.{◌≡◌, refl, sym, ap, ◌∙◌}
use mathlib.Core.List.{List, [], ◌∷◌}
use mathlib.Core.Bool.{Bool, true, false, ◌&&◌}
use native.Mathlib.Omega.{arith}
use borrow.Author.Tests.{leb-true}
use lib.Dec.{leb, ltb}
use lib.ListN.{length}
use Rattle.reading.specs.declared.Line.{Line}
use Rattle.reading.specs.declared.refusal.Refusal.{Refusal}
use Rattle.reading.specs.Questions.{Rooms, total, first_outside, first_early, outcome_with, outcome}
use Rattle.reading.proofs.Feeding.{Rising}
use Rattle.reading.proofs.Theorems.{rising}
use Rattle.inline.specs.Lines.{lines_of}
use Rattle.questions.specs.Asking.{limit, checked_lines, roomy, ◌>>=◌, asked_of, concluded, Passed}

-- the chain, where the limits answer l of n lines
module _ (text : List ℕ) (ls : List Line) (reading q o : ℕ) {l : Result (Unit {0}) Refusal} {n : ℕ}
    (is : l ≡ limit reading (length text) n) (long : n ≡ length ls) where
  abbrev Asked : Type 0
  Asked = Result (Unit {0}) Refusal

  limited : l ≡ limit reading (length text) (length ls)
  limited = is ∙ ap (λ (k : ℕ). limit reading (length text) k) long

  behind : {r : Asked} → l ≡ r → (r >>= λ _. checked_lines text ls >>= λ k. roomy k q o) ≡ asked_of text ls reading q o
  unfolding asked_of
  behind e = ap (λ (z : Asked). z >>= λ _. checked_lines text ls >>= λ k. roomy k q o) (sym e ∙ limited)

  pub asked_limit : {r : Refusal} → l ≡ Err r → ◌≡◌ {A = Asked} (Err r) (asked_of text ls reading q o)
  asked_limit e = behind e

  pub asked_lines : {u : Unit {0}} → l ≡ Ok u → {d : Result ℕ Refusal} → d ≡ checked_lines text ls → {r : Refusal} → d ≡ Err r → ◌≡◌ {A = Asked} (Err r) (asked_of text ls reading q o)
  asked_lines e h f = sym (ap (λ (z : Result ℕ Refusal). z >>= λ k. roomy k q o) (sym h ∙ f)) ∙ behind e

  pub asked_rooms : {u : Unit {0}} → l ≡ Ok u → {d : Result ℕ Refusal} → d ≡ checked_lines text ls → {k : ℕ} → d ≡ Ok k → roomy k q o ≡ asked_of text ls reading q o
  asked_rooms e h f = sym (ap (λ (z : Result ℕ Refusal). z >>= λ k. roomy k q o) (sym h ∙ f)) ∙ behind e

-- questions 1 to 6 as tests: the first that a sheet does not pass, or all of them
module _ (text : List ℕ) (ls : List Line) (reading q o : ℕ) where
  abbrev t₁ : Bool
  t₁ = leb reading 1

  abbrev t₂ : Bool
  t₂ = leb (length text) 1048576 && leb (length ls) 1048576

  abbrev t₃ : Bool
  t₃ = ltb (first_outside text ls) (length ls)

  abbrev t₄ : Bool
  t₄ = ltb (first_early 0 ls) (length ls)

  abbrev t₅ : Bool
  t₅ = leb (2 * total ls + 1) (q / 8)

  abbrev t₆ : Bool
  t₆ = leb (total ls) (o / 4)

  by_tests : (G : Type 0)
      → (t₁ ≡ false → G)
      → (t₁ ≡ true → t₂ ≡ false → G)
      → (t₁ ≡ true → t₂ ≡ true → t₃ ≡ true → G)
      → (t₁ ≡ true → t₂ ≡ true → t₃ ≡ false → t₄ ≡ true → G)
      → (t₁ ≡ true → t₂ ≡ true → t₃ ≡ false → t₄ ≡ false → t₅ ≡ false → G)
      → (t₁ ≡ true → t₂ ≡ true → t₃ ≡ false → t₄ ≡ false → t₅ ≡ true → t₆ ≡ false → G)
      → (t₁ ≡ true → t₂ ≡ true → t₃ ≡ false → t₄ ≡ false → t₅ ≡ true → t₆ ≡ true → G) → G
  by_tests G n₁ n₂ n₃ n₄ n₅ n₆ all = go t₁ refl t₂ refl t₃ refl t₄ refl t₅ refl t₆ refl
    where
      go : (a : Bool) → t₁ ≡ a → (b : Bool) → t₂ ≡ b → (c : Bool) → t₃ ≡ c → (d : Bool) → t₄ ≡ d → (e : Bool) → t₅ ≡ e → (f : Bool) → t₆ ≡ f → G
      go false h₁ b h₂ c h₃ d h₄ e h₅ f h₆ = n₁ h₁
      go true h₁ false h₂ c h₃ d h₄ e h₅ f h₆ = n₂ h₁ h₂
      go true h₁ true h₂ true h₃ d h₄ e h₅ f h₆ = n₃ h₁ h₂ h₃
      go true h₁ true h₂ false h₃ true h₄ e h₅ f h₆ = n₄ h₁ h₂ h₃ h₄
      go true h₁ true h₂ false h₃ false h₄ false h₅ f h₆ = n₅ h₁ h₂ h₃ h₄ h₅
      go true h₁ true h₂ false h₃ false h₄ true h₅ false h₆ = n₆ h₁ h₂ h₃ h₄ h₅ h₆
      go true h₁ true h₂ false h₃ false h₄ true h₅ true h₆ = all h₁ h₂ h₃ h₄ h₅ h₆

-- what comes of them is the outcome
pub outcome-asked : (text : List ℕ) (ls : List Line) (reading : ℕ) (rooms : Rooms)
    → outcome text ls reading rooms ≡ concluded text ls reading rooms (asked_of text ls reading (length rooms.queue) (length rooms.openers))
unfolding outcome_with concluded asked_of checked_lines
outcome-asked text ls reading rooms =
    by_tests text ls reading (length rooms.queue) (length rooms.openers) _
    (λ e. rw (e, outcome_with, asked_of, concluded))
    (λ e f. rw (e, f, outcome_with, asked_of, concluded))
    (λ e f g. rw (e, f, g, outcome_with, asked_of, checked_lines, concluded))
    (λ e f g h. rw (e, f, g, h, outcome_with, asked_of, checked_lines, concluded))
    (λ e f g h k. rw (e, f, g, h, k, outcome_with, asked_of, checked_lines, concluded))
    (λ e f g h k m. rw (e, f, g, h, k, m, outcome_with, asked_of, checked_lines, concluded))
    (λ e f g h k m. rw (e, f, g, h, k, m, outcome_with, asked_of, checked_lines, concluded))

-- and a sheet that passes them has what the parser asks
pub asked-passed : (text : List ℕ) (ls : List Line) (reading : ℕ) (qs os : List ℕ) {u : Unit {0}} → asked_of text ls reading (length qs) (length os) ≡ Ok u
    → Passed text ls qs os
unfolding asked_of checked_lines
asked-passed text ls reading qs os x =
    by_tests text ls reading (length qs) (length os) _
    (λ e. let z = rw (e, asked_of, ◌>>=◌, limit) at x in cc)
    (λ e f. let z = rw (e, f, asked_of, ◌>>=◌, limit) at x in cc)
    (λ e f g. let z = rw (e, f, g, asked_of, ◌>>=◌, limit, checked_lines) at x in cc)
    (λ e f g h. let z = rw (e, f, g, h, asked_of, ◌>>=◌, limit, checked_lines) at x in cc)
    (λ e f g h k. let z = rw (e, f, g, h, k, asked_of, ◌>>=◌, limit, checked_lines, roomy) at x in cc)
    (λ e f g h k m. let z = rw (e, f, g, h, k, m, asked_of, ◌>>=◌, limit, checked_lines, roomy) at x in cc)
    (λ e f g h k m.
    let b = both (leb (length text) 1048576) (leb (length ls) 1048576) f in
    record {
      small = leb-true (length text) 1048576 b.0;
      listed = leb-true (length ls) 1048576 b.1;
      fed = record { inside = g; apart = h };
      room = omega (arith, leb-true (2 * total ls + 1) (length qs / 8) k);
      stack = omega (arith, leb-true (total ls) (length os / 4) m);
    })
  where
    both : (p r : Bool) → p && r ≡ true → (p ≡ true) × (r ≡ true)
    both true true e = (refl, refl)
    both true false e = cc
    both false r e = cc

-- of two lists of numbers, they are of one length
pub passed-paired : (text ss es qs os : List ℕ) → Passed text (lines_of ss es) qs os → length ss ≡ length es
unfolding lines_of Rising
passed-paired text ss es qs os w = go ss es 0 (rising text 0 (lines_of ss es) w.fed.inside w.fed.apart)
  where
    go : (ss es : List ℕ) (a : ℕ) → Rising text a (lines_of ss es) → length ss ≡ length es
    go [] [] a r = refl
    go [] (b ∷ es) a r = absurd (omega (arith, r.1))
    go (c ∷ ss) [] a r = absurd (omega (arith, r.1))
    go (c ∷ ss) (b ∷ es) a r = ap suc (go ss es b r.3)
