-- Asking a validator at each brace is linear: behind the brace it starts at, a byte is looked at by at most three validators (`Slots`).
use Prim.Native.Nat.{ℕ, suc, ◌+◌, ◌*◌, ◌≤◌}
use mathlib.Core.Path.{◌≡◌, refl}
use mathlib.Core.List.{List, [], ◌∷◌}
use mathlib.Core.Bool.{Bool, true, false}
use native.Mathlib.Omega.{arith}
use lib.Dec.{eqb}
use lib.ListN.{length}
use Rattle.classes.specs.Classes.{bytes, among}
use Rattle.attr.specs.declared.attr.State.{State}
use Rattle.attr.specs.declared.attr.State.TheVariants as state
use Rattle.attr.specs.Attributes.{step, is_decided}
use Rattle.attr.specs.Work.{looks, work, braces}
use Rattle.attr.proofs.Alike.{marks, Alike, alike, same_step}
use Rattle.attr.proofs.Slots.{Slots, empty, started, Behind, behind}

module _ (c : ℕ) (cs : List ℕ) where
  -- one look, and those behind it
  one-look : (s : State) → looks (c ∷ cs) s ≤ suc (looks cs (step s c))
  unfolding looks
  one-look s = go (is_decided s) refl
    where
      go : (x : Bool) → is_decided s ≡ x → looks (c ∷ cs) s ≤ suc (looks cs (step s c))
      go true e = rw (e, looks) (omega arith)
      go false e = rw (e, looks) (omega arith)

  -- a brace, and the looks behind it of the one that starts there
  one-start : work (c ∷ cs) + braces cs ≤ started (looks cs) c + work cs + braces (c ∷ cs)
  unfolding work braces started
  one-start = go (eqb c 123) refl
    where
      go : (x : Bool) → eqb c 123 ≡ x → work (c ∷ cs) + braces cs ≤ started (looks cs) c + work cs + braces (c ∷ cs)
      go true e = rw (e, work, braces, started) (omega (arith, one-look state.Start))
      go false e = rw (e, work, braces, started) (omega arith)

no-look : (cs : List ℕ) (s : State) → is_decided s ≡ true → looks cs s ≡ 0
unfolding looks
no-look [] s e = refl
no-look (c ∷ cs) s e = rw (e, looks)

started-alike : (w : State → ℕ) (c d : ℕ) → Alike c d → started w c ≡ started w d
unfolding started marks bytes among
started-alike w c d h = cc (h.mark 123 refl, same_step c d h state.Start)

-- one byte, with what is behind it known
step-bound : (c : ℕ) (cs : List ℕ) (a q t : State) (d : ℕ) → ((s : State) → step s c ≡ step s d) → started (looks cs) c ≡ started (looks cs) d
    → (b : Behind d a q t)
    → looks cs b.comment + looks cs b.quotes + looks cs b.part + work cs ≤ 3 * length cs + braces cs
    → looks (c ∷ cs) a + looks (c ∷ cs) q + looks (c ∷ cs) t + work (c ∷ cs) ≤ 3 * suc (length cs) + braces (c ∷ cs)
step-bound c cs a q t d same begun b more =
    omega (
      arith,
      rw (same a) at (one-look c cs a),
      rw (same q) at (one-look c cs q),
      rw (same t) at (one-look c cs t),
      one-start c cs,
      begun,
      b.same (looks cs) (no-look cs),
      more,
    )

-- what is under way, and what is still to start
bound : (cs : List ℕ) (a q t : State) → Slots a q t → looks cs a + looks cs q + looks cs t + work cs ≤ 3 * length cs + braces cs
unfolding looks work braces
bound [] a q t h = omega arith
bound (c ∷ cs) a q t h =
    let byte = alike c in
    let same = same_step c byte.0 byte.1 in
    let b = behind byte.0 a q t byte.1.stands h in
    step-bound c cs a q t byte.0 same (started-alike (looks cs) c byte.0 byte.1) b (bound cs b.comment b.quotes b.part b.slots)

-- three a byte, and one more at each brace
pub three-looks : (cs : List ℕ) → work cs ≤ 3 * length cs + braces cs
three-looks cs = omega (arith, bound cs state.Done state.Done state.Done empty)

few-braces : (cs : List ℕ) → braces cs ≤ length cs
unfolding braces
few-braces [] = omega arith
few-braces (c ∷ cs) = go (eqb c 123) refl (few-braces cs)
  where
    go : (x : Bool) → eqb c 123 ≡ x → braces cs ≤ length cs → braces (c ∷ cs) ≤ suc (length cs)
    go true e more = rw (e, braces) (omega arith)
    go false e more = rw (e, braces) (omega arith)

pub four-looks : (cs : List ℕ) → work cs ≤ 4 * length cs
four-looks cs = omega (arith, three-looks cs, few-braces cs)
