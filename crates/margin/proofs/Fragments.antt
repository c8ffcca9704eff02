-- The fragments of two calls on such texts are the same, unless one is refused with 8: a fragment holds no label.
use Rattle.std.specs.Prelude.{None, Option, Some}
use Prim.Native.Nat.{ℕ, ◌≤◌, ◌<◌}
use mathlib.Core.Path.{◌≡◌, refl, sym, ap, ◌∙◌, subst}
use mathlib.Core.List.{List, [], ◌∷◌}
use mathlib.Core.Bool.{Bool, true, false, ◌||◌}
use mathlib.Core.Logic.{inl, inr}
use native.Mathlib.Omega.{arith}
use borrow.Author.Tests.{eqb-true, ltb-true, lt-leb}
use lib.Dec.{eqb, leb, ltb}
use lib.ListN.{length}
use Rattle.reading.specs.declared.Line.{Line}
use Rattle.reading.specs.declared.Event.{Event}
use Rattle.reading.specs.declared.Home.{Home}
use Rattle.reading.specs.declared.Place.{Place}
use Rattle.reading.specs.Events.{enter_from, str, symbol}
use Rattle.reading.specs.Reading.{sheet}
use Rattle.reading.specs.Margin.{Agree}
use Rattle.reading.specs.Walked.{Shown, link_exit, events}
use Rattle.reading.specs.Questions.{Rooms, Outcome, Fed, label_room, outcome}
use Rattle.reading.proofs.Choose.{choose₂}
use Rattle.reading.proofs.Answers.{asks, accepted}
use Rattle.reading.proofs.Like.{Like, AllLike}
use Rattle.reading.proofs.Telling.{Same, part-same}
use Rattle.reading.proofs.Margins.{of-seen}
use Rattle.markup.specs.Markup.{characters, written, raw_behind, outside_raw, fragment}
use Rattle.verdict.specs.Fragments.{barred, first_barred, Fragmented, refuses, judged, behind, fragmented}
use Rattle.margin.specs.Calls.{CommonFragment}
use Rattle.margin.proofs.Margin.{bare-events, margin}

-- what neither opens nor closes is no link's exit
low-exit : (kind : ℕ) → ltb kind enter_from ≡ true → link_exit kind ≡ false
unfolding link_exit
low-exit kind e = rw (lt-leb 76 kind (omega (arith, ltb-true kind enter_from e)))

module _ (T : Home → Home → Type 0) (t u : List ℕ) (long : length t ≡ length u) where
  characters-same : (e f : Event) → Like T e f → (link_exit e.kind ≡ false → (i : ℕ) → e.start.0 ≤ i → i < e.end.0 → Same t u i) → characters u f ≡ characters t e
  unfolding characters
  characters-same e f l s =
      rw (l.kind, l.start, l.end)
      (choose₂ (λ (a b : List ℕ). a ≡ b) (ltb e.kind enter_from) _ _ _ _
      (λ y. choose₂ (λ (a b : List ℕ). a ≡ b) (eqb e.kind str || eqb e.kind symbol) _ _ _ _
      (λ z. sym (part-same t u long e.start.0 e.end.0 (s (low-exit e.kind y))))
      (λ z. refl))
      (λ y. refl))

  raw-same : (n : ℕ) (es fs : List Event) → AllLike T es fs → ((i : ℕ) → Shown i es → Same t u i) → outside_raw (written u) n fs ≡ outside_raw (written t) n es
  unfolding AllLike Shown outside_raw
  raw-same n [] [] a s = refl
  raw-same n [] (f ∷ fs) a s = absurd a
  raw-same n (e ∷ es) [] a s = absurd a
  raw-same n (e ∷ es) (f ∷ fs) a s =
      rw (characters-same e f a.0 (λ x i y z. s i (inl (x, y, z))), a.0.kind, raw-same (raw_behind n e.kind) es fs a.1 (λ i x. s i (inr x)), outside_raw)

  barred-same : (es fs : List Event) → AllLike T es fs → first_barred fs ≡ first_barred es
  unfolding AllLike first_barred
  barred-same [] [] a = refl
  barred-same [] (f ∷ fs) a = absurd a
  barred-same (e ∷ es) [] a = absurd a
  barred-same (e ∷ es) (f ∷ fs) a =
      ap (λ (k : ℕ). elim (barred k) [ true ↦ Some f.start | false ↦ first_barred fs ]) a.0.kind
      ∙ ap (λ (p : Place). elim (barred e.kind) [ true ↦ Some p | false ↦ first_barred fs ]) a.0.start
      ∙ ap (λ (r : Option Place). elim (barred e.kind) [ true ↦ Some e.start | false ↦ r ]) (barred-same es fs a.1)

module _ (t u : List ℕ) (ls : List Line) (reading : ℕ) (rooms : Rooms) (out : List ℕ) (agree : Agree t u ls)
    (m : (outcome t ls reading rooms).answer.code ≡ 8 → ⊥) (n : (outcome u ls reading rooms).answer.code ≡ 8 → ⊥) where
  abbrev o : Outcome
  o = outcome t ls reading rooms

  abbrev p : Outcome
  p = outcome u ls reading rooms

  abbrev es : List Event
  es = events (sheet t ls reading (label_room rooms.labels)) ls

  abbrev fs : List Event
  fs = events (sheet u ls reading (label_room rooms.labels)) ls

  abbrev F : Fragmented → Fragmented → Type 0
  F = CommonFragment

  abbrev Any : Home → Home → Type 0
  Any h k = Unit {0}

  module _ (z : o.answer.code ≡ 0) where
    fed : Fed t ls
    fed = asks t ls reading rooms (λ (o : Outcome). o.answer.code ≡ 0 → Fed t ls) (λ code at l u e. absurd (omega (arith, e, l))) (λ f e. f) z

    alike : AllLike Any es fs
    alike = bare-events t u ls reading rooms agree fed

    shown : (i : ℕ) → Shown i es → Same t u i
    shown i s = agree.bytes i (of-seen ls i ((accepted t ls reading rooms z).whole.shown i s).0)

    same : fragment u fs ≡ fragment t es
    same = raw-same Any t u agree.long 0 es fs alike shown

    judged-same : (b : Option Place) → F (judged b (fragment t es) rooms o out) (judged b (fragment u fs) rooms p out)
    unfolding judged
    judged-same (Some at) = record { code = refl; place = refl; count = refl; length = refl; out = refl }
    judged-same None =
        rw same
        (choose₂ F (leb (length (fragment t es)) (length out)) _ _ _ _
        (λ e. record { code = refl; place = refl; count = (margin t u ls reading rooms agree m n).count; length = refl; out = refl })
        (λ e. record { code = refl; place = refl; count = refl; length = refl; out = refl }))

    read-same : F (judged (first_barred es) (fragment t es) rooms o out) (judged (first_barred fs) (fragment u fs) rooms p out)
    read-same = rw (barred-same Any t u agree.long es fs alike) (judged-same (first_barred es))

  pub fragments : F (fragmented t ls reading rooms out) (fragmented u ls reading rooms out)
  unfolding behind
  fragments =
      let c = margin t u ls reading rooms agree m n in
      subst
      (λ (b : Bool).
      F (behind t es rooms o out) (elim b [ true ↦ judged (first_barred fs) (fragment u fs) rooms p out | false ↦ refuses p.answer.code p.answer.place p.rooms out ]))
      (ap (λ (k : ℕ). eqb k 0) (sym c.code))
      (choose₂ F (eqb o.answer.code 0) _ _ _ _ (λ e. read-same (eqb-true o.answer.code 0 e))
      (λ e. record { code = c.code; place = c.place; count = refl; length = refl; out = refl }))
