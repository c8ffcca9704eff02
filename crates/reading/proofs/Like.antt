-- Events that differ in their homes at most, by twos: what the rules make of a queue they make of both.
use Prim.Native.Nat.{ℕ, zero, suc, ◌+◌, ◌-◌}
use mathlib.Core.Path.{◌≡◌, refl, ap, ◌∙◌}
use mathlib.Core.List.{List, [], ◌∷◌, ◌++◌}
use lib.Dec.{eqb}
use lib.ListN.{length, get_or, take, drop}
use Rattle.dash.specs.declared.Dashes.{Dashes}
use Rattle.reading.specs.declared.Event.{Event}
use Rattle.reading.specs.declared.Home.{Home}
use Rattle.reading.specs.declared.Place.{Place}
use Rattle.reading.specs.Events.{homed, event, nowhere, place, home_of, becomes, becomes_to, shorter, exit_of, str}
use Rattle.reading.specs.Machine.{amend, amend_last}
use Rattle.reading.specs.Atoms.{row, dashes}
use Rattle.reading.specs.Verbatim.{nothing}
use Rattle.reading.specs.Draining.{flushed, touches, drained}
use Rattle.reading.proofs.Choose.{choose₂}

-- of the two homes it holds what T says
pub record Like (T : Home → Home → Type 0) (e f : Event) : Type 0 where
  pub kind : f.kind ≡ e.kind
  pub start : f.start ≡ e.start
  pub end : f.end ≡ e.end
  pub link : f.link ≡ e.link
  pub homes : T (home_of e) (home_of f)

-- each of some events, and that of the others at its place
unfoldable pub AllLike : (Home → Home → Type 0) → List Event → List Event → Type 0
AllLike T [] [] = Unit {0}
AllLike T [] (f ∷ r) = ⊥
AllLike T (e ∷ q) [] = ⊥
AllLike T (e ∷ q) (f ∷ r) = Like T e f × AllLike T q r

-- what another claim makes of it
pub like-other : {T U : Home → Home → Type 0} → ((h k : Home) → T h k → U h k) → (q r : List Event) → AllLike T q r → AllLike U q r
unfolding AllLike
like-other f [] [] a = tt
like-other f [] (g ∷ r) a = absurd a
like-other f (e ∷ q) [] a = absurd a
like-other f (e ∷ q) (g ∷ r) a =
    (record { kind = a.0.kind; start = a.0.start; end = a.0.end; link = a.0.link; homes = f _ _ a.0.homes }, like-other f q r a.1)

module _ (T : Home → Home → Type 0) where
  pub like-length : (q r : List Event) → AllLike T q r → length r ≡ length q
  unfolding AllLike
  like-length [] [] a = refl
  like-length [] (f ∷ r) a = absurd a
  like-length (e ∷ q) [] a = absurd a
  like-length (e ∷ q) (f ∷ r) a = ap suc (like-length q r a.1)

  -- events joined, put, cut and changed
  pub like-append : (a b c d : List Event) → AllLike T a b → AllLike T c d → AllLike T (a ++ c) (b ++ d)
  unfolding AllLike
  like-append [] [] c d h k = k
  like-append [] (f ∷ b) c d h k = absurd h
  like-append (e ∷ a) [] c d h k = absurd h
  like-append (e ∷ a) (f ∷ b) c d h k = (h.0, like-append a b c d h.1 k)

  pub like-take : (n : ℕ) (q r : List Event) → AllLike T q r → AllLike T (take n q) (take n r)
  unfolding AllLike
  like-take zero q r h = tt
  like-take (suc n) [] [] h = tt
  like-take (suc n) [] (f ∷ r) h = absurd h
  like-take (suc n) (e ∷ q) [] h = absurd h
  like-take (suc n) (e ∷ q) (f ∷ r) h = (h.0, like-take n q r h.1)

  pub like-drop : (n : ℕ) (q r : List Event) → AllLike T q r → AllLike T (drop n q) (drop n r)
  unfolding AllLike
  like-drop zero q r h = h
  like-drop (suc n) [] [] h = tt
  like-drop (suc n) [] (f ∷ r) h = absurd h
  like-drop (suc n) (e ∷ q) [] h = absurd h
  like-drop (suc n) (e ∷ q) (f ∷ r) h = like-drop n q r h.1

  pub like-amend : (f g : Event → Event) → ((a b : Event) → Like T a b → Like T (f a) (g b)) → (i : ℕ) (q r : List Event) → AllLike T q r
      → AllLike T (amend f i q) (amend g i r)
  unfolding AllLike amend
  like-amend f g k i [] [] h = tt
  like-amend f g k i [] (b ∷ r) h = absurd h
  like-amend f g k i (a ∷ q) [] h = absurd h
  like-amend f g k zero (a ∷ q) (b ∷ r) h = (k a b h.0, h.1)
  like-amend f g k (suc i) (a ∷ q) (b ∷ r) h = (h.0, like-amend f g k i q r h.1)

  like-less : (n : ℕ) (a b : Event) → Like T a b → Like T (shorter n a) (shorter n b)
  like-less n a b l =
      record { kind = l.kind; start = l.start; end = ap (λ (p : Place). place (p.0 - n)) l.end; link = l.link; homes = l.homes }

  pub like-shorter : (n : ℕ) (q r : List Event) → AllLike T q r → AllLike T (amend_last (shorter n) q) (amend_last (shorter n) r)
  unfolding AllLike amend_last
  like-shorter n [] [] h = tt
  like-shorter n [] (b ∷ r) h = absurd h
  like-shorter n (a ∷ q) [] h = absurd h
  like-shorter n (a ∷ []) (b ∷ []) h = (like-less n a b h.0, tt)
  like-shorter n (a ∷ []) (b ∷ c ∷ r) h = absurd h.1
  like-shorter n (a ∷ c ∷ q) (b ∷ []) h = absurd h.1
  like-shorter n (a ∷ c ∷ q) (b ∷ d ∷ r) h = (h.0, like-shorter n (c ∷ q) (d ∷ r) h.1)

  -- an event with its home, and one without
  pub like-homed : (kind : ℕ) (h k : Home) (a b : ℕ) → k.link ≡ h.link → T h k → Like T (homed kind h a b) (homed kind k a b)
  like-homed kind h k a b e t = record { kind = refl; start = refl; end = refl; link = e; homes = t }

  pub like-becomes : (kind : ℕ) (h k : Home) → k.link ≡ h.link → T h k → (a b : Event) → Like T a b → Like T (becomes kind h a) (becomes kind k b)
  like-becomes kind h k e t a b l = record { kind = refl; start = l.start; end = l.end; link = e; homes = t }

  pub like-to : (kind : ℕ) (h k : Home) (to : ℕ) → k.link ≡ h.link → T h k → (a b : Event) → Like T a b
      → Like T (becomes_to kind h to a) (becomes_to kind k to b)
  like-to kind h k to e t a b l = record { kind = refl; start = l.start; end = refl; link = e; homes = t }

  pub like-exit : (from to : ℕ) (a b : Event) → Like T a b → Like T (exit_of a from to) (exit_of b from to)
  like-exit from to a b l = record { kind = ap (λ (n : ℕ). n + 32) l.kind; start = refl; end = refl; link = l.link; homes = l.homes }

  -- where no home is like no home
  module _ (none : T nowhere nowhere) where
    pub like-event : (kind a b : ℕ) → Like T (event kind a b) (event kind a b)
    like-event kind a b = like-homed kind nowhere nowhere a b refl none

    pub like-put : (kind a b : ℕ) (q r : List Event) → AllLike T q r → AllLike T (q ++ event kind a b ∷ []) (r ++ event kind a b ∷ [])
    unfolding AllLike
    like-put kind a b q r h = like-append q r (event kind a b ∷ []) (event kind a b ∷ []) h (like-event kind a b, tt)

    pub like-at : (i : ℕ) (q r : List Event) → AllLike T q r → Like T (get_or q i nothing) (get_or r i nothing)
    unfolding AllLike
    like-at i [] [] h = like-event 0 0 0
    like-at i [] (b ∷ r) h = absurd h
    like-at i (a ∷ q) [] h = absurd h
    like-at zero (a ∷ q) (b ∷ r) h = h.0
    like-at (suc i) (a ∷ q) (b ∷ r) h = like-at i q r h.1

    pub like-row : (kind w n at : ℕ) → AllLike T (row kind w n at) (row kind w n at)
    unfolding AllLike row
    like-row kind w zero at = tt
    like-row kind w (suc n) at = (like-event kind at (at + w), like-row kind w n (at + w))

    pub like-dashes : (d : Dashes) (at : ℕ) → AllLike T (dashes d at) (dashes d at)
    unfolding dashes
    like-dashes d at = like-append _ _ _ _ (like-row _ _ _ _) (like-row _ _ _ _)

    -- draining
    pub like-flushed : (a b : ℕ) (es fs : List Event) → AllLike T es fs → AllLike T (flushed a b es) (flushed a b fs)
    unfolding AllLike flushed
    like-flushed a b es fs h = choose₂ (AllLike T) (eqb a b) _ _ _ _ (λ e. h) (λ e. (like-event str a b, h))

    pub like-drained : (a b : ℕ) (es fs : List Event) → AllLike T es fs → AllLike T (drained a b es) (drained a b fs)
    unfolding AllLike drained
    like-drained a b [] [] h = like-flushed a b [] [] h
    like-drained a b [] (f ∷ fs) h = absurd h
    like-drained a b (e ∷ es) [] h = absurd h
    like-drained a b (e ∷ es) (f ∷ fs) h =
        rw (h.0.kind, h.0.start, h.0.end)
        (choose₂ (AllLike T) (eqb e.kind str) _ _ _ _
        (λ k. choose₂ (AllLike T) (touches b e) _ _ _ _
        (λ t. like-drained a e.end.0 es fs h.1)
        (λ t. like-flushed a b _ _ (like-drained e.start.0 e.end.0 es fs h.1)))
        (λ k. like-flushed a b _ _
        (record { kind = refl; start = refl; end = refl; link = h.0.link; homes = h.0.homes }, like-drained e.end.0 e.end.0 es fs h.1)))

-- where the homes are the same, so are the events
same-event : (e f : Event) → Like (λ h k. k ≡ h) e f → f ≡ e
same-event e f l =
    ap (λ (k : ℕ). homed k (home_of f) f.start.0 f.end.0) l.kind
    ∙ ap (λ (p : Place). homed e.kind (home_of f) p.0 f.end.0) l.start
    ∙ ap (λ (p : Place). homed e.kind (home_of f) e.start.0 p.0) l.end
    ∙ ap (λ (h : Home). homed e.kind h e.start.0 e.end.0) l.homes

pub same-events : (q r : List Event) → AllLike (λ h k. k ≡ h) q r → r ≡ q
unfolding AllLike
same-events [] [] h = refl
same-events [] (f ∷ r) h = absurd h
same-events (e ∷ q) [] h = absurd h
same-events (e ∷ q) (f ∷ r) h = ap (λ (g : Event). g ∷ r) (same-event e f h.0) ∙ ap (λ (l : List Event). e ∷ l) (same-events q r h.1)
