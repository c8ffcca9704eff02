-- The queue's last event, what a change of one event leaves as it was, and a mark that closes nothing.
use Rattle.std.specs.Prelude.{None}
use Prim.Native.Nat.{ℕ, zero, suc, ◌+◌, ◌-◌, ◌≤◌, ◌<◌}
use mathlib.Core.Path.{◌≡◌, refl, ap, ◌∙◌}
use mathlib.Core.List.{List, [], ◌∷◌}
use native.Mathlib.Omega.{arith}
use lib.ListN.{length, get_or, length-append}
use lib.Seq.{get_or_at}
use Rattle.reading.specs.declared.Event.{Event}
use Rattle.reading.specs.declared.Last.{Last}
use Rattle.reading.specs.declared.Opener.{Opener}
use Rattle.reading.specs.Events.{home_of, homed, shorter}
use Rattle.reading.specs.Machine.{amend, amend_last}
use Rattle.reading.specs.Containers.{seek}
use Rattle.reading.proofs.Good.{Ends}

-- the last of n + 1 events is the n-th
pub amend-last-at : (f : Event → Event) (q : List Event) (n : ℕ) → length q ≡ suc n → amend_last f q ≡ amend f n q
unfolding amend amend_last
amend-last-at f [] n l = refl
amend-last-at f (e ∷ []) zero l = refl
amend-last-at f (e ∷ []) (suc n) l = absurd (omega arith)
amend-last-at f (e ∷ g ∷ q) zero l = absurd (omega arith)
amend-last-at f (e ∷ g ∷ q) (suc n) l = ap (λ (r : List Event). e ∷ r) (amend-last-at f (g ∷ q) n (omega arith))

-- no bytes shorter
pub shorter-same : (e : Event) → shorter 0 e ≡ e
shorter-same e = let z : e.end.0 - 0 ≡ e.end.0 = omega arith in ap (λ (b : ℕ). homed e.kind (home_of e) e.start.0 b) z

pub shorter-none : (q : List Event) → amend_last (shorter 0) q ≡ q
unfolding amend_last
shorter-none [] = refl
shorter-none (e ∷ []) = ap (λ (x : Event). x ∷ []) (shorter-same e)
shorter-none (e ∷ g ∷ q) = ap (λ (r : List Event). e ∷ r) (shorter-none (g ∷ q))

-- where the last event ends, and that the dollars lie within it
ends_at : (m at : ℕ) (q : List Event) (n : ℕ) (d : Event) → (h : Ends m at q) → length q ≡ suc n → get_or q n d ≡ h.it
ends_at m at q n d h l =
    ap (λ (r : List Event). get_or r n d) h.parted
    ∙ get_or_at h.front h.it [] d n
    (omega (arith, l, ap (λ (r : List Event). length r) h.parted, length-append h.front (h.it ∷ [])))

pub ends_last : (l : Last) (q : List Event) (n : ℕ) (d : Event) → Ends l.dollars l.end.0 q → length q ≡ suc n
    → (get_or q n d).end.0 ≡ l.end.0
ends_last l q n d h s = rw (ends_at l.dollars l.end.0 q n d h s) h.ends

pub ends-wide : (l : Last) (q : List Event) (n : ℕ) (d : Event) → Ends l.dollars l.end.0 q → length q ≡ suc n
    → (get_or q n d).start.0 + l.dollars ≤ (get_or q n d).end.0
ends-wide l q n d h s = rw (ends_at l.dollars l.end.0 q n d h s) h.wide

-- there is one
pub ends_some : (m at : ℕ) (q : List Event) → Ends m at q → 0 < length q
ends_some m at q h = omega (arith, ap (λ (r : List Event). length r) h.parted, length-append h.front (h.it ∷ []))

-- where there is no i-th event nothing changes
pub amend-out : (f : Event → Event) (i : ℕ) (q : List Event) → length q ≤ i → amend f i q ≡ q
unfolding amend
amend-out f i [] l = refl
amend-out f zero (e ∷ q) l = absurd (omega arith)
amend-out f (suc i) (e ∷ q) l = ap (λ (r : List Event). e ∷ r) (amend-out f i q (omega arith))

-- what closes nothing closes no opener
pub seek-none : (os : List Opener) → seek None os ≡ []
unfolding seek
seek-none os = refl
