-- Accepted scans, dashes and dots: the invariant behind them.
use Rattle.std.specs.Prelude.{None}
use Prim.Native.Nat.{ℕ, zero, suc, ◌+◌, ◌-◌, ◌*◌, ◌≤◌, ◌<◌}
use mathlib.Core.Path.{◌≡◌, refl, ap, subst}
use mathlib.Core.List.{List, [], ◌∷◌, ◌++◌, map-append}
use native.Mathlib.Nat.{mul-suc}
use native.Mathlib.Omega.{arith}
use lib.ListN.{length, drop, length-append, length-drop}
use Rattle.lex.proofs.Laws.{fresh-sound}
use Rattle.dash.specs.Dashes.{dashes_of, dots_of}
use Rattle.dash.proofs.Splits.{dashes-whole, dots-whole}
use Rattle.reading.specs.declared.Event.{Event}
use Rattle.reading.specs.Events.{nowhere, in_text, str, ellipsis, endash, emdash}
use Rattle.reading.specs.Machine.{View, State, Here, puts}
use Rattle.reading.specs.Atoms.{row, dashes, dots, autolinked, named}
use Rattle.reading.specs.Walked.{neither, walk_by, walk_of}
use Rattle.reading.proofs.Matching.{Still, still-nil, still-neither, still-append, wraps-match, Wraps}
use Rattle.reading.proofs.Spans.{Covers, gap-none, gap_same, covers-append}
use Rattle.reading.proofs.Queue.{walks}
use Rattle.reading.proofs.Good.{Out, out-puts, out-put, walk-neither}
use Rattle.reading.proofs.Places.{HereOk, Fine, fine-at}
use Rattle.reading.proofs.Containing.{good-out}

pub row-long : (kind w n at : ℕ) → length (row kind w n at) ≡ n
unfolding row
row-long kind w zero at = refl
row-long kind w (suc n) at = ap suc (row-long kind w n (at + w))

module _ (Loose : ℕ → Type 0) (text : List ℕ) where
  row-covers : (kind w n at to : ℕ) → at + w * n ≡ to → Covers Loose at (row kind w n at) to
  unfolding Covers row
  row-covers kind w zero at to e = gap_same Loose at to (omega (arith, e))
  row-covers kind w (suc n) at to e = (gap-none Loose at, omega arith, row-covers kind w n (at + w) to (omega (arith, e, mul-suc w n)))

  row-still : (kind w n at : ℕ) → kind < 32 → Still (walks (row kind w n at))
  unfolding row
  row-still kind w zero at l = still-nil
  row-still kind w (suc n) at l = rw (walk-neither Loose text kind nowhere l) (still-neither (walks (row kind w n (at + w))) (row-still kind w n (at + w) l))

  module _ (v : View) (m : ℕ) (h : Here) (k : HereOk v h) (s : State) (no : s.inside ≡ None) (g : Out Loose text (v.base + h.from) (m + h.from) s) where
    -- hyphens, two and more
    pub dashes-fine : 2 ≤ h.to - h.from
        → Fine Loose text v m (suc h.from) (record { cursor = h.cursor; state = puts (dashes (dashes_of (h.to - h.from)) (v.base + h.from)) None s })
    unfolding dashes
    dashes-fine l =
        fine-at Loose text v m (suc h.from) h.to (omega (arith, k.long)) h.cursor _ k.sound k.place
        (good-out Loose text _ _ _ no
        (out-puts Loose text (ems ++ ens) None (v.base + h.from) (v.base + h.to) (m + h.from) (m + h.to) s g
        (covers-append Loose (v.base + h.from) ems (v.base + h.from + 3 * em) ens (v.base + h.to)
        (row-covers emdash 3 em (v.base + h.from) (v.base + h.from + 3 * em) refl)
        (row-covers endash 2 en (v.base + h.from + 3 * em) (v.base + h.to) (omega (arith, whole, k.long))))
        (rw (map-append walk_of ems ens) (still-append (walks ems) (walks ens) (row-still emdash 3 em _ (omega arith)) (row-still endash 2 en _ (omega arith))))
        (omega (arith, length-append ems ens, row-long emdash 3 em (v.base + h.from), row-long endash 2 en (v.base + h.from + 3 * em), whole, k.long))
        (tt)))
      where
        n : ℕ
        n = h.to - h.from

        em : ℕ
        em = (dashes_of n).em

        en : ℕ
        en = (dashes_of n).en

        ems : List Event
        ems = row emdash 3 em (v.base + h.from)

        ens : List Event
        ens = row endash 2 en (v.base + h.from + 3 * em)

        whole : 3 * em + 2 * en ≡ h.to - h.from
        whole = dashes-whole (h.to - h.from) l

    -- periods
    pub dots-fine : Fine Loose text v m (suc h.from) (record { cursor = h.cursor; state = dots v h.from (h.to - h.from) s })
    dots-fine =
        fine-at Loose text v m (suc h.from) h.to (omega (arith, k.long)) h.cursor _ k.sound k.place
        (good-out Loose text _ _ _ no
        (subst (λ (j : ℕ). Out Loose text (v.base + j) (m + h.to) (dots v h.from (h.to - h.from) s)) end
        (out-put Loose text v str (h.from + 3 * e) (h.from + (h.to - h.from)) (m + h.from + e) (m + h.to) (puts es None s) (omega (arith, few)) (omega arith)
        (out-puts Loose text es None (v.base + h.from) (v.base + (h.from + 3 * e)) (m + h.from) (m + h.from + e) s g
        (row-covers ellipsis 3 e (v.base + h.from) (v.base + (h.from + 3 * e)) (omega arith))
        (row-still ellipsis 3 e (v.base + h.from) (omega arith))
        (omega (arith, row-long ellipsis 3 e (v.base + h.from)))
        (tt))
        (omega (arith, few, k.long)))))
      where
        e : ℕ
        e = (dots_of (h.to - h.from)).ellipses

        es : List Event
        es = row ellipsis 3 e (v.base + h.from)

        end : h.from + (h.to - h.from) ≡ h.to
        end = omega (arith, k.long)

        few : 3 * e ≤ h.to - h.from
        few = omega (arith, (dots-whole (h.to - h.from)).0)

    -- a scan that accepts n bytes, and one more that closes
    module _ (n : ℕ) (fit : n < length (drop h.to v.bytes)) where
      within : h.to + n + 1 ≤ length v.bytes
      within = omega (arith, fit, length-drop h.to v.bytes)

      pub named-fine : (kind : ℕ) → kind < 32 → Fine Loose text v m (suc h.from) (named kind v h n s)
      unfolding Covers
      named-fine kind l =
          fine-at Loose text v m (suc h.from) (h.to + n + 1) (omega (arith, k.long)) _ _ (fresh-sound v.bytes (h.to + n + 1) _ within) refl
          (good-out Loose text _ _ _ no
          (out-puts Loose text _ None (v.base + h.from) (v.base + (h.to + n + 1)) (m + h.from) (m + (h.to + n + 1)) s g
          (gap-none Loose (v.base + h.from), omega (arith, k.long), gap_same Loose _ _ (omega arith))
          (rw (walk-neither Loose text kind (in_text (v.base + h.to) (v.base + h.to + n)) l) (still-neither [] still-nil))
          (omega (arith, k.long)) (tt)))

      pub autolinked-fine : 1 ≤ n → Fine Loose text v m (suc h.from) (autolinked v h n s)
      unfolding Covers walk_by Wraps
      autolinked-fine l =
          fine-at Loose text v m (suc h.from) (h.to + n + 1) (omega (arith, k.long)) _ _ (fresh-sound v.bytes (h.to + n + 1) _ within) refl
          (good-out Loose text _ _ _ no
          (out-puts Loose text _ None (v.base + h.from) (v.base + (h.to + n + 1)) (m + h.from) (m + (h.to + n + 1)) s g (
            gap-none Loose (v.base + h.from),
            omega (arith, k.long),
            (
              gap-none Loose (v.base + h.to),
              omega arith,
              (
                gap-none Loose (v.base + h.to + n),
                omega arith,
                gap_same Loose _ _ (omega arith),
              ),
            ),
          )
          (wraps-match _ (neither ∷ []) (still-neither [] still-nil))
          (omega (arith, k.long)) (tt)))
