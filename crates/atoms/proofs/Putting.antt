-- Events put behind the queue: how many there are, and rows of them.
use Prim.Native.Nat.{ℕ, zero, suc, ◌+◌, ◌*◌}
use mathlib.Core.Path.{◌≡◌, refl, sym, ap, ◌∙◌}
use mathlib.Core.List.{List, [], ◌∷◌, ◌++◌, append_assoc, append-nil}
use native.Mathlib.Nat.{suc-mul}
use native.Mathlib.Numerals.{add-one}
use native.Mathlib.Omega.{arith}
use Rattle.std.specs.Prelude.{None, Option}
use Rattle.reading.specs.declared.Event.{Event}
use Rattle.reading.specs.declared.Last.{Last}
use Rattle.dash.specs.declared.Dashes.{Dashes}
use Rattle.reading.specs.Events.{event, emdash, endash}
use Rattle.reading.specs.Machine.{noting, puts}
use Rattle.reading.specs.Atoms.{row, dashes}
use Rattle.rooms.specs.declared.Parser.{Parser}
use Rattle.rooms.specs.Records.{event_at}
use Rattle.rooms.specs.Steps.{state, staying, Queued}
use Rattle.rooms.proofs.Rows.{rows-length}
use Rattle.rooms.proofs.Changing.{stepped-cursor, stepped-events, queued-as, queued-then}

-- events put, and others behind them, are put together
pub puts_then : (p r t : Parser) (ds es : List Event) (k l : Option Last) → Queued p r (staying p (puts ds k)) → Queued r t (staying r (puts es l))
    → Queued p t (staying p (puts (ds ++ es) l))
puts_then p r t ds es k l c d =
    queued-then p r _ c t _ _ d
    (rw (stepped-cursor p r (staying p (puts ds k)) c.changed.same)
    (ap (λ (q : List Event). staying p (noting q l) (state p)) (append_assoc (state p).queue ds es)))

-- a row with one more event
row-more : (kind w n at : ℕ) → row kind w (suc n) at ≡ row kind w n at ++ (event kind (at + n * w) (at + n * w + w) ∷ [])
unfolding row
row-more kind w zero at = rw (there 0) refl
  where
    there : (n : ℕ) → at + 0 * w ≡ at
    there n = omega arith
row-more kind w (suc n) at =
    ap (λ (es : List Event). event kind at (at + w) ∷ es) (row-more kind w n (at + w) ∙ rw (there n) refl)
  where
    there : (n : ℕ) → at + w + n * w ≡ at + (suc n) * w
    there n = omega (arith, suc-mul n w)

-- a row that was begun, with k events put behind those of the parser p
pub record Begun (base kind w i : ℕ) (p r : Parser) (at k : ℕ) : Type 0 where
  pub place : at ≡ i + k * w
  pub count : r.at.events ≡ p.at.events + k
  pub put : Queued p r (staying p (puts (row kind w k (base + i)) None))

module _ (base kind w i : ℕ) (p r : Parser) where
  pub begun-more : (at k : ℕ) → Begun base kind w i p r at k → (e : Event) → e ≡ event kind (base + at) (base + (at + w))
      → (t : Parser) → Queued r t (staying r (puts (e ∷ []) None)) → t.at.events ≡ r.at.events + 1 → Begun base kind w i p t (at + w) (k + 1)
  begun-more at k b e ise t q n =
      record {
        place = omega (arith, suc-mul k w, b.place);
        count = omega (arith, n, b.count);
        put = rw (add-one, row-more kind w k (base + i), ← there, ← behind, ← ise) (puts_then p r t _ (e ∷ []) None None b.put q);
      }
    where
      there : base + at ≡ base + i + k * w
      there = omega (arith, b.place)

      behind : base + (at + w) ≡ base + at + w
      behind = omega arith

-- no event of it is put yet
pub begun-first : (base kind w i : ℕ) (p r : Parser) → Queued p r (staying p (noting (state p).queue None)) → Begun base kind w i p r i 0
unfolding row
begun-first base kind w i p r q =
    record {
      place = omega arith;
      count = stepped-events p r (staying p (noting (state p).queue None)) q.changed.same ∙ rows-length event_at p.at.events p.queue.now ∙ omega arith;
      put = queued-as p r _ q _ (ap (λ (es : List Event). staying p (noting es None) (state p)) (sym (append-nil (state p).queue)));
    }

-- em dashes, then en dashes
pub dashes-put : (p r t : Parser) (d : Dashes) (base from : ℕ) → Queued p r (staying p (puts (row emdash 3 d.em (base + from)) None))
    → Queued r t (staying r (puts (row endash 2 d.en (base + (from + 3 * d.em))) None)) → Queued p t (staying p (puts (dashes d (base + from)) None))
unfolding dashes
dashes-put p r t d base from c e =
    let there : base + (from + 3 * d.em) ≡ base + from + 3 * d.em = omega arith in
    puts_then p r t (row emdash 3 d.em (base + from)) (row endash 2 d.en (base + from + 3 * d.em)) None None c (rw there at e)
