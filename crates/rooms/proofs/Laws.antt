-- The laws of events in a room: after a push, and after another event at one place.
use Prim.Native.Nat.{ℕ, zero, suc, ◌+◌, ◌*◌, ◌≤◌, ◌<◌}
use mathlib.Core.Path.{◌≡◌, refl, sym, ap, ◌∙◌}
use mathlib.Core.List.{List, [], ◌∷◌, ◌++◌}
use native.Mathlib.Nat.{add-zero}
use native.Mathlib.Decide.{ℕ_discrete, dec_lt}
use native.Mathlib.Omega.{arith}
use lib.ListN.{length, get_or, set, length-set}
use lib.Seq.{sets, ext_get_or, get_or-set_same, get_or-set_other}
use Rattle.reading.specs.declared.Event.{Event}
use Rattle.reading.specs.Machine.{amend}
use Rattle.reading.specs.Questions.{record_of}
use Rattle.reading.proofs.Ends.{amend-out}
use Rattle.rooms.specs.Records.{event_at, events}
use Rattle.rooms.proofs.Rows.{rows-length, rows_same, rows_at, rows_more, sets-before, sets-after, sets-at}

-- `amend` within a list
module _ (f : Event → Event) where
  amend-set : (l : List Event) (i : ℕ) (d : Event) → i < length l → amend f i l ≡ set l i (f (get_or l i d))
  unfolding amend
  amend-set [] i d h = absurd (omega arith)
  amend-set (r ∷ rs) zero d h = refl
  amend-set (r ∷ rs) (suc i) d h = ap {B = List Event} (λ l. r ∷ l) (amend-set rs i d (omega arith))

  -- another event at place i
  rows-amend : (n : ℕ) (a b : List ℕ) (i : ℕ) → event_at b i ≡ f (event_at a i)
      → ((j : ℕ) → (j ≡ i → ⊥) → event_at b j ≡ event_at a j)
      → events n b ≡ amend f i (events n a)
  rows-amend n a b i here same = go (dec_lt i n)
    where
      at : (j : ℕ) → j < n → i < n → Dec (j ≡ i)
          → get_or (events n b) j (event_at b i) ≡ get_or (set (events n a) i (f (get_or (events n a) i (event_at b i)))) j (event_at b i)
      at j l h (yes e) =
          rw (e, rows_at event_at n b i (event_at b i) h, rows_at event_at n a i (event_at b i) h)
          (here ∙ sym (get_or-set_same (events n a) i (f (event_at a i)) (event_at b i) (omega (arith, rows-length event_at n a))))
      at j l h (no ne) =
          rows_at event_at n b j (event_at b i) l
          ∙ same j ne
          ∙ sym (get_or-set_other (events n a) i j _ (event_at b i) ne ∙ rows_at event_at n a j (event_at b i) l)

      go : Dec (i < n) → events n b ≡ amend f i (events n a)
      go (yes h) =
          rw (amend-set (events n a) i (event_at b i) (omega (arith, rows-length event_at n a)))
          (ext_get_or (event_at b i) (events n b) (set (events n a) i (f (get_or (events n a) i (event_at b i))))
          (simp (length-set, rows-length))
          (λ j l. at j (omega (arith, rows-length event_at n b)) h (ℕ_discrete j i)))
      go (no h) =
          rows_same event_at n b a (λ j l. same j (omega arith))
          ∙ sym (amend-out f i (events n a) (omega (arith, rows-length event_at n a)))

-- two rooms with the same eight numbers at place i
same-event : (a b : List ℕ) (i : ℕ) → ((k : ℕ) → i * 8 ≤ k → k < i * 8 + 8 → get_or a k 0 ≡ get_or b k 0) → event_at a i ≡ event_at b i
same-event a b i h =
    λ t. record {
      kind = h (i * 8) (omega arith) (omega arith) t;
      start = record { 0 = h (i * 8 + 1) (omega arith) (omega arith) t };
      end = record { 0 = h (i * 8 + 2) (omega arith) (omega arith) t };
      home = h (i * 8 + 3) (omega arith) (omega arith) t;
      home_start = record { 0 = h (i * 8 + 4) (omega arith) (omega arith) t };
      home_end = record { 0 = h (i * 8 + 5) (omega arith) (omega arith) t };
      link = record { 0 = h (i * 8 + 6) (omega arith) (omega arith) t };
    }

module _ (room : List ℕ) (n : ℕ) (e : Event) (fits : n * 8 + 8 ≤ length room) where
  -- an event that was stored is read back
  stored : event_at (sets room (n * 8) (record_of e)) n ≡ e
  stored =
      λ t. record {
        kind = first t;
        start = record { 0 = at 1 (omega arith) t };
        end = record { 0 = at 2 (omega arith) t };
        home = at 3 (omega arith) t;
        home_start = record { 0 = at 4 (omega arith) t };
        home_end = record { 0 = at 5 (omega arith) t };
        link = record { 0 = at 6 (omega arith) t };
      }
    where
      at : (k : ℕ) → k < 7 → get_or (sets room (n * 8) (record_of e)) (n * 8 + k) 0 ≡ get_or (record_of e) k 0
      at k h = sets-at room (n * 8) (record_of e) k h (omega (arith, fits))

      first : get_or (sets room (n * 8) (record_of e)) (n * 8) 0 ≡ e.kind
      first = rw add-zero at (at 0 (omega arith))

  -- stores past the first n events leave them
  pub pushed : events (suc n) (sets room (n * 8) (record_of e)) ≡ events n room ++ (e ∷ [])
  pushed =
      rows_more event_at n room (sets room (n * 8) (record_of e))
      (λ i l. same-event (sets room (n * 8) (record_of e)) room i (λ k lo hi. sets-before room (n * 8) (record_of e) k (omega arith)))
      ∙ ap (λ (x : Event). events n room ++ (x ∷ [])) stored

  -- stores over one event leave the others
  pub replaced : (f : Event → Event) → e ≡ f (event_at room n) → (m : ℕ)
      → events m (sets room (n * 8) (record_of e)) ≡ amend f n (events m room)
  replaced f is m =
      rows-amend f m room (sets room (n * 8) (record_of e)) n (stored ∙ is)
      (λ j ne. same-event (sets room (n * 8) (record_of e)) room j (λ k lo hi. apart k (dec_lt k (n * 8)) (omega arith)))
    where
      apart : (k : ℕ) → Dec (k < n * 8) → (n * 8 ≤ k → n * 8 + 8 ≤ k) → get_or (sets room (n * 8) (record_of e)) k 0 ≡ get_or room k 0
      apart k (yes h) far = sets-before room (n * 8) (record_of e) k h
      apart k (no h) far = sets-after room (n * 8) (record_of e) k (omega (arith, far (omega arith)))
