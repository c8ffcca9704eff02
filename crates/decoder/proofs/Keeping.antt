-- The loop over the events: those that were read, and those that are left.
use Rattle.std.proofs.lemmas.Bool.Decides.{nat_tests}
use Rattle.std.specs.Prelude.{ℕ, suc, ◌≡◌, ◌+◌, ◌-◌, ◌*◌, ◌≤◌, ◌<◌, List, [], ◌∷◌, ◌++◌, Bool, true, false, leb, length, Result, Ok, Err, refl}
use Rattle.std.proofs.Common.{sym, ap, ◌∙◌, append_assoc, append-nil, arith}
use native.Mathlib.Numerals.{add-one}
use borrow.Author.Tests.{leb-true, le-leb, lt-leb}
use lib.ListN.{length-append}
use lib.Seq.{sets}
use Rattle.reading.specs.declared.Located.{Located}
use Rattle.reading.specs.Events.{event_numbers}
use Rattle.reading.specs.Questions.{numbers}
use Rattle.rooms.specs.Rows.{rows}
use Rattle.listing.specs.Listing.{records}
use Rattle.listing.proofs.Listed.{records-stored}
use Rattle.packing.specs.declared.Fault.TheVariants.{Rest}
use Rattle.packing.specs.declared.FaultAt.{FaultAt}
use Rattle.packing.specs.Unpacked.{Got, on, pure, if_sound, a_number, event_from, events_from, at_end, unpacked}
use Rattle.decoder.specs.declared.Input.{Input}
use Rattle.decoder.specs.Decoding.{came, Read, kept, holding, held}

-- events behind others
unfoldable pub onto : List Located → Got (List Located) → Got (List Located)
onto ds (Ok (es, next)) = Ok (ds ++ es, next)
onto ds (Err e) = Err e

onto-none : (g : Got (List Located)) → onto [] g ≡ g
unfolding onto
onto-none (Ok (es, next)) = refl
onto-none (Err e) = refl

onto-more : (ds : List Located) (e : Located) (g : Got (List Located)) → onto ds (on (λ es. pure (e ∷ es)) g) ≡ onto (ds ++ (e ∷ [])) g
unfolding onto on
onto-more ds e (Ok (es, next)) = ap (λ (l : List Located). Ok (l, next)) (sym (append_assoc ds (e ∷ []) es))
onto-more ds e (Err w) = refl

-- at the head of the loop the events ds were read of n, and stand in a room that holds so many
pub record Seen (bytes : List ℕ) (n size : ℕ) (room : List ℕ) (input : Input) (prev i : ℕ) : Type 0 where
  pub ds : List Located
  pub count : length ds ≡ i
  pub stands : n ≤ size → records i room ≡ ds
  pub lent : input.bytes.now ≡ bytes
  pub same : unpacked bytes ≡ on (at_end bytes) (onto ds (events_from bytes (n - i) prev input.at))

-- the count is read
module _ {input input' : Input} {r : Result ℕ FaultAt} (x : Read input a_number r input') (start : input.at ≡ 0) where
  here : a_number input.bytes.now 0 ≡ came r input'.at
  here = ap (a_number input.bytes.now) (sym start) ∙ sym x.same

  pub count_fault : (size : ℕ) (room : List ℕ) (w : FaultAt) → r ≡ Err w → held size (Err w) room ≡ holding size (unpacked input.bytes.now)
  unfolding on held holding
  count_fault size room w e = sym (ap (λ g. holding size (on (λ n. λ to. on (at_end input.bytes.now) (events_from input.bytes.now n 0 to)) g)) (here ∙ ap (λ r. came r input'.at) e))

  pub seen_first : (n size : ℕ) (room : List ℕ) → r ≡ Ok n → Seen input.bytes.now n size room input' 0 0
  unfolding on rows
  seen_first n size room e =
      let all : n - 0 ≡ n = omega arith in
      record {
        ds = [];
        count = refl;
        stands = λ k. refl;
        lent = ap (λ b. b.now) x.bytes;
        same = ap (on (λ n. λ to. on (at_end input.bytes.now) (events_from input.bytes.now n 0 to))) (here ∙ ap (λ r. came r input'.at) e)
            ∙ ap (on (at_end input.bytes.now)) (sym ((λ t. onto [] (events_from input.bytes.now (all t) 0 input'.at)) ∙ onto-none (events_from input.bytes.now n 0 input'.at)));
      }

module _ {bytes : List ℕ} {n size : ℕ} {room : List ℕ} {input : Input} {prev i : ℕ} (s : Seen bytes n size room input prev i) where
  -- none are left
  module _ (h : n ≡ i) where
    there : unpacked bytes ≡ at_end bytes s.ds input.at
    unfolding on events_from onto
    there =
        let z : n - i ≡ 0 = omega arith in
        s.same
        ∙ ap (λ (k : ℕ). on (at_end bytes) (onto s.ds (events_from bytes k prev input.at))) z
        ∙ ap (λ (l : List Located). at_end bytes l input.at) (append-nil s.ds)

    pub seen-rest : input.at < length bytes → held size (Err (record { fault = Rest; place = input.at })) room ≡ holding size (unpacked bytes)
    unfolding if_sound held holding
    seen-rest l = sym (ap (holding size) (there ∙ ap (λ (t : Bool). if_sound t Rest input.at s.ds input.at) (lt-leb (length bytes) input.at l)))

    pub seen_all : length bytes ≤ input.at → held size (Ok n) room ≡ holding size (unpacked bytes)
    unfolding if_sound holding held kept
    seen_all l =
        by (leb n size) refl
        ∙ (λ t. Ok (count t, kept (leb (count t) size) s.ds))
        ∙ sym (ap (holding size) (there ∙ ap (λ (t : Bool). if_sound t Rest input.at s.ds input.at) (le-leb (length bytes) input.at l)))
      where
        count : n ≡ length s.ds
        count = omega (arith, s.count)

        by : (t : Bool) → leb n size ≡ t → held size (Ok n) room ≡ Ok (n, kept (leb n size) s.ds)
        by true t = rw (t, held, kept) (ap (λ (l : List Located). Ok (n, l)) (ap (λ (j : ℕ). records j room) h ∙ s.stands (leb-true n size t)))
        by false t = rw (t, held, kept)

  -- one is
  module _ (h : i < n) {r : Result Located FaultAt} {input' : Input} (x : Read input (λ bs. event_from bs prev) r input') where
    abbrev behind : Located → ℕ → Got (List Located)
    behind e to = on (λ es. pure (e ∷ es)) (events_from bytes (n - (i + 1)) e.event.end.0 to)

    more : unpacked bytes ≡ on (at_end bytes) (onto s.ds (on behind (came r input'.at)))
    unfolding events_from
    more = grind (arith, nat_tests)

    pub seen-fault : (w : FaultAt) → r ≡ Err w → held size (Err w) room ≡ holding size (unpacked bytes)
    unfolding on onto held holding
    seen-fault w e = sym (ap (holding size) (more ∙ ap (λ r. on (at_end bytes) (onto s.ds (on behind (came r input'.at)))) e))

    -- the room with the event as the i-th, if it is kept
    pub seen_more : (e : Located) (room' : List ℕ) → r ≡ Ok e
        → (n ≤ size → (room' ≡ sets room (i * event_numbers) (numbers (e ∷ []))) × (i * event_numbers + event_numbers ≤ length room))
        → Seen bytes n size room' input' e.event.end.0 (i + 1)
    unfolding on
    seen_more e room' q k =
        record {
          ds = s.ds ++ (e ∷ []);
          count = omega (arith, length-append s.ds (e ∷ []), s.count);
          stands = λ t.
              ap (λ (j : ℕ). records j room') (add-one i)
              ∙ ap (records (suc i)) (k t).0
              ∙ records-stored room i e (k t).1
              ∙ ap (λ (es : List Located). es ++ (e ∷ [])) (s.stands t);
          lent = ap (λ b. b.now) x.bytes ∙ s.lent;
          same = more
              ∙ ap (λ r. on (at_end bytes) (onto s.ds (on behind (came r input'.at)))) q
              ∙ ap (on (at_end bytes)) (onto-more s.ds e (events_from bytes (n - (i + 1)) e.event.end.0 input'.at));
        }
