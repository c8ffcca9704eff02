-- The loop over the events: what is left to write, and what comes of it.
use Rattle.std.specs.Prelude.{ℕ, ◌≡◌, ◌+◌, ◌/◌, ◌≤◌, ◌<◌, List, ◌++◌, Bool, true, false, length, take, drop, Option, Some, None, is_some, is_none, Ok, Err, refl}
use Rattle.std.proofs.Common.{sym, ap, ◌∙◌, arith, append_assoc, append-nil, length-append}
use borrow.Author.Tests.{le-leb, lt-leb}
use lib.Seq.{length-take-le}
use Rattle.reading.specs.declared.Located.{Located}
use Rattle.reading.specs.Events.{event_numbers}
use Rattle.rooms.proofs.Rows.{rows-length}
use Rattle.listing.specs.Listing.{record_at}
use Rattle.listing.proofs.Listed.{rows-end}
use Rattle.output.specs.declared.Output.{Output}
use Rattle.output.specs.Written.{Adds}
use Rattle.groups.specs.Groups.{spelled, spelled_all}
use Rattle.groups.proofs.Numbers.{spelled-append}
use Rattle.packing.specs.Packed.{largest, fields, fields_all, packed, Flawed, flaw_of, first_flaw}
use Rattle.packing.proofs.Lists.{first-none}
use Rattle.encoder.specs.declared.PutError.TheVariants as put
use Rattle.encoder.specs.Encoding.{whole, put_as}
use Rattle.encoder.proofs.Judging.{flaw-from, flaw-end, flaw-here, flaw-later, next_event}

-- the bytes of a list are those that stand written and those that are left; or they are more than
-- the room holds
pub record Stands (room : List ℕ) (all : List ℕ) (o : Output) (left : List ℕ) (fits : Bool) : Type 0 where
  pub whole : fits ≡ true → take o.at o.room.now ++ left ≡ all
  pub over : fits ≡ false → length room < length all
  pub size : length o.room.now ≡ length room

module _ {room all : List ℕ} {o o' : Output} (a left : List ℕ) (r : Option (Unit {0})) (w : Adds o a r o') where
  -- some of them are written
  pub stands-more : Stands room all o (a ++ left) true → Stands room all o' left (is_some r)
  stands-more s = by r w
    where
      by : (r : Option (Unit {0})) → Adds o a r o' → Stands room all o' left (is_some r)
      by (Some u) w =
          record {
            whole = λ t. ap (λ (l : List ℕ). l ++ left) w.wrote ∙ append_assoc (take o.at o.room.now) a left ∙ s.whole refl;
            over = λ t. cc;
            size = w.size ∙ s.size;
          }
      by None w =
          record {
            whole = λ t. cc;
            over = λ t. omega (arith, w.full refl, ap length (s.whole refl), s.size, length-take-le o.at o.room.now o.within, length-append (take o.at o.room.now) (a ++ left), length-append a left);
            size = w.size ∙ s.size;
          }

-- at the head of the loop no flaw is met in the first i events
pub record Puts (events room : List ℕ) (o₀ o : Output) (i prev : ℕ) (fits : Bool) : Type 0 where
  pub flaws : first_flaw 0 0 (whole events) ≡ flaw-from events i prev
  pub stands : first_flaw 0 0 (whole events) ≡ None → Stands room (packed (whole events)) o (spelled_all (fields_all prev (drop i (whole events)))) fits
  pub lent : o.room.ghost_name ≡ o₀.room.ghost_name

module _ (events : List ℕ) where
  abbrev n : ℕ
  n = length events / event_numbers

  abbrev es : List Located
  es = whole events

  -- the count is written, or is more than can be
  module _ {room : List ℕ} (start : Output) (held : start.room.now ≡ room) (at : start.at ≡ 0) where
    pub puts-counted : (r : Option (Unit {0})) (o : Output) → Adds start (spelled n) r o → Puts events room o o 0 0 (is_some r)
    unfolding spelled_all
    puts-counted r o w =
        record {
          flaws = refl;
          stands = λ e. stands-more (spelled n) (spelled_all (fields_all 0 es)) r w
              (record { whole = λ t. rw (at) (ap (λ (k : ℕ). spelled k ++ spelled_all (fields_all 0 es)) (sym (rows-length record_at n events))); over = λ t. cc; size = ap length held });
          lent = refl;
        }

    pub puts-many : largest < n → Puts events room start start 0 0 false
    puts-many h =
        record {
          flaws = refl;
          stands = λ e. absurd (omega (arith, (first-none 0 0 es (omega arith) e).1, rows-length record_at n events));
          lent = refl;
        }

  module _ {room : List ℕ} {o₀ o : Output} {i prev : ℕ} {fits : Bool} (p : Puts events room o₀ o i prev fits) where
    -- an event more
    module _ (h : i < n) (e : Located) (is : e ≡ record_at events i) where
      pub puts-flaw : (bytes size : ℕ) → is_none (flaw_of i prev e.event) ≡ false → Err (put.Flaw i) ≡ put_as (first_flaw 0 0 es) bytes size
      puts-flaw bytes size s = sym (ap (λ (f : Flawed). put_as f bytes size) p.flaws ∙ flaw-here events i prev h e is bytes size s)

      module _ (s : is_none (flaw_of i prev e.event) ≡ true) where
        left : spelled_all (fields_all prev (drop i es)) ≡ spelled_all (fields prev e) ++ spelled_all (fields_all e.event.end.0 (drop (i + 1) es))
        unfolding fields_all
        left = ap (λ (l : List Located). spelled_all (fields_all prev l)) (next_event events i prev h e is) ∙ spelled-append (fields prev e) (fields_all e.event.end.0 (drop (i + 1) es))

        pub puts-more : (r : Option (Unit {0})) (o' : Output) → fits ≡ true → Adds o (spelled_all (fields prev e)) r o' → Puts events room o₀ o' (i + 1) e.event.end.0 (is_some r)
        puts-more r o' t w =
            record {
              flaws = p.flaws ∙ flaw-later events i prev h e is s;
              stands = λ f. stands-more (spelled_all (fields prev e)) (spelled_all (fields_all e.event.end.0 (drop (i + 1) es))) r w (rw (t, left) at (p.stands f));
              lent = w.lent ∙ p.lent;
            }

        pub puts-less : fits ≡ false → Puts events room o₀ o (i + 1) e.event.end.0 false
        puts-less t =
            record {
              flaws = p.flaws ∙ flaw-later events i prev h e is s;
              stands = λ f. record { whole = λ z. cc; over = λ z. (p.stands f).over t; size = (p.stands f).size };
              lent = p.lent;
            }

    -- none is left
    module _ (h : n ≤ i) where
      sound : first_flaw 0 0 es ≡ None
      sound = p.flaws ∙ flaw-end events i prev h

      pub puts_all : fits ≡ true → take o.at o.room.now ≡ packed es
      unfolding fields_all spelled_all
      puts_all t =
          sym (append-nil (take o.at o.room.now))
          ∙ ap (λ (l : List Located). take o.at o.room.now ++ spelled_all (fields_all prev l)) (sym (rows-end record_at events n i h))
          ∙ (p.stands sound).whole t

      pub puts-count : fits ≡ true → Ok o.at ≡ put_as (first_flaw 0 0 es) (length (packed es)) (length room)
      unfolding put_as
      puts-count t =
          let count : o.at ≡ length (packed es) = omega (arith, ap length (puts_all t), length-take-le o.at o.room.now o.within) in
          ap Ok count
          ∙ sym (ap (λ (f : Flawed). put_as f (length (packed es)) (length room)) sound ∙ rw (le-leb (length (packed es)) (length room) (omega (arith, count, o.within, (p.stands sound).size)), put_as))

      pub puts-full : fits ≡ false → Err put.Full ≡ put_as (first_flaw 0 0 es) (length (packed es)) (length room)
      unfolding put_as
      puts-full t = sym (ap (λ (f : Flawed). put_as f (length (packed es)) (length room)) sound ∙ rw (lt-leb (length (packed es)) (length room) ((p.stands sound).over t), put_as))
