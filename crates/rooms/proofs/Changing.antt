-- One change after another, and what a change says of the parser's own numbers.
use Prim.Native.Nat.{ℕ, ◌+◌, ◌*◌, ◌≤◌}
use mathlib.Core.Path.{◌≡◌, refl, sym, ap, ◌∙◌}
use mathlib.Core.List.{List}
use native.Mathlib.Omega.{arith}
use Rattle.std.specs.Borrow.{MutBor}
use lib.ListN.{length}
use Rattle.lex.specs.declared.lex.Cursor.{Cursor}
use Rattle.reading.specs.Events.{queue_numbers}
use Rattle.reading.specs.Machine.{State, Turn}
use Rattle.rooms.specs.declared.Parser.{Parser}
use Rattle.rooms.specs.Records.{event_at, opener_at}
use Rattle.rooms.specs.Steps.{state, turn, Lent, Holding, Stepped, Changed, Queued, staying}
use Rattle.rooms.proofs.Rows.{rows-length, stack-length}

-- as many events as are counted
pub queue_long : (p : Parser) → length (state p).queue ≡ p.at.events
queue_long p = rows-length event_at p.at.events p.queue.now

-- and as many openers
pub openers_long : (p : Parser) → length (state p).openers ≡ p.at.openers
openers_long p = stack-length opener_at p.at.openers p.openers.now

-- the parser with so many more opener records looked at
abbrev pub looked_at : ℕ → Parser → Parser
looked_at n p =
    record {
      at = record {
        cursor = p.at.cursor;
        events = p.at.events;
        openers = p.at.openers;
        inside = p.at.inside;
        last = p.at.last;
        labels = p.at.labels;
        fits = p.at.fits;
        links = p.at.links;
        refused = p.at.refused;
        looks = p.at.looks + n;
      };
      queue = p.queue;
      openers = p.openers;
      labels = p.labels;
    }

-- the rooms are still those that were lent
pub lent-then : (p r t : Parser) → Lent p r → Lent r t → Lent p t
lent-then p r t a b =
    record {
      queue = b.queue ∙ a.queue;
      openers = b.openers ∙ a.openers;
      labels = b.labels ∙ a.labels;
      queue_length = b.queue_length ∙ a.queue_length;
      openers_length = b.openers_length ∙ a.openers_length;
      labels_length = b.labels_length ∙ a.labels_length;
    }

-- and are those of a parser with the same rooms
pub lent-as : (p r t : Parser) → Lent p r → t.queue ≡ r.queue → t.openers ≡ r.openers → t.labels ≡ r.labels → Lent p t
lent-as p r t l q o b =
    record {
      queue = ap (λ (x : MutBor (List ℕ)). x.ghost_name) q ∙ l.queue;
      openers = ap (λ (x : MutBor (List ℕ)). x.ghost_name) o ∙ l.openers;
      labels = ap (λ (x : MutBor (List ℕ)). x.ghost_name) b ∙ l.labels;
      queue_length = ap (λ (x : MutBor (List ℕ)). length x.now) q ∙ l.queue_length;
      openers_length = ap (λ (x : MutBor (List ℕ)). length x.now) o ∙ l.openers_length;
      labels_length = ap (λ (x : MutBor (List ℕ)). length x.now) b ∙ l.labels_length;
    }

module _ (p r : Parser) (f : State → Turn) where
  -- a change of the queue alone, and of the openers alone
  pub queue-step : turn r ≡ f (state p) → r.queue.ghost_name ≡ p.queue.ghost_name → length r.queue.now ≡ length p.queue.now
      → r.openers ≡ p.openers → r.labels ≡ p.labels → r.at.openers ≡ p.at.openers → r.at.labels ≡ p.at.labels → Queued p r f
  queue-step same name long os ls n k =
      record {
        changed = record {
          same = same;
          lent = record {
            queue = name;
            openers = ap (λ (x : MutBor (List ℕ)). x.ghost_name) os;
            labels = ap (λ (x : MutBor (List ℕ)). x.ghost_name) ls;
            queue_length = long;
            openers_length = ap (λ (x : MutBor (List ℕ)). length x.now) os;
            labels_length = ap (λ (x : MutBor (List ℕ)). length x.now) ls;
          };
          labels = k;
          label_room = ap (λ (x : MutBor (List ℕ)). x.now) ls;
        };
        openers = n;
        opener_room = ap (λ (x : MutBor (List ℕ)). x.now) os;
      }

  pub openers-step : turn r ≡ f (state p) → r.openers.ghost_name ≡ p.openers.ghost_name → length r.openers.now ≡ length p.openers.now
      → r.queue ≡ p.queue → r.labels ≡ p.labels → r.at.labels ≡ p.at.labels → Changed p r f
  openers-step same name long qs ls k =
      record {
        same = same;
        lent = record {
          queue = ap (λ (x : MutBor (List ℕ)). x.ghost_name) qs;
          openers = name;
          labels = ap (λ (x : MutBor (List ℕ)). x.ghost_name) ls;
          queue_length = ap (λ (x : MutBor (List ℕ)). length x.now) qs;
          openers_length = long;
          labels_length = ap (λ (x : MutBor (List ℕ)). length x.now) ls;
        };
        labels = k;
        label_room = ap (λ (x : MutBor (List ℕ)). x.now) ls;
      }

  module _ (same : turn r ≡ f (state p)) where
    -- the cursor, and the counts of records
    pub stepped-cursor : r.at.cursor ≡ (f (state p)).cursor
    stepped-cursor = ap (λ (a : Turn). a.cursor) same

    pub stepped-events : r.at.events ≡ length (f (state p)).state.queue
    stepped-events = sym (rows-length event_at r.at.events r.queue.now) ∙ ap (λ (a : Turn). length a.state.queue) same

  -- what it does, told otherwise
  pub stepped-as : Stepped p r f → (g : State → Turn) → f (state p) ≡ g (state p) → Stepped p r g
  stepped-as c g e = record { same = c.same ∙ e; lent = c.lent; labels = c.labels }

  module _ (c : Changed p r f) where
    -- the label room still holds what is counted
    pub changed-labels : p.at.labels ≤ length p.labels.now → r.at.labels ≤ length r.labels.now
    changed-labels h = rw (c.labels, c.label_room) h

    pub changed-stepped : p.at.labels ≤ length p.labels.now → Stepped p r f
    changed-stepped h = record { same = c.same; lent = c.lent; labels = changed-labels h }

    pub changed-as : (g : State → Turn) → f (state p) ≡ g (state p) → Changed p r g
    changed-as g e = record { same = c.same ∙ e; lent = c.lent; labels = c.labels; label_room = c.label_room }

    pub changed-then : (t : Parser) (g h : State → Turn) → Changed r t g → g (f (state p)).state ≡ h (state p) → Changed p t h
    changed-then t g h d e =
        record {
          same = d.same ∙ ap (λ (a : Turn). g a.state) c.same ∙ e;
          lent = lent-then p r t c.lent d.lent;
          labels = d.labels ∙ c.labels;
          label_room = d.label_room ∙ c.label_room;
        }

  module _ (c : Queued p r f) where
    pub queued-as : (g : State → Turn) → f (state p) ≡ g (state p) → Queued p r g
    queued-as g e = record { changed = changed-as c.changed g e; openers = c.openers; opener_room = c.opener_room }

    pub queued-then : (t : Parser) (g h : State → Turn) → Queued r t g → g (f (state p)).state ≡ h (state p) → Queued p t h
    queued-then t g h d e =
        record {
          changed = changed-then c.changed t g h d.changed e;
          openers = d.openers ∙ c.openers;
          opener_room = d.opener_room ∙ c.opener_room;
        }

    -- the rooms hold what is counted, if the queue's does
    pub queued-holding : r.at.events * queue_numbers ≤ length p.queue.now → Holding p → Holding r
    queued-holding e h =
        record {
          queue_held = omega (arith, e, c.changed.lent.queue_length);
          openers_held = rw (c.openers, c.opener_room) h.openers_held;
          labels_held = rw (c.changed.labels, c.changed.label_room) h.labels_held;
        }

-- a step, and a change of the queue, of another parser with the same rooms
pub lent-same : (p u : Parser) → u.queue ≡ p.queue → u.openers ≡ p.openers → u.labels ≡ p.labels → Lent p u
lent-same p u q o l =
    record {
      queue = ap (λ (x : MutBor (List ℕ)). x.ghost_name) q;
      openers = ap (λ (x : MutBor (List ℕ)). x.ghost_name) o;
      labels = ap (λ (x : MutBor (List ℕ)). x.ghost_name) l;
      queue_length = ap (λ (x : MutBor (List ℕ)). length x.now) q;
      openers_length = ap (λ (x : MutBor (List ℕ)). length x.now) o;
      labels_length = ap (λ (x : MutBor (List ℕ)). length x.now) l;
    }

-- nothing happens
pub stepped-still : (p : Parser) (f : State → Turn) → p.at.labels ≤ length p.labels.now → turn p ≡ f (state p) → Stepped p p f
stepped-still p f h e = record { same = e; lent = lent-same p p refl refl refl; labels = h }

pub queued-still : (p : Parser) (f : State → Turn) → turn p ≡ f (state p) → Queued p p f
queued-still p f e = queue-step p p f e refl refl refl refl refl refl

pub stepped-from : (p u r : Parser) (f g : State → Turn) → Stepped u r f → u.queue ≡ p.queue → u.openers ≡ p.openers → u.labels ≡ p.labels
    → f (state u) ≡ g (state p) → Stepped p r g
stepped-from p u r f g c q o l e = record { same = c.same ∙ e; lent = lent-then p u r (lent-same p u q o l) c.lent; labels = c.labels }

-- and one that leaves the label room, or the openers too
pub changed-from : (p u r : Parser) (f g : State → Turn) → Changed u r f → u.queue ≡ p.queue → u.openers ≡ p.openers → u.labels ≡ p.labels
    → u.at.labels ≡ p.at.labels → f (state u) ≡ g (state p) → Changed p r g
changed-from p u r f g c q o l k e =
    record {
      same = c.same ∙ e;
      lent = lent-then p u r (lent-same p u q o l) c.lent;
      labels = c.labels ∙ k;
      label_room = c.label_room ∙ ap (λ (x : MutBor (List ℕ)). x.now) l;
    }

pub queued-from : (p u r : Parser) (f g : State → Turn) → Queued u r f → u.queue ≡ p.queue → u.openers ≡ p.openers → u.labels ≡ p.labels
    → u.at.openers ≡ p.at.openers → u.at.labels ≡ p.at.labels → f (state u) ≡ g (state p) → Queued p r g
queued-from p u r f g c q o l n k e =
    record {
      changed = changed-from p u r f g c.changed q o l k e;
      openers = c.openers ∙ n;
      opener_room = c.opener_room ∙ ap (λ (x : MutBor (List ℕ)). x.now) o;
    }

-- a change of the queue, and other marks on the parser with the same rooms and counts
pub queued-to : (p r t : Parser) (f g : State → Turn) → Queued p r f → t.queue ≡ r.queue → t.openers ≡ r.openers → t.labels ≡ r.labels
    → t.at.openers ≡ r.at.openers → t.at.labels ≡ r.at.labels → turn t ≡ g (state p) → Queued p t g
queued-to p r t f g c q o l n k same =
    record {
      changed = record {
        same = same;
        lent = lent-as p r t c.changed.lent q o l;
        labels = k ∙ c.changed.labels;
        label_room = ap (λ (x : MutBor (List ℕ)). x.now) l ∙ c.changed.label_room;
      };
      openers = n ∙ c.openers;
      opener_room = ap (λ (x : MutBor (List ℕ)). x.now) o ∙ c.opener_room;
    }

-- one change behind another, both of which keep the cursor
module _ (p r t : Parser) (f g : State → State) where
  pub queued-on : Queued p r (staying p f) → Queued r t (staying r g) → Queued p t (staying p (λ s. g (f s)))
  queued-on c d =
      queued-then p r _ c t _ _ d (ap (λ (k : Cursor). record { cursor = k; state = g (f (state p)) }) (stepped-cursor p r (staying p f) c.changed.same))
