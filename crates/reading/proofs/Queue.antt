-- What the changes of the queue are to the walk: events put, one changed, the last shortened, a cut; and what each closing leaves.
use Rattle.std.specs.Prelude.{Option, Some, None}
use Prim.Native.Nat.{ℕ, zero, suc, ◌+◌, ◌-◌, ◌≤◌, ◌<◌}
use mathlib.Core.Path.{◌≡◌, refl, sym, ap, ◌∙◌, subst}
use mathlib.Core.List.{List, [], ◌∷◌, ◌++◌, map, append_assoc, map-append}
use native.Mathlib.Omega.{arith}
use lib.ListN.{length, get_or, take, set, length-append}
use lib.Seq.{take-append-add, set-append_seam, get_or_at}
use Rattle.reading.specs.Closers.{same}
use Rattle.reading.specs.declared.Closer.{Closer}
use Rattle.reading.specs.declared.Event.{Event}
use Rattle.reading.specs.declared.Opener.{Opener}
use Rattle.reading.specs.declared.Verbatim.{Verbatim}
use Rattle.reading.specs.declared.DelimEventKind.{DelimEventKind}
use Rattle.reading.specs.declared.DelimEventKind.TheVariants as makes
use Rattle.reading.specs.declared.Home.{Home}
use Rattle.reading.specs.Events.{home_of, becomes, shorter, exit_of}
use Rattle.reading.specs.Machine.{amend, amend_last}
use Rattle.reading.specs.Tokens.{closed_by, closing_of}
use Rattle.reading.specs.Containers.{seek, seek_mark}
use Rattle.reading.specs.Walked.{Walk, neither, walk_by, walk_of}
use Rattle.reading.proofs.Choose.{choose}
use Rattle.reading.proofs.Matching.{still-nil, Wraps, Plain, plain_still, plain-append, plain-take}
use Rattle.reading.proofs.Matching.{Top, LinkTop, TopBy, Parts, parts-append, parts-drop}
use Rattle.reading.proofs.Spans.{length-amend-last}

abbrev pub walks : List Event → List Walk
walks q = map walk_of q

pub walks-take : (n : ℕ) (q : List Event) → walks (take n q) ≡ take n (walks q)
walks-take zero q = refl
walks-take (suc n) [] = refl
walks-take (suc n) (e ∷ q) = ap (λ (l : List Walk). walk_of e ∷ l) (walks-take n q)

pub walks-last : (n : ℕ) (q : List Event) → walks (amend_last (shorter n) q) ≡ walks q
unfolding amend_last
walks-last n [] = refl
walks-last n (e ∷ []) = refl
walks-last n (e ∷ f ∷ q) = ap (λ (l : List Walk). walk_of e ∷ l) (walks-last n (f ∷ q))

-- one event changed, into one that walks as z
pub walks-amend : (f : Event → Event) (z : Walk) → ((e : Event) → walk_of (f e) ≡ z) → (i : ℕ) (q : List Event)
    → walks (amend f i q) ≡ set (walks q) i z
unfolding amend
walks-amend f z h i [] = refl
walks-amend f z h zero (e ∷ q) = ap (λ (x : Walk). x ∷ walks q) (h e)
walks-amend f z h (suc i) (e ∷ q) = ap (λ (l : List Walk). walk_of e ∷ l) (walks-amend f z h i q)

-- what is sought
parts-none : (w : List Walk) (os : List Opener) → Parts w os → Parts w []
parts-none w [] p = p
parts-none w (o ∷ os) p = parts-none w os (parts-drop w o os p)

parts-seek_mark : (c : Closer) (w : List Walk) (os : List Opener) → Parts w os → Parts w (seek_mark c os)
unfolding seek_mark
parts-seek_mark c w [] p = p
parts-seek_mark c w (o ∷ os) p =
    choose (Parts w) (same (closed_by o.sort) c) _ _ (λ e. p) (λ e. parts-seek_mark c w os (parts-drop w o os p))

pub parts-seek : (c : Option Closer) (w : List Walk) (os : List Opener) → Parts w os → Parts w (seek c os)
unfolding seek
parts-seek None w os p = parts-none w os p
parts-seek (Some c) w os p = parts-seek_mark c w os p

seek_mark-few : (c : Closer) (os : List Opener) → length (seek_mark c os) ≤ length os
unfolding seek_mark
seek_mark-few c [] = omega arith
seek_mark-few c (o ∷ os) =
    choose (λ (l : List Opener). length l ≤ suc (length os)) (same (closed_by o.sort) c) _ _ (λ e. omega arith) (λ e. omega (arith, seek_mark-few c os))

pub seek-few : (c : Option Closer) (os : List Opener) → length (seek c os) ≤ length os
unfolding seek
seek-few None os = omega arith
seek-few (Some c) os = seek_mark-few c os

-- a pair: the opener's event becomes x, and y is put
pub top-close : (w : List Walk) (os : List Opener) (n : ℕ) (x y : Walk) → Top (λ (p : List Walk). Parts p os) w n → Wraps x y
    → Parts (set w n x ++ (y ∷ [])) os
unfolding Wraps
top-close w os n x y t h =
    rw (t.parted, ← t.place, set-append_seam t.pre neither t.post x, append_assoc t.pre (x ∷ t.post) (y ∷ []))
    (parts-append t.pre os (x ∷ t.post ++ (y ∷ [])) t.rest (h t.post t.still))

-- a link: its `[` becomes x, its `]` becomes y, and what follows is cut
pub link-close : (w : List Walk) (os : List Opener) (m n : ℕ) (x y : Walk) → LinkTop (λ (p : List Walk). Parts p os) w m n → Wraps x y
    → Parts (take n (set (set w m x) (n - 1) y)) os
unfolding Wraps
link-close w os m n x y t h =
    subst (λ (l : List Walk). Parts l os) (sym same) (parts-append t.pre os (x ∷ t.mid ++ (y ∷ [])) t.rest (h t.mid t.inner))
  where
    front : List Walk
    front = t.pre ++ (x ∷ t.mid)

    long : length front ≡ n - 1
    long = length-append t.pre (x ∷ t.mid) ∙ omega (arith, t.second)

    first : set w m x ≡ front ++ neither ∷ neither ∷ t.post
    first =
        rw (t.parted, ← t.first)
        (set-append_seam t.pre neither (t.mid ++ neither ∷ neither ∷ t.post) x
        ∙ sym (append_assoc t.pre (x ∷ t.mid) (neither ∷ neither ∷ t.post)))

    second : set (set w m x) (n - 1) y ≡ front ++ y ∷ neither ∷ t.post
    second = rw (first, ← long) (set-append_seam front neither (neither ∷ t.post) y)

    count : n ≡ length front + 1
    count = omega (arith, long, t.second)

    same : take n (set (set w m x) (n - 1) y) ≡ t.pre ++ (x ∷ t.mid ++ (y ∷ []))
    same =
        ap (λ (l : List Walk). take n l) second
        ∙ ap (λ (k : ℕ). take k (front ++ y ∷ neither ∷ t.post)) count
        ∙ take-append-add front (y ∷ neither ∷ t.post) 1
        ∙ append_assoc t.pre (x ∷ t.mid) (y ∷ [])

-- by what the closing makes
pub parts-close : (w : List Walk) (o : Opener) (os : List Opener) (d : DelimEventKind) → closing_of o.sort ≡ d → Parts w (o ∷ os)
    → TopBy d (λ (p : List Walk). Parts p os) w o
unfolding Parts
parts-close w o os d e p = subst (λ (k : DelimEventKind). TopBy k (λ (p : List Walk). Parts p os) w o) e p

-- an opener that is no link's: its event stands alone
unfoldable pub Single : DelimEventKind → Type 0
Single (makes.Pair p) = Unit {0}
Single (makes.Span i) = Unit {0}
Single (makes.Link t) = ⊥

-- its event is put behind the queue
pub parts-open : (w : List Walk) (o : Opener) (os : List Opener) → length w ≡ o.event → Parts w os → Single (closing_of o.sort)
    → Parts (w ++ (neither ∷ [])) (o ∷ os)
unfolding Parts TopBy Single
parts-open w o os l p s = go (closing_of o.sort) s
  where
    go : (d : DelimEventKind) → Single d → TopBy d (λ (p : List Walk). Parts p os) (w ++ (neither ∷ [])) o
    go (makes.Pair q) s = record { pre = w; post = []; parted = refl; place = l; still = still-nil; rest = p }
    go (makes.Span q) s = record { pre = w; post = []; parted = refl; place = l; still = still-nil; rest = p }
    go (makes.Link q) s = absurd s

-- a link's opener n, where the span's opener stood at place m: the span's `]` and the bracket behind it are put
pub parts-link : (w : List Walk) (n : Opener) (os : List Opener) (m : ℕ) → Top (λ (p : List Walk). Parts p os) w m → n.span ≡ m
    → n.event ≡ suc (length w) → (d : DelimEventKind) → closing_of n.sort ≡ d → (Single d → ⊥)
    → Parts (w ++ (neither ∷ []) ++ (neither ∷ [])) (n ∷ os)
unfolding Parts TopBy Single
parts-link w n os m t s e (makes.Pair q) k r = absurd (r tt)
parts-link w n os m t s e (makes.Span q) k r = absurd (r tt)
parts-link w n os m t s e (makes.Link q) k r = subst (λ (d : DelimEventKind). TopBy d (λ (p : List Walk). Parts p os) (w ++ (neither ∷ []) ++ (neither ∷ [])) n) (sym k) top
  where
    long : length w ≡ length t.pre + suc (length t.post)
    long = rw t.parted (length-append t.pre (neither ∷ t.post))

    top : LinkTop (λ (p : List Walk). Parts p os) (w ++ (neither ∷ []) ++ (neither ∷ [])) n.span n.event
    top =
        record {
          pre = t.pre;
          mid = t.post;
          post = [];
          parted = append_assoc w (neither ∷ []) (neither ∷ [])
              ∙ rw t.parted (append_assoc t.pre (neither ∷ t.post) (neither ∷ neither ∷ []));
          first = t.place ∙ sym s;
          second = omega (arith, long, e);
          inner = t.still;
          still = still-nil;
          rest = t.rest;
        }

-- inside a verbatim: its enter stands at its place with events behind it that neither open nor close, and a closing run keeps the enter
pub record Inner (w : Verbatim) (q : List Event) (os : List Opener) : Type 0 where
  pub pre : List Event
  pub it : Event
  pub post : List Event
  pub parted : q ≡ pre ++ it ∷ post
  pub place : length pre ≡ w.event
  pub enters : (32 ≤ it.kind) × (it.kind < 64)
  pub wraps : Wraps (walk_of it) (walk_by (it.kind + 32) (home_of it))
  pub plain : Plain (walks post)
  pub rest : Parts (walks pre) os

-- content behind it
pub inner-put : (w v : Verbatim) (q : List Event) (os : List Opener) (e : Event) → v.event ≡ w.event → walk_of e ≡ neither → Inner w q os
    → Inner v (q ++ e ∷ []) os
unfolding Plain
inner-put w v q os e s n h =
    record {
      pre = h.pre;
      it = h.it;
      post = h.post ++ (e ∷ []);
      parted = rw h.parted (append_assoc h.pre (h.it ∷ h.post) (e ∷ []));
      place = h.place ∙ sym s;
      enters = h.enters;
      wraps = h.wraps;
      plain = rw (map-append walk_of h.post (e ∷ [])) (plain-append (walks h.post) (walk_of e ∷ []) h.plain (n, tt));
      rest = h.rest;
    }

pub inner-same : (w v : Verbatim) (q : List Event) (os : List Opener) → v.event ≡ w.event → Inner w q os → Inner v q os
inner-same w v q os s h =
    record {
      pre = h.pre;
      it = h.it;
      post = h.post;
      parted = h.parted;
      place = h.place ∙ sym s;
      enters = h.enters;
      wraps = h.wraps;
      plain = h.plain;
      rest = h.rest;
    }

-- another enter in its place
pub inner-amend : (w : Verbatim) (q : List Event) (os : List Opener) (kind : ℕ) (t : Home) → (32 ≤ kind) × (kind < 64)
    → Wraps (walk_by kind t) (walk_by (kind + 32) t) → Inner w q os → Inner w (amend (becomes kind t) w.event q) os
unfolding amend
inner-amend w q os kind t en wr h =
    record {
      pre = h.pre;
      it = becomes kind t h.it;
      post = h.post;
      parted = rw (h.parted, ← h.place) (amend-at h.pre);
      place = h.place;
      enters = en;
      wraps = wr;
      plain = h.plain;
      rest = h.rest;
    }
  where
    amend-at : (p : List Event) → amend (becomes kind t) (length p) (p ++ h.it ∷ h.post) ≡ p ++ becomes kind t h.it ∷ h.post
    amend-at [] = refl
    amend-at (e ∷ p) = ap (λ (l : List Event). e ∷ l) (amend-at p)

-- it is the event at the opener's place
pub inner-found : (w : Verbatim) (q : List Event) (os : List Opener) (d : Event) → (h : Inner w q os) → get_or q w.event d ≡ h.it
inner-found w q os d h =
    ap (λ (l : List Event). get_or l w.event d) h.parted ∙ get_or_at h.pre h.it h.post d w.event h.place

pub inner-enters : (w : Verbatim) (q : List Event) (os : List Opener) (d : Event) → Inner w q os
    → (32 ≤ (get_or q w.event d).kind) × ((get_or q w.event d).kind < 64)
inner-enters w q os d h = rw (inner-found w q os d h) h.enters

pub inner-within : (w : Verbatim) (q : List Event) (os : List Opener) → Inner w q os → w.event < length q
inner-within w q os h = omega (arith, ap (λ (l : List Event). length l) h.parted, length-append h.pre (h.it ∷ h.post), h.place)

-- the exit, behind n events of the queue, the enter among them
pub inner-exit : (w : Verbatim) (q : List Event) (os : List Opener) (n : ℕ) (d : Event) (a b : ℕ) → w.event < n → Inner w q os
    → Parts (walks (take n q ++ (exit_of (get_or q w.event d) a b ∷ []))) os
unfolding Wraps
inner-exit w q os n d a b l h =
    subst (λ (x : List Walk). Parts x os) (sym same)
    (parts-append (walks h.pre) os (walk_of h.it ∷ walks some ++ (last ∷ [])) h.rest
    (h.wraps (walks some) (plain_still (walks some) few)))
  where
    some : List Event
    some = take (n - suc w.event) h.post

    last : Walk
    last = walk_by (h.it.kind + 32) (home_of h.it)

    few : Plain (walks some)
    few = rw (walks-take (n - suc w.event) h.post) (plain-take (n - suc w.event) (walks h.post) h.plain)

    count : n ≡ length h.pre + suc (n - suc w.event)
    count = omega (arith, h.place)

    kept : take n q ≡ h.pre ++ h.it ∷ some
    kept =
        ap (λ (l : List Event). take n l) h.parted
        ∙ ap (λ (k : ℕ). take k (h.pre ++ h.it ∷ h.post)) count
        ∙ take-append-add h.pre (h.it ∷ h.post) (suc (n - suc w.event))

    same : walks (take n q ++ (exit_of (get_or q w.event d) a b ∷ [])) ≡ walks h.pre ++ (walk_of h.it ∷ walks some ++ (last ∷ []))
    same =
        ap (λ (l : List Event). walks (l ++ (exit_of (get_or q w.event d) a b ∷ []))) kept
        ∙ ap (λ (e : Event). walks ((h.pre ++ h.it ∷ some) ++ (exit_of e a b ∷ []))) (inner-found w q os d h)
        ∙ map-append walk_of (h.pre ++ h.it ∷ some) (exit_of h.it a b ∷ [])
        ∙ ap (λ (l : List Walk). l ++ (last ∷ [])) (map-append walk_of h.pre (h.it ∷ some))
        ∙ append_assoc (walks h.pre) (walk_of h.it ∷ walks some) (last ∷ [])

-- a run opens: its enter stands behind the queue
pub inner-open : (w : Verbatim) (n : ℕ) (q : List Event) (os : List Opener) (e : Event) → w.event ≡ length q → (32 ≤ e.kind) × (e.kind < 64)
    → Wraps (walk_of e) (walk_by (e.kind + 32) (home_of e)) → Parts (walks q) os → Inner w (amend_last (shorter n) q ++ e ∷ []) os
unfolding Plain
inner-open w n q os e l en h p =
    record {
      pre = amend_last (shorter n) q;
      it = e;
      post = [];
      parted = refl;
      place = length-amend-last (shorter n) q ∙ sym l;
      enters = en;
      wraps = h;
      plain = tt;
      rest = subst (λ (x : List Walk). Parts x os) (sym (walks-last n q)) p;
    }
