-- Containers: whatever a token closes or opens, the invariant holds behind it.
use Rattle.std.specs.Prelude.{None, Option, Some}
use Rattle.lex.specs.declared.lex.Token.{Token}
use Rattle.reading.specs.declared.Verbatim.{Verbatim}
use Prim.Native.Nat.{ℕ, suc, ◌+◌, ◌-◌, ◌≤◌, ◌<◌}
use mathlib.Core.Path.{◌≡◌, refl, sym, ap, ◌∙◌, subst}
use mathlib.Core.List.{List, [], ◌∷◌, ◌++◌, map-append}
use mathlib.Core.Bool.{Bool, true, false}
use native.Mathlib.Omega.{arith}
use lib.ListN.{length, take, set, length-append, length-map}
use Rattle.lex.specs.declared.lex.Cursor.{Cursor}
use Rattle.lex.specs.Lexer.{peek_of}
use Rattle.lex.proofs.Laws.{Sound, peek-kept}
use Rattle.reading.specs.declared.Event.{Event}
use Rattle.reading.specs.declared.Sort.{Sort}
use Rattle.reading.specs.declared.Opener.{Opener}
use Rattle.reading.specs.declared.Marks.{Marks}
use Rattle.reading.specs.declared.DelimEventKind.{DelimEventKind}
use Rattle.reading.specs.declared.DelimEventKind.TheVariants as makes
use Rattle.reading.specs.Events.{event, nowhere, becomes, becomes_to, enter, exit, str}
use Rattle.reading.specs.Machine.{View, Sheet, State, Here, amend, put, with_openers}
use Rattle.reading.specs.Tokens.{role_of, unclosed, closing_of, link_sort}
use Rattle.reading.specs.Labels.{Labelled}
use Rattle.reading.specs.Containers.{seek, may_close, closes_pair, takes, span_with, closes_span, labelled}
use Rattle.reading.specs.Containers.{closes_link, close_as, may_open, open_as, opens_or, tried, container}
use Rattle.reading.specs.Walked.{Walk, neither, walk_by, walk_of}
use Rattle.reading.proofs.Choose.{choose}
use Rattle.reading.proofs.Matching.{Wraps, Top, LinkTop, TopBy, Parts, parts-drop}
use Rattle.reading.proofs.Spans.{Covers, covers-append, covers-amend, covers-to, covers_one, length-amend, take-few}
use Rattle.reading.proofs.Queue.{walks, walks-take, walks-amend, parts-seek, seek-few, top-close, link-close, parts-close, Single, parts-open}
use Rattle.reading.proofs.Queue.{parts-link}
use Rattle.reading.proofs.Good.{Out, Good, GoodBy, out-put, out-openers, walk-neither}
use Rattle.reading.proofs.Tables.{KindOk, closing-ok, Low, unclosed-low, link-not-single, OpensOk, MarksOk}
use Rattle.reading.proofs.Places.{HereOk, Fine, fine-at, peek-sound, peek-place, peeked-taken}

module _ (Loose : ℕ → Type 0) (text : List ℕ) where
  pub good-out : (at n : ℕ) (s : State) → s.inside ≡ None → Out Loose text at n s → Good Loose text at n s
  unfolding GoodBy
  good-out at n s e o = subst (λ (i : Option Verbatim). GoodBy Loose text i at n s) (sym e) o

  module _ (v : View) (m : ℕ) (h : Here) (k : HereOk v h) (s : State) (no : s.inside ≡ None) (g : Out Loose text (v.base + h.from) (m + h.from) s) where
    abbrev Then : State → Type 0
    Then r = Out Loose text (v.base + h.to) (m + h.to) r

    -- the queue as the walk sees it
    size : length (walks s.queue) ≡ length s.queue
    size = length-map s.queue walk_of

    -- what stands alone
    put_then : (kind : ℕ) → Low kind → Then (put v kind h.from h.to s)
    put_then kind l =
        out-put Loose text v kind h.from h.to (m + h.from) (m + h.to) s (omega (arith, k.long)) (omega arith) g (omega (arith, k.long))

    -- an opener
    open-then : (o : Sort) → Single (closing_of o) → Then (open_as v h o s)
    open-then o si =
        let p = put_then (unclosed o) (unclosed-low o) in
        out-openers Loose text (record { sort = o; event = length s.queue; span = 0 } ∷ s.openers) (v.base + h.to) (m + h.to)
        (put v (unclosed o) h.from h.to s) p
        (rw (map-append walk_of s.queue (event (unclosed o) (v.base + h.from) (v.base + h.to) ∷ []), walk-neither Loose text (unclosed o) nowhere (omega (arith, unclosed-low o)))
        (parts-open (walks s.queue) (record { sort = o; event = length s.queue; span = 0 }) s.openers size g.parts si))
        (omega (arith, g.opens, k.long))

    opens-then : (alone : ℕ) (o : Option Sort) → Low alone → OpensOk o → Then (opens_or v h alone o s)
    unfolding opens_or OpensOk
    opens-then alone None l ok = put_then alone l
    opens-then alone (Some o) l ok = choose Then (may_open v h s o) _ _ (λ e. open-then o ok) (λ e. put_then alone l)

    opens-inside : (alone : ℕ) (o : Option Sort) → (opens_or v h alone o s).inside ≡ None
    unfolding opens_or
    opens-inside alone None = no
    opens-inside alone (Some o) = choose (λ (t : State). t.inside ≡ None) (may_open v h s o) _ _ (λ e. no) (λ e. no)

    -- closing, with the found opener o and the older ones os
    module _ (o : Opener) (os : List Opener) (p : Parts (walks s.queue) (o ∷ os)) (few : suc (length os) ≤ length s.openers) where
      pair_then : (first second : ℕ) → Wraps (walk_by first nowhere) (walk_by second nowhere) → Top (λ (w : List Walk). Parts w os) (walks s.queue) o.event
          → Then (closes_pair v h first second o (with_openers os s))
      pair_then first second w t =
          record {
            covers =
                covers-append Loose 0 (amend (becomes first nowhere) o.event s.queue) (v.base + h.from) (e ∷ []) (v.base + h.to)
                (covers-amend Loose first nowhere o.event 0 s.queue (v.base + h.from) g.covers)
                (covers_one Loose e (omega (arith, k.long)));
            parts =
                rw (map-append walk_of (amend (becomes first nowhere) o.event s.queue) (e ∷ []), walks-amend (becomes first nowhere) (walk_by first nowhere) (λ x. refl) o.event s.queue)
                (top-close (walks s.queue) os o.event (walk_by first nowhere) (walk_by second nowhere) t w);
            few =
                omega (
                  arith,
                  length-append (amend (becomes first nowhere) o.event s.queue) (e ∷ []),
                  length-amend (becomes first nowhere) o.event s.queue,
                  g.few,
                  k.long,
                );
            opens = omega (arith, few, g.opens, k.long);
            last = tt;
          }
        where
          e : Event
          e = event second (v.base + h.from) (v.base + h.to)

      link-then : (c : ℕ) (l : Labelled) → Wraps (walk_by (enter c) l.home) (walk_by (exit c) l.home)
          → LinkTop (λ (w : List Walk). Parts w os) (walks s.queue) o.span o.event
          → Then (closes_link c l v h o (with_openers os s))
      link-then c l w t =
          record {
            covers = subst (λ (n : ℕ). Covers Loose 0 (take n (amend last (o.event - 1) q)) (v.base + h.to)) (sym count)
                (covers-to Loose (exit c) l.home (o.event - 1) 0 q (v.base + h.from) (v.base + h.to) within (omega (arith, k.long))
                (covers-amend Loose (enter c) l.home o.span 0 s.queue (v.base + h.from) g.covers));
            parts = subst (λ (x : List Walk). Parts x os) (sym same)
                (link-close (walks s.queue) os o.span o.event (walk_by (enter c) l.home) (walk_by (exit c) l.home) t w);
            few = omega (arith, take-few o.event (amend last (o.event - 1) q), length-amend last (o.event - 1) q, long, g.few, k.long);
            opens = omega (arith, few, g.opens, k.long);
            last = tt;
          }
        where
          last : Event → Event
          last = becomes_to (exit c) l.home (v.base + h.to)

          q : List Event
          q = amend (becomes (enter c) l.home) o.span s.queue

          long : length q ≡ length s.queue
          long = length-amend (becomes (enter c) l.home) o.span s.queue

          count : o.event ≡ suc (o.event - 1)
          count = omega (arith, t.second)

          whole : length (walks s.queue) ≡ length t.pre + suc (length t.mid + suc (suc (length t.post)))
          whole =
              ap (λ (x : List Walk). length x) t.parted
              ∙ length-append t.pre (neither ∷ (t.mid ++ neither ∷ neither ∷ t.post))
              ∙ omega (arith, length-append t.mid (neither ∷ neither ∷ t.post))

          within : o.event - 1 < length q
          within = omega (arith, long, size, whole, t.second)

          same : walks (take o.event (amend last (o.event - 1) q))
              ≡ take o.event (set (set (walks s.queue) o.span (walk_by (enter c) l.home)) (o.event - 1) (walk_by (exit c) l.home))
          same =
              walks-take o.event (amend last (o.event - 1) q)
              ∙ ap (λ (x : List Walk). take o.event x) (walks-amend last (walk_by (exit c) l.home) (λ x. refl) (o.event - 1) q)
              ∙ ap (λ (x : List Walk). take o.event (set x (o.event - 1) (walk_by (exit c) l.home)))
              (walks-amend (becomes (enter c) l.home) (walk_by (enter c) l.home) (λ x. refl) o.span s.queue)

      -- the state with the older openers
      abbrev rest : State
      rest = with_openers os s

      down : Parts (walks s.queue) os
      down = parts-drop (walks s.queue) o os p

      below : Out Loose text (v.base + h.from) (m + h.from) rest
      below = out-openers Loose text os (v.base + h.from) (m + h.from) s g down (omega (arith, few, g.opens))

      left-then : Then (put v str h.from h.to rest)
      left-then =
          out-put Loose text v str h.from h.to (m + h.from) (m + h.to) rest (omega (arith, k.long)) (omega arith) below (omega (arith, k.long))

      -- the `]`, and a bracket of n bytes with it
      taken_then : (image inline : Bool) (n : ℕ) → 1 ≤ n → Top (λ (w : List Walk). Parts w os) (walks s.queue) o.event
          → Out Loose text (v.base + (h.to + n)) (m + (h.to + n))
          (put v str h.to (h.to + n)
          (with_openers (record { sort = link_sort image inline; event = suc (length s.queue); span = o.event } ∷ os) (put v str h.from h.to rest)))
      taken_then image inline n l t =
          out-openers Loose text (new ∷ os) (v.base + (h.to + n)) (m + (h.to + n)) both
          (out-put Loose text v str h.to (h.to + n) (m + h.to) (m + (h.to + n)) one (omega arith) (omega arith) left-then (omega arith))
          (subst (λ (x : List Walk). Parts x (new ∷ os)) (sym same)
          (parts-link (walks s.queue) new os o.event t refl (ap suc (sym size)) (closing_of (link_sort image inline)) refl (link-not-single image inline)))
          (omega (arith, few, g.opens, k.long))
        where
          new : Opener
          new = record { sort = link_sort image inline; event = suc (length s.queue); span = o.event }

          one : State
          one = put v str h.from h.to rest

          both : State
          both = put v str h.to (h.to + n) one

          same : walks both.queue ≡ walks s.queue ++ (neither ∷ []) ++ (neither ∷ [])
          same =
              map-append walk_of one.queue (event str (v.base + h.to) (v.base + (h.to + n)) ∷ [])
              ∙ ap (λ (x : List Walk). x ++ (walk_by str nowhere ∷ [])) (map-append walk_of s.queue (event str (v.base + h.from) (v.base + h.to) ∷ []))
              ∙ ap (λ (x : Walk). walks s.queue ++ (x ∷ []) ++ (x ∷ [])) (walk-neither Loose text str nowhere (omega arith))

      -- a peek behind the closing token
      behind : Cursor
      behind = (peek_of v.bytes h.cursor).cursor

      behind-sound : Sound v.bytes (peek_of v.bytes h.cursor).cursor
      behind-sound = peek-sound v.bytes h.cursor k.sound

      behind-place : (peek_of v.bytes h.cursor).cursor.pos ≡ h.to
      behind-place = peek-place v.bytes h.cursor h.to k.place

      span-fine : (image : Bool) → Top (λ (w : List Walk). Parts w os) (walks s.queue) o.event → (c : Cursor) (t : Option Token) → c.pos ≡ h.to → Sound v.bytes c
          → c.next ≡ t → Fine Loose text v m (suc h.from) (closes_span v h image o c t rest)
      unfolding closes_span span_with takes
      span-fine image top c None e so n = fine-at Loose text v m (suc h.from) h.to (omega (arith, k.long)) c _ so e (good-out _ _ _ no left-then)
      span-fine image top c (Some t) e so n = go (takes (role_of t.kind))
        where
          go : (b : Option Bool) → Fine Loose text v m (suc h.from) (span_with v h image o c t.len b rest)
          go None = fine-at Loose text v m (suc h.from) h.to (omega (arith, k.long)) c _ so e (good-out _ _ _ no left-then)
          go (Some inline) =
              let u = peeked-taken v.bytes c t so n in
              fine-at Loose text v m (suc h.from) (h.to + t.len) (omega (arith, k.long)) _ _ u.sound (u.place ∙ ap (λ (j : ℕ). j + t.len) e)
              (good-out _ _ _ no (taken_then image inline t.len u.long top))

      close-fine : (x : Sheet) (d : DelimEventKind) → closing_of o.sort ≡ d → KindOk d → Fine Loose text v m (suc h.from) (close_as x v h o d rest)
      unfolding close_as KindOk TopBy
      close-fine x (makes.Pair q) e ok =
          fine-at Loose text v m (suc h.from) h.to (omega (arith, k.long)) _ _ behind-sound behind-place
          (good-out _ _ _ no (pair_then q.first q.second ok.0 (parts-close (walks s.queue) o os (makes.Pair q) e p)))
      close-fine x (makes.Span image) e ok =
          span-fine image (parts-close (walks s.queue) o os (makes.Span image) e p) _ _ behind-place behind-sound
          (peek-kept v.bytes h.cursor).held
      close-fine x (makes.Link t) e ok =
          fine-at Loose text v m (suc h.from) h.to (omega (arith, k.long)) _ _ behind-sound behind-place
          (good-out _ _ _ no
          (link-then t.container (labelled x v h t.inline o rest) (ok.1 _) (parts-close (walks s.queue) o os (makes.Link t) e p)))

    alone-fine : (mk : Marks) → MarksOk mk → Fine Loose text v m (suc h.from) (record { cursor = h.cursor; state = opens_or v h mk.alone mk.opens s })
    alone-fine mk ok =
        fine-at Loose text v m (suc h.from) h.to (omega (arith, k.long)) h.cursor _ k.sound k.place
        (good-out _ _ _ (opens-inside mk.alone mk.opens) (opens-then mk.alone mk.opens ok.0 ok.1))

    tried-fine : (x : Sheet) (mk : Marks) → MarksOk mk → (os : List Opener) → Parts (walks s.queue) os → length os ≤ length s.openers
        → Fine Loose text v m (suc h.from) (tried x v h mk os s)
    unfolding tried
    tried-fine x mk ok [] p l = alone-fine mk ok
    tried-fine x mk ok (o ∷ os) p l = go (may_close v h s o) refl
      where
        go : (b : Bool) → may_close v h s o ≡ b → Fine Loose text v m (suc h.from) (tried x v h mk (o ∷ os) s)
        go true e = rw (e, tried) (close-fine o os p l x (closing_of o.sort) refl (closing-ok o.sort))
        go false e = rw (e, tried) (alone-fine mk ok)

    pub container-fine : (x : Sheet) (mk : Marks) → MarksOk mk → Fine Loose text v m (suc h.from) (container x v h mk s)
    container-fine x mk ok =
        tried-fine x mk ok (seek mk.closes s.openers) (parts-seek mk.closes (walks s.queue) s.openers g.parts)
        (seek-few mk.closes s.openers)
