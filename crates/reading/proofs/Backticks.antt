-- Verbatim: the invariant behind a run that opens, content, dropped blanks and a run that closes; and what is dropped is blank.
use Rattle.std.specs.Prelude.{None, Option, Some}
use Prim.Native.Nat.{ℕ, zero, suc, ◌+◌, ◌-◌, ◌≤◌, ◌<◌}
use mathlib.Core.Path.{◌≡◌, refl, sym, ap, ◌∙◌, subst}
use mathlib.Core.List.{List, [], ◌∷◌, ◌++◌, map, map-append}
use mathlib.Core.Bool.{Bool, true, false, ◌&&◌, and-eq-true_iff}
use mathlib.Core.Logic.{◌⊎◌, inl, inr, ⊎_elim}
use native.Mathlib.Omega.{arith}
use borrow.Author.Tests.{eqb-true}
use lib.Dec.{eqb}
use lib.ListN.{length, get_or, drop, length-append, length-drop, drop_of_length-le}
use lib.Seq.{take_all, drop-append-le, length-take-le, get_or-take, get_or-drop}
use Rattle.classes.specs.Classes.{blank}
use Rattle.lex.specs.declared.lex.Token.{Token}
use Rattle.lex.specs.declared.lex.Cursor.{Cursor}
use Rattle.lex.specs.Lexer.{peek_of}
use Rattle.lex.proofs.Laws.{Sound, fresh-sound}
use Rattle.scan.proofs.Laws.{raw-format-some}
use Rattle.reading.specs.declared.Line.{Line}
use Rattle.reading.specs.declared.Event.{Event}
use Rattle.reading.specs.declared.Last.{Last}
use Rattle.reading.specs.declared.Opener.{Opener}
use Rattle.reading.specs.declared.Verbatim.{Verbatim}
use Rattle.reading.specs.declared.Home.{Home}
use Rattle.reading.specs.Events.{event, nowhere, in_text, becomes, shorter, exit_of, enter, str, raw_format}
use Rattle.reading.specs.Machine.{View, Rules, State, Here, amend, amend_last, put}
use Rattle.reading.specs.Tokens.{role_of, is_format}
use Rattle.reading.specs.Verbatim.{flagged, taken, opened_as, opens_verbatim, closes, kept, nothing, format_ahead, formatted, closed_with}
use Rattle.reading.specs.Verbatim.{closes_verbatim, all_blank, bytes_of, skips, content, blank_content, in_verbatim}
use Rattle.reading.specs.Walked.{walk_by, Of}
use Rattle.reading.proofs.Removed.{span_of, cut, removes_at}
use Rattle.reading.proofs.Choose.{choose, choose₂}
use Rattle.reading.proofs.Matching.{Wraps, wraps-match, Parts}
use Rattle.reading.proofs.Spans.{Covers, covers-append, covers-after, covers-amend, covers-cut, covers-same, covers-shorter, covers_one}
use Rattle.reading.proofs.Spans.{of_parts, amend-last-end, length-amend, length-amend-last, take-few}
use Rattle.reading.proofs.Queue.{walks, Inner, inner-put, inner-amend, inner-exit, inner-open}
use Rattle.reading.proofs.Good.{Out, In, Good, GoodBy, Ends, LastOk, Blank, walk-neither}
use Rattle.reading.proofs.Places.{HereOk, Fine, fine-at, sound-flagged, peek-sound, peek-place}

-- a line's bytes are those of the text
unfoldable pub Shows : List ℕ → View → Type 0
Shows text v = (j : ℕ) → j < length v.bytes → get_or v.bytes j 0 ≡ get_or text (v.base + j) 0

-- the dollars that a run takes lie in the Str before it
pub taken-ends : (l : Option Last) (at : ℕ) (q : List Event) → LastOk l q → (taken l at ≡ 0) ⊎ Ends (taken l at) at q
unfolding taken
taken-ends None at q ok = inl refl
taken-ends (Some l) at q ok =
    choose (λ (n : ℕ). (n ≡ 0) ⊎ Ends n at q) (eqb l.end.0 at) _ _
    (λ e. subst (λ (j : ℕ). (l.dollars ≡ 0) ⊎ Ends l.dollars j q) (eqb-true l.end.0 at e) ok)
    (λ e. inl refl)

-- the enter of a run, and its exit
opened-wraps : (n : ℕ) (h : Home) → Wraps (walk_by (enter (opened_as n)) h) (walk_by (enter (opened_as n) + 32) h)
unfolding opened_as walk_by
opened-wraps n h =
    choose Both (eqb n 0) _ _ (λ e. wraps-match _) (λ e. choose Both (eqb n 1) _ _ (λ f. wraps-match _) (λ f. wraps-match _))
  where
    Both : ℕ → Type 0
    Both k = Wraps (walk_by (enter k) h) (walk_by (enter k + 32) h)

opened-enters : (n : ℕ) → (32 ≤ enter (opened_as n)) × (enter (opened_as n) < 64)
unfolding opened_as
opened-enters n =
    choose Enters (eqb n 0) _ _ (λ e. (omega arith, omega arith))
    (λ e. choose Enters (eqb n 1) _ _ (λ f. (omega arith, omega arith)) (λ f. (omega arith, omega arith)))
  where
    Enters : ℕ → Type 0
    Enters k = (32 ≤ enter k) × (enter k < 64)

drop-end : (n : ℕ) (q : List Event) → length q ≤ n → (text : List ℕ) → Blank text (drop n q)
unfolding Of
drop-end n q l text i o = absurd (subst (λ (x : List Event). Of (map span_of x) i) (drop_of_length-le q l) o)

module _ (Loose : ℕ → Type 0) (text : List ℕ) where
  good-in : (w : Verbatim) (at n : ℕ) (s : State) → s.inside ≡ Some w → In Loose text w at n s → Good Loose text at n s
  unfolding GoodBy
  good-in w at n s e g = subst (λ (i : Option Verbatim). GoodBy Loose text i at n s) (sym e) g

  -- a run opens
  module _ (v : View) (m : ℕ) (h : Here) (k : HereOk v h) (s : State) (g : Out Loose text (v.base + h.from) (m + h.from) s) where
    shortened : (n : ℕ) → (n ≡ 0) ⊎ Ends n (v.base + h.from) s.queue
        → Covers Loose 0 (amend_last (shorter n) s.queue) (v.base + h.from - n) × (v.base + h.from - n ≤ v.base + h.to)
    shortened n (inl z) = (
      subst (λ (j : ℕ). Covers Loose 0 (amend_last (shorter j) s.queue) (v.base + h.from - j)) (sym z)
          (subst (λ (j : ℕ). Covers Loose 0 (amend_last (shorter 0) s.queue) j) (omega arith) (covers-same Loose 0 s.queue (v.base + h.from) g.covers)),
      omega (arith, k.long),
    )
    shortened n (inr e) = (
      subst (λ (q : List Event). Covers Loose 0 (amend_last (shorter n) q) (v.base + h.from - n)) (sym e.parted)
          (subst (λ (q : List Event). Covers Loose 0 q (v.base + h.from - n)) (sym (amend-last-end (shorter n) e.front e.it))
          (covers-shorter Loose n 0 e.front e.it (v.base + h.from) e.wide e.ends
          (subst (λ (q : List Event). Covers Loose 0 q (v.base + h.from)) e.parted g.covers))),
      omega (arith, k.long),
    )

    pub opens-fine : Fine Loose text v m (suc h.from) (opens_verbatim v h s)
    unfolding GoodBy
    opens-fine =
        fine-at Loose text v m (suc h.from) h.to (omega (arith, k.long)) (flagged true h.cursor) _ (sound-flagged v.bytes true h.cursor k.sound) k.place
        record {
          covers = covers-append Loose 0 q (v.base + h.from - n) (e ∷ []) (v.base + h.to) c.0 (covers_one Loose e c.1);
          inner = inner-open _ n s.queue s.openers e refl (opened-enters n) (opened-wraps n nowhere) g.parts;
          few = omega (arith, length-append q (e ∷ []), long, g.few, k.long);
          opens = omega (arith, g.opens, k.long);
          low = omega arith;
          high = omega (arith, length-append q (e ∷ []), long);
          blanks = drop-end (suc (length s.queue)) (q ++ (e ∷ [])) (omega (arith, length-append q (e ∷ []), long)) text;
        }
      where
        n : ℕ
        n = taken s.last (v.base + h.from)

        q : List Event
        q = amend_last (shorter n) s.queue

        e : Event
        e = event (enter (opened_as n)) (v.base + h.from - n) (v.base + h.to)

        long : length q ≡ length s.queue
        long = length-amend-last (shorter n) s.queue

        c : Covers Loose 0 q (v.base + h.from - n) × (v.base + h.from - n ≤ v.base + h.to)
        c = shortened n (taken-ends s.last (v.base + h.from) s.queue g.last)

-- each byte of an all-blank part is blank
blank-at : (l : List ℕ) (j : ℕ) → all_blank l ≡ true → j < length l → blank (get_or l j 0) ≡ true
unfolding all_blank
blank-at [] j e h = absurd (omega arith)
blank-at (b ∷ l) zero e h = ((and-eq-true_iff (blank b) (all_blank l)).0 e).0
blank-at (b ∷ l) (suc j) e h = blank-at l j ((and-eq-true_iff (blank b) (all_blank l)).0 e).1 (omega arith)

drop-amend : (f : Event → Event) (i n : ℕ) (q : List Event) → i < n → drop n (amend f i q) ≡ drop n q
unfolding amend
drop-amend f i n [] l = refl
drop-amend f i zero (e ∷ q) l = absurd (omega arith)
drop-amend f zero (suc n) (e ∷ q) l = refl
drop-amend f (suc i) (suc n) (e ∷ q) l = drop-amend f i n q (omega arith)

pub raw-wraps : (h : Home) → Wraps (walk_by (enter raw_format) h) (walk_by (enter raw_format + 32) h)
unfolding walk_by
raw-wraps h = wraps-match _

pub cut-amend : (w : Verbatim) (f : Event → Event) (q : List Event) → w.event < w.keep → cut w (amend f w.event q) ≡ cut w q
unfolding cut
cut-amend w f q l = choose₂ (λ (a b : List Event). a ≡ b) w.run _ _ _ _ (λ e. drop-amend f w.event w.keep q l) (λ e. refl)

kept-few : (w : Verbatim) (q : List Event) → length (kept w q) ≤ length q
unfolding kept
kept-few w q = choose (λ (l : List Event). length l ≤ length q) w.run _ _ (λ e. take-few w.keep q) (λ e. omega arith)

-- an accepted raw format ends before the line does
pub format-within : (v : View) (j n : ℕ) (t : Option Token) → format_ahead v j t ≡ Some n → j + 2 + n + 1 ≤ length v.bytes
unfolding format_ahead
format-within v j n None e = absurd (apart n e)
  where
    apart : (n : ℕ) → None ≡ Some n → ⊥
    apart n e = let z : ◌≡◌ {A = ℕ} 0 1 = cc in omega arith
format-within v j n (Some t) e =
    choose (λ (f : Option ℕ). f ≡ Some n → j + 2 + n + 1 ≤ length v.bytes) (is_format (role_of t.kind)) _ _
    (λ y e. omega (arith, (raw-format-some (drop (j + 2) v.bytes) n e).0.within, length-drop (j + 2) v.bytes))
    (λ y e. let z : ◌≡◌ {A = ℕ} 0 1 = cc in absurd (omega arith)) e

module _ (Loose : ℕ → Type 0) (text : List ℕ) (w : Verbatim) where
  -- what a verbatim's exit leaves, where the queue is q: behind what is kept of it, from a to b
  module _ (s : State) (q : List Event) (os : List Opener) (a b n m : ℕ) (c : Covers Loose 0 q a) (i : Inner w q os) (few : length q ≤ n)
      (low : w.event < w.keep) (high : w.keep ≤ length q) (up : a ≤ b) where
    kept-covers : ((j : ℕ) → Of (map span_of (cut w q)) j → Loose j) → Covers Loose 0 (kept w q) a
    unfolding kept cut
    kept-covers loose =
        choose₂ (λ (d l : List Event). ((j : ℕ) → Of (map span_of d) j → Loose j) → Covers Loose 0 l a) w.run _ _ _ _
        (λ e f. covers-cut Loose w.keep 0 q a c f) (λ e f. c) loose

    kept-parts : Parts (walks (kept w q ++ (exit_of (get_or q w.event nothing) a b ∷ []))) os
    unfolding kept
    kept-parts =
        choose (λ (l : List Event). Parts (walks (l ++ (exit_of (get_or q w.event nothing) a b ∷ []))) os) w.run _ _
        (λ e. inner-exit w q os w.keep nothing a b low i)
        (λ e. subst (λ (l : List Event). Parts (walks (l ++ (exit_of (get_or q w.event nothing) a b ∷ []))) os) (take_all (length q) q (omega arith))
        (inner-exit w q os (length q) nothing a b (omega (arith, low, high)) i))

    pub exits-out : ((j : ℕ) → Of (map span_of (cut w q)) j → Loose j) → length os ≤ m → suc n ≤ m
        → (t : State) → t.queue ≡ kept w q ++ (exit_of (get_or q w.event nothing) a b ∷ []) → t.openers ≡ os → t.last ≡ None
        → Out Loose text b m t
    exits-out loose l k t eq eo el =
        record {
          covers = rw eq
              (covers-append Loose 0 (kept w q) a (exit_of (get_or q w.event nothing) a b ∷ []) b (kept-covers loose)
              (covers_one Loose (exit_of (get_or q w.event nothing) a b) up));
          parts = rw (eq, eo) kept-parts;
          few = rw eq (omega (arith, length-append (kept w q) (exit_of (get_or q w.event nothing) a b ∷ []), kept-few w q, few, k));
          opens = rw eo l;
          last = rw el tt;
        }

  -- a token inside
  module _ (v : View) (shows : Shows text v) (m : ℕ) (h : Here) (k : HereOk v h) (s : State) (is : s.inside ≡ Some w)
      (g : In Loose text w (v.base + h.from) (m + h.from) s) where
    from : ℕ
    from = v.base + h.from

    -- every byte of an all-blank token is blank
    token-blank : all_blank (bytes_of v h) ≡ true → (i : ℕ) → v.base + h.from ≤ i → i < v.base + h.to → blank (get_or text i 0) ≡ true
    unfolding Shows
    token-blank e i l u =
        subst (λ (x : ℕ). blank x ≡ true) same (blank-at (bytes_of v h) j e (omega (arith, long)))
      where
        j : ℕ
        j = i - (v.base + h.from)

        long : length (bytes_of v h) ≡ h.to - h.from
        long = length-take-le (h.to - h.from) (drop h.from v.bytes) (omega (arith, length-drop h.from v.bytes, k.within, k.long))

        same : get_or (bytes_of v h) j 0 ≡ get_or text i 0
        same =
            get_or-take (h.to - h.from) (drop h.from v.bytes) j 0 (omega arith)
            ∙ get_or-drop h.from v.bytes j 0
            ∙ shows (h.from + j) (omega (arith, k.within))
            ∙ ap (λ (n : ℕ). get_or text n 0) (omega arith)

    abbrev e : Event
    e = event str (v.base + h.from) (v.base + h.to)

    -- the token put, with what is then noted of the verbatim
    put_in : (u : Verbatim) → u.event ≡ w.event → w.event < u.keep → u.keep ≤ suc (length s.queue) → Blank text (drop u.keep (s.queue ++ e ∷ []))
        → (t : State) → t.queue ≡ s.queue ++ e ∷ [] → t.openers ≡ s.openers → In Loose text u (v.base + h.to) (m + h.to) t
    put_in u ev low high bl t eq eo =
        record {
          covers = rw eq
              (covers-append Loose 0 s.queue (v.base + h.from) (e ∷ []) (v.base + h.to) g.covers (covers_one Loose e (omega (arith, k.long))));
          inner = rw (eq, eo) (inner-put w u s.queue s.openers e ev (walk-neither Loose text str nowhere (omega arith)) g.inner);
          few = rw eq (omega (arith, length-append s.queue (e ∷ []), g.few, k.long));
          opens = rw eo (omega (arith, g.opens, k.long));
          low = omega (arith, low, ev);
          high = rw eq (omega (arith, length-append s.queue (e ∷ []), high));
          blanks = rw eq bl;
        }

    blank-put : all_blank (bytes_of v h) ≡ true → Good Loose text (v.base + h.to) (m + h.to) (put v str h.from h.to s)
    unfolding Of
    blank-put bl =
        good-in Loose text w _ _ _ is
        (put_in w refl g.low (omega (arith, g.high))
        (λ i o. ⊎_elim (g.blanks i) (λ (x : Of (span_of e ∷ []) i). ⊎_elim (λ (y : (v.base + h.from ≤ i) × (i < v.base + h.to)). token-blank bl i y.0 y.1) (λ (y : ⊥). absurd y) x)
        (of_parts (map span_of (drop w.keep s.queue)) (span_of e ∷ []) i
        (subst (λ (l : List Line). Of l i) (ap (map span_of) (drop-append-le w.keep s.queue (e ∷ []) g.high) ∙ map-append span_of (drop w.keep s.queue) (e ∷ [])) o)))
        (put v str h.from h.to s) refl refl)

    content-fine : (t : Token) → Fine Loose text v m (suc h.from) (record { cursor = h.cursor; state = content v h t w s })
    unfolding GoodBy
    content-fine t =
        fine-at Loose text v m (suc h.from) h.to (omega (arith, k.long)) h.cursor _ k.sound k.place
        (put_in _ refl (omega (arith, g.low, g.high)) (omega arith)
        (drop-end (suc (length s.queue)) (s.queue ++ e ∷ []) (omega (arith, length-append s.queue (e ∷ []))) text)
        (content v h t w s) refl refl)

    -- a blank that is dropped leaves a gap
    skip-good : ((i : ℕ) → v.base + h.from ≤ i → i < v.base + h.to → Loose i) → Good Loose text (v.base + h.to) (m + h.to) s
    skip-good f =
        good-in Loose text w _ _ s is
        record {
          covers = covers-after Loose 0 s.queue (v.base + h.from) (v.base + h.to) g.covers (record { up = omega (arith, k.long); loose = f });
          inner = g.inner;
          few = omega (arith, g.few, k.long);
          opens = omega (arith, g.opens, k.long);
          low = g.low;
          high = g.high;
          blanks = g.blanks;
        }

    blank-fine : all_blank (bytes_of v h) ≡ true
        → (skips w (peek_of v.bytes h.cursor).token ≡ true → (i : ℕ) → v.base + h.from ≤ i → i < v.base + h.to → Loose i)
        → Fine Loose text v m (suc h.from) (blank_content v h w s)
    unfolding blank_content
    blank-fine bl loose =
        choose (Fine Loose text v m (suc h.from)) w.seen _ _
        (λ e. fine-at Loose text v m (suc h.from) h.to (omega (arith, k.long)) h.cursor _ k.sound k.place (blank-put bl))
        (λ e.
        fine-at Loose text v m (suc h.from) h.to (omega (arith, k.long)) _ _ (peek-sound v.bytes h.cursor k.sound)
        (peek-place v.bytes h.cursor h.to k.place)
        (choose (Good Loose text (v.base + h.to) (m + h.to)) (skips w (peek_of v.bytes h.cursor).token) _ _
        (λ y. skip-good (loose y)) (λ y. blank-put bl)))

    closed-fine : ((j : ℕ) → Of (map span_of (cut w s.queue)) j → Loose j) → (c : Cursor) → Sound v.bytes c → c.pos ≡ h.to
        → (f : Option ℕ) → ((n : ℕ) → f ≡ Some n → h.to + 2 + n + 1 ≤ length v.bytes)
        → Fine Loose text v m (suc h.from) (closed_with v h c w f s)
    unfolding closed_with GoodBy
    closed-fine loose c so p None fit =
        fine-at Loose text v m (suc h.from) h.to (omega (arith, k.long)) (flagged false c) _ (sound-flagged v.bytes false c so) p
        (exits-out s s.queue s.openers (v.base + h.from) (v.base + h.to) (m + h.from) (m + h.to) g.covers g.inner g.few g.low g.high
        (omega (arith, k.long)) loose (omega (arith, g.opens, k.long)) (omega (arith, k.long)) _ refl refl refl)
    closed-fine loose c so p (Some n) fit =
        fine-at Loose text v m (suc h.from) (h.to + 2 + n + 1) (omega (arith, k.long)) _ _ (fresh-sound v.bytes (h.to + 2 + n + 1) false (fit n refl)) refl
        (exits-out s q s.openers (v.base + h.from) (v.base + (h.to + 2 + n + 1)) (m + h.from) (m + (h.to + 2 + n + 1))
        (covers-amend Loose (enter raw_format) home w.event 0 s.queue (v.base + h.from) g.covers)
        (inner-amend w s.queue s.openers (enter raw_format) home (omega arith, omega arith) (raw-wraps home) g.inner)
        (omega (arith, long, g.few)) g.low (omega (arith, long, g.high)) (omega (arith, k.long))
        (λ j o. loose j (subst (λ (l : List Event). Of (map span_of l) j) (cut-amend w (becomes (enter raw_format) home) s.queue g.low) o))
        (omega (arith, g.opens, k.long)) (omega (arith, k.long)) _ refl refl refl)
      where
        home : Home
        home = in_text (v.base + (h.to + 2)) (v.base + (h.to + 2) + n)

        q : List Event
        q = formatted v (h.to + 2) n w s.queue

        long : length q ≡ length s.queue
        long = length-amend (becomes (enter raw_format) home) w.event s.queue

    closes-fine : (r : Rules) → ((j : ℕ) → Of (map span_of (cut w s.queue)) j → Loose j) → Fine Loose text v m (suc h.from) (closes_verbatim r v h w s)
    closes-fine r loose =
        let c = flagged (r.after w.here) h.cursor in
        let so = sound-flagged v.bytes (r.after w.here) h.cursor k.sound in
        closed-fine loose (peek_of v.bytes c).cursor (peek-sound v.bytes c so) (peek-place v.bytes c h.to k.place)
        (format_ahead v h.to (peek_of v.bytes c).token) (λ n e. format-within v h.to n (peek_of v.bytes c).token e)

    pub in-fine : (r : Rules) (t : Token) → ((i : ℕ) → Of (removes_at v h t w s) i → Loose i) → Fine Loose text v m (suc h.from) (in_verbatim r v h t w s)
    unfolding in_verbatim removes_at Of
    in-fine r t loose = go (closes w h t) refl (all_blank (bytes_of v h)) refl
      where
        go : (b : Bool) → closes w h t ≡ b → (c : Bool) → all_blank (bytes_of v h) ≡ c
            → Fine Loose text v m (suc h.from) (in_verbatim r v h t w s)
        go true e c y = rw (e, in_verbatim) (closes-fine r (λ j o. loose j (rw (e, removes_at) o)))
        go false e true y =
            rw (e, y, in_verbatim) (blank-fine y (λ z i l u. loose i (rw (e, y, z, removes_at) (inl (l, u)))))
        go false e false y = rw (e, y, in_verbatim) (content-fine t)

    -- what is dropped is blank
    pub drops-blank : (t : Token) (i : ℕ) → Of (removes_at v h t w s) i → blank (get_or text i 0) ≡ true
    unfolding removes_at Of cut
    drops-blank t i o =
        choose Told (closes w h t) _ _
        (λ e. choose (λ (q : List Event). Told (map span_of q)) w.run _ _ (λ r o. g.blanks i o) (λ r o. absurd o))
        (λ e. choose Told (all_blank (bytes_of v h) && skips w (peek_of v.bytes h.cursor).token) _ _
        (λ y o. one ((and-eq-true_iff (all_blank (bytes_of v h)) (skips w (peek_of v.bytes h.cursor).token)).0 y).0 o) (λ y o. absurd o))
        o
      where
        Told : List Line → Type 0
        Told d = Of d i → blank (get_or text i 0) ≡ true

        one : all_blank (bytes_of v h) ≡ true → Told (record { start = v.base + h.from; end = v.base + h.to } ∷ [])
        one e (inl y) = token-blank e i y.0 y.1
        one e (inr y) = absurd y
