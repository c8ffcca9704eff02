-- Only what is of a fed line and of no dropped blank is shown: no other span than a link's exit goes over anything else. No rule shows a byte anew that lies before its token.
use Rattle.std.specs.Prelude.{None, Option, Some}
use Rattle.reading.specs.declared.Closer.{Closer}
use Rattle.reading.specs.declared.Sort.{Sort}
use Prim.Native.Nat.{ℕ, zero, suc, ◌+◌, ◌-◌, ◌*◌, ◌≤◌, ◌<◌}
use mathlib.Core.Path.{◌≡◌, refl, sym, ap, ◌∙◌, subst}
use mathlib.Core.List.{List, [], ◌∷◌, ◌++◌, map}
use mathlib.Core.Bool.{Bool, true, false}
use mathlib.Core.Logic.{◌⊎◌, inl, inr, ⊎_elim}
use native.Mathlib.Decide.{dec_lt}
use native.Mathlib.Omega.{arith}
use borrow.Author.Tests.{eqb-true, ltb-true, lt-leb}
use lib.Dec.{eqb, ltb}
use lib.ListN.{length, get_or, take, drop, get_or-map, take-append-drop}
use lib.Seq.{get_or_at}
use Rattle.lex.specs.declared.lex.Token.{Token}
use Rattle.lex.specs.declared.lex.Cursor.{Cursor}
use Rattle.lex.specs.Lexer.{next_of, peek_of}
use Rattle.dash.specs.declared.Dashes.{Dashes}
use Rattle.reading.specs.declared.Role.{Role}
use Rattle.reading.specs.declared.Event.{Event}
use Rattle.reading.specs.declared.Line.{Line}
use Rattle.reading.specs.declared.Opener.{Opener}
use Rattle.reading.specs.declared.Verbatim.{Verbatim}
use Rattle.reading.specs.declared.DelimEventKind.{DelimEventKind}
use Rattle.reading.specs.declared.DelimEventKind.TheVariants as makes
use Rattle.reading.specs.declared.Home.{Home}
use Rattle.reading.specs.Events.{event, nowhere, in_text, home_of, becomes, becomes_to, shorter, exit_of, enter, str, emdash, endash, raw_format}
use Rattle.reading.specs.Machine.{View, Rules, Sheet, State, Turn, Here, view_of, amend, amend_last, with_openers}
use Rattle.reading.specs.Tokens.{role_of, closing_of}
use Rattle.reading.specs.Atoms.{row, dashes}
use Rattle.reading.specs.Verbatim.{nothing, taken, opened_as, closes, kept, formatted, closed_with, all_blank, bytes_of, skips, blank_content}
use Rattle.reading.specs.Verbatim.{in_verbatim, flagged, ended_at}
use Rattle.reading.specs.Containers.{seek, takes, span_with, closes_span, close_as, may_open, opens_or}
use Rattle.reading.specs.Reading.{outside, by_place, here_at, on_token, step, steps, begun, line, lines, start, end_of, views}
use Rattle.reading.specs.Looks.{seeking}
use Rattle.reading.specs.Draining.{flushed, touches, drained}
use Rattle.reading.specs.Walked.{Walk, neither, opening, closing, walk_by, walk_of, link_exit, Shown, Of}
use Rattle.reading.proofs.Removed.{span_of, cut, removes_at, removes_in, removes_on, step_removes, steps_remove, lines_remove, removed}
use Rattle.reading.proofs.Choose.{choose, choose₂}
use Rattle.reading.proofs.Matching.{TopBy, Parts}
use Rattle.reading.proofs.Queue.{walks, parts-seek, parts-close, inner-found}
use Rattle.reading.proofs.Spans.{Any, Gap, Covers, covers_up, covers-parts, covers-amend, of-dec, of_parts}
use Rattle.reading.proofs.Places.{HereOk, here-ok, peek-place}
use Rattle.reading.proofs.Tables.{KindOk, closing-ok}
use Rattle.reading.proofs.Good.{Out, In, GoodBy, Ends, out-looking}
use Rattle.reading.proofs.Ruling.{by-rule-where}
use Rattle.reading.proofs.Backticks.{Shows, taken-ends, cut-amend}
use Rattle.reading.proofs.Stepping.{Held, either, either₂, step-held}
use Rattle.reading.proofs.Feeding.{Rising, Stood, view-long, view-shows, step-on, steps-some, begun-held, fed-stood, start-stood}

-- of two parts, and of a front
shown-parts : (i : ℕ) (a b : List Event) → Shown i (a ++ b) → Shown i a ⊎ Shown i b
unfolding Shown
shown-parts i [] b x = inr x
shown-parts i (e ∷ a) b (inl x) = inl (inl x)
shown-parts i (e ∷ a) b (inr x) = ⊎_elim (λ (y : Shown i a). inl (inr y)) (λ (y : Shown i b). inr y) (shown-parts i a b x)

shown-right : (i : ℕ) (a b : List Event) → Shown i b → Shown i (a ++ b)
unfolding Shown
shown-right i [] b x = x
shown-right i (e ∷ a) b x = inr (shown-right i a b x)

pub shown-take : (i n : ℕ) (q : List Event) → Shown i (take n q) → Shown i q
unfolding Shown
shown-take i zero q x = absurd x
shown-take i (suc n) [] x = absurd x
shown-take i (suc n) (e ∷ q) (inl x) = inl x
shown-take i (suc n) (e ∷ q) (inr x) = inr (shown-take i n q x)

-- another kind and home for an event that is no link's exit
shown-amend : (i kind : ℕ) (h : Home) (n : ℕ) (q : List Event) → link_exit (get_or q n nothing).kind ≡ false → Shown i (amend (becomes kind h) n q) → Shown i q
unfolding Shown amend
shown-amend i kind h n [] p x = x
shown-amend i kind h zero (e ∷ q) p (inl x) = inl (p, x.1, x.2)
shown-amend i kind h zero (e ∷ q) p (inr x) = inr x
shown-amend i kind h (suc n) (e ∷ q) p (inl x) = inl x
shown-amend i kind h (suc n) (e ∷ q) p (inr x) = inr (shown-amend i kind h n q p x)

-- an event that becomes one
shown-exit : (i kind : ℕ) (h : Home) (b n : ℕ) (q : List Event) → link_exit kind ≡ true → Shown i (amend (becomes_to kind h b) n q) → Shown i q
unfolding Shown amend
shown-exit i kind h b n [] p x = x
shown-exit i kind h b zero (e ∷ q) p (inl x) = absurd (never (sym p ∙ x.0))
  where
    never : true ≡ false → ⊥
    never e = let z : ◌≡◌ {A = ℕ} 0 1 = cc in omega arith
shown-exit i kind h b zero (e ∷ q) p (inr x) = inr x
shown-exit i kind h b (suc n) (e ∷ q) p (inl x) = inl x
shown-exit i kind h b (suc n) (e ∷ q) p (inr x) = inr (shown-exit i kind h b n q p x)

-- the last event shorter
shown-shorter : (i n : ℕ) (q : List Event) → Shown i (amend_last (shorter n) q) → Shown i q
unfolding Shown amend_last
shown-shorter i n [] x = x
shown-shorter i n (e ∷ []) (inl x) = inl (x.0, x.1, omega (arith, x.2))
shown-shorter i n (e ∷ []) (inr x) = inr x
shown-shorter i n (e ∷ f ∷ q) (inl x) = inl x
shown-shorter i n (e ∷ f ∷ q) (inr x) = inr (shown-shorter i n (f ∷ q) x)

-- events that show only what lies at a or behind
abbrev Behind : ℕ → List Event → Type 0
Behind a es = (i : ℕ) → Shown i es → a ≤ i

behind_more : (a : ℕ) (e : Event) (es : List Event) → a ≤ e.start.0 → Behind a es → Behind a (e ∷ es)
unfolding Shown
behind_more a e es l f i (inl x) = omega (arith, l, x.1)
behind_more a e es l f i (inr x) = f i x

behind-one : (a : ℕ) (e : Event) → a ≤ e.start.0 → Behind a (e ∷ [])
unfolding Shown
behind-one a e l = behind_more a e [] l (λ i x. absurd x)

behind-row : (a kind w n at : ℕ) → a ≤ at → Behind a (row kind w n at)
unfolding Shown row
behind-row a kind w zero at l = λ i x. absurd x
behind-row a kind w (suc n) at l = behind_more a (event kind at (at + w)) (row kind w n (at + w)) l (behind-row a kind w n (at + w) (omega arith))

behind-dashes : (a : ℕ) (d : Dashes) (at : ℕ) → a ≤ at → Behind a (dashes d at)
unfolding dashes
behind-dashes a d at l i x =
    ⊎_elim (behind-row a emdash 3 d.em at l i) (behind-row a endash 2 d.en (at + 3 * d.em) (omega arith) i)
    (shown-parts i (row emdash 3 d.em at) (row endash 2 d.en (at + 3 * d.em)) x)

-- what neither opens nor closes is no exit
walk-low : (kind : ℕ) (h : Home) → walk_by kind h ≡ neither → link_exit kind ≡ false
unfolding walk_by link_exit
walk-low kind h e = go (ltb kind 32) refl
  where
    other : (b : Bool) → elim b [ true ↦ opening record { k = kind - 32; home = h } | false ↦ closing record { k = kind - 64; home = h } ] ≡ neither → ⊥
    other true z = let y : ◌≡◌ {A = ℕ} 0 1 = cc in omega arith
    other false z = let y : ◌≡◌ {A = ℕ} 0 1 = cc in omega arith

    go : (b : Bool) → ltb kind 32 ≡ b → link_exit kind ≡ false
    go true t = rw (lt-leb 76 kind (omega (arith, ltb-true kind 32 t)))
    go false t = absurd (other (ltb kind 64) (rw (t, walk_by) at e))

neither-low : (q : List Event) (pre post : List Walk) (n : ℕ) → walks q ≡ pre ++ neither ∷ post → length pre ≡ n → link_exit (get_or q n nothing).kind ≡ false
unfolding walk_by
neither-low q pre post n e l =
    let d = get_or q n nothing in
    walk-low d.kind (home_of d)
    (sym (get_or-map walk_of q n nothing) ∙ ap (λ (w : List Walk). get_or w n (walk_of nothing)) e ∙ get_or_at pre neither post (walk_of nothing) n l)

-- what r shows, q showed, or it lies at a or behind
abbrev pub Grows : ℕ → List Event → List Event → Type 0
Grows a q r = (i : ℕ) → Shown i r → Shown i q ⊎ (a ≤ i)

grows_same : (a : ℕ) (q : List Event) → Grows a q q
grows_same a q i x = inl x

grows-puts : (a : ℕ) (q r es : List Event) → Grows a q r → Behind a es → Grows a q (r ++ es)
grows-puts a q r es g f i x = ⊎_elim (g i) (λ (y : Shown i es). inr (f i y)) (shown-parts i r es x)

-- a token outside verbatim, which begins at the i-th byte of a line
module _ (Loose : ℕ → Type 0) (text : List ℕ) (x : Sheet) (v : View) (i n : ℕ) (s : State) (g : Out Loose text (v.base + i) n s) where
  abbrev Then : Turn → Turn → Type 0
  Then a b = Grows (v.base + i) s.queue a.state.queue

  abbrev At : Here → Type 0
  At h = (h.from ≡ i) × (i ≤ h.to)

  put-grows : (kind j k : ℕ) (r : List Event) → i ≤ j → Grows (v.base + i) s.queue r → Grows (v.base + i) s.queue (r ++ event kind (v.base + j) (v.base + k) ∷ [])
  put-grows kind j k r l h = grows-puts _ s.queue r (event kind (v.base + j) (v.base + k) ∷ []) h (behind-one _ (event kind (v.base + j) (v.base + k)) (omega (arith, l)))

  -- the token by itself
  lone : (kind : ℕ) (h : Here) → At h → Grows (v.base + i) s.queue (s.queue ++ event kind (v.base + h.from) (v.base + h.to) ∷ [])
  lone kind h a = put-grows kind h.from h.to s.queue (omega (arith, a.0)) (grows_same _ s.queue)

  opens-grows : (h : Here) → At h → (alone : ℕ) (o : Option Sort) → Grows (v.base + i) s.queue (opens_or v h alone o s).queue
  unfolding opens_or
  opens-grows h a alone None = lone alone h a
  opens-grows h a alone (Some o) =
      choose (λ (t : State). Grows (v.base + i) s.queue t.queue) (may_open v h s o) _ _ (λ e. lone _ h a) (λ e. lone alone h a)

  -- what closes
  module _ (h : Here) (a : At h) (o : Opener) (os : List Opener) (p : Parts (walks s.queue) (o ∷ os)) where
    span-grows : (image : Bool) (c : Cursor) (t : Option Token) → Grows (v.base + i) s.queue (closes_span v h image o c t (with_openers os s)).state.queue
    unfolding closes_span span_with
    span-grows image c None = lone str h a
    span-grows image c (Some t) = go (takes (role_of t.kind))
      where
        go : (b : Option Bool) → Grows (v.base + i) s.queue (span_with v h image o c t.len b (with_openers os s)).state.queue
        go None = lone str h a
        go (Some inline) = put-grows str h.to (h.to + t.len) _ a.1 (lone str h a)

    closed-grows : (d : DelimEventKind) → closing_of o.sort ≡ d → KindOk d → Grows (v.base + i) s.queue (close_as x v h o d (with_openers os s)).state.queue
    unfolding close_as KindOk TopBy
    closed-grows (makes.Pair q) e ok =
        let t = parts-close (walks s.queue) o os (makes.Pair q) e p in
        put-grows q.second h.from h.to _ (omega (arith, a.0))
        (λ j y. inl (shown-amend j q.first nowhere o.event s.queue (neither-low s.queue t.pre t.post o.event t.parted t.place) y))
    closed-grows (makes.Span image) e ok = span-grows image _ _
    closed-grows (makes.Link l) e ok =
        let t = parts-close (walks s.queue) o os (makes.Link l) e p in
        λ j y. inl (shown-amend j _ _ o.span s.queue (neither-low s.queue t.pre _ o.span t.parted t.first)
        (shown-exit j _ _ _ (o.event - 1) _ ok.0 (shown-take j o.event _ y)))

  closes-grows : (h : Here) → At h → (c : Option Closer) (o : Opener) (os : List Opener) → seek c s.openers ≡ o ∷ os
      → Grows (v.base + i) s.queue (close_as x v h o (closing_of o.sort) (with_openers os s)).state.queue
  closes-grows h a c o os k =
      closed-grows h a o os (subst (λ (l : List Opener). Parts (walks s.queue) l) k (parts-seek c (walks s.queue) s.openers g.parts))
      (closing_of o.sort) refl (closing-ok o.sort)

  -- a run that opens, with the dollars that it takes
  dollars-shown : (k j : ℕ) → (k ≡ 0) ⊎ Ends k (v.base + i) s.queue → v.base + i - k ≤ j → Shown j s.queue ⊎ (v.base + i ≤ j)
  unfolding Shown
  dollars-shown k j (inl z) l = inr (omega (arith, z, l))
  dollars-shown k j (inr e) l = go (dec_lt j (v.base + i))
    where
      go : Dec (j < v.base + i) → Shown j s.queue ⊎ (v.base + i ≤ j)
      go (yes u) =
          inl (subst (λ (q : List Event). Shown j q) (sym e.parted)
          (shown-right j e.front (e.it ∷ []) (inl (e.shown, omega (arith, l, e.wide, e.ends), omega (arith, u, e.ends)))))
      go (no u) = inr (omega arith)

  verbatim-grows : (h : Here) → At h
      → let k = taken s.last (v.base + h.from) in
      Grows (v.base + i) s.queue (amend_last (shorter k) s.queue ++ event (enter (opened_as k)) (v.base + h.from - k) (v.base + h.to) ∷ [])
  verbatim-grows h a j y =
      let k = taken s.last (v.base + h.from) in
      let e = event (enter (opened_as k)) (v.base + h.from - k) (v.base + h.to) in
      let d = subst (λ (w : ℕ). (k ≡ 0) ⊎ Ends k (v.base + w) s.queue) a.0
      (taken-ends s.last (v.base + h.from) s.queue g.last) in
      ⊎_elim (λ (z : Shown j (amend_last (shorter k) s.queue)). inl (shown-shorter j k s.queue z))
      (λ (z : Shown j (e ∷ [])). dollars-shown k j d (omega (arith, behind-one (v.base + h.from - k) e (omega arith) j z, a.0)))
      (shown-parts j (amend_last (shorter k) s.queue) (e ∷ []) y)

  pub outside-grows : (h : Here) → At h → (r : Role) → Grows (v.base + i) s.queue (outside x v h r s).state.queue
  outside-grows h a r =
      by-rule-where x x v s s refl (λ h o. refl) Then At (λ r. Unit {0}) (λ h j c l a. (a.0, omega (arith, l, a.1))) tt tt
      (λ h a m ok. opens-grows h a m.alone m.opens)
      closes-grows
      (λ h a k. grows-puts _ s.queue s.queue _ (grows_same _ s.queue)
      (behind_more _ _ _ (omega (arith, a.0)) (behind_more _ _ _ (omega (arith, a.1)) (behind-one _ _ (omega (arith, a.1))))))
      (λ h a kind k l u. grows-puts _ s.queue s.queue _ (grows_same _ s.queue) (behind-one _ _ (omega (arith, a.0))))
      (λ h a. put-grows str _ _ _ (omega (arith, a.0)) (grows-puts _ s.queue s.queue _ (grows_same _ s.queue) (behind-row _ _ _ _ _ (omega (arith, a.0)))))
      (λ h a. grows-puts _ s.queue s.queue _ (grows_same _ s.queue) (behind-dashes _ _ _ (omega (arith, a.0))))
      verbatim-grows
      (λ p. refl)
      (λ h a. grows_same _ s.queue) h a r tt

-- what a cover shows, and what its spans take, lies within it
module _ (Loose : ℕ → Type 0) where
  pub shown-within : (i a : ℕ) (es : List Event) (b : ℕ) → Covers Loose a es b → Shown i es → (a ≤ i) × (i < b)
  unfolding Covers Shown
  shown-within i a [] b c x = absurd x
  shown-within i a (e ∷ es) b c (inl x) = (omega (arith, c.0.up, x.1), omega (arith, x.2, covers_up Loose e.end.0 es b c.2))
  shown-within i a (e ∷ es) b c (inr x) =
      let r = shown-within i e.end.0 es b c.2 x in
      (omega (arith, r.0, c.0.up, c.1), r.1)

  spans-within : (i a : ℕ) (es : List Event) (b : ℕ) → Covers Loose a es b → Of (map span_of es) i → (a ≤ i) × (i < b)
  unfolding Covers Of
  spans-within i a [] b c x = absurd x
  spans-within i a (e ∷ es) b c (inl x) = (omega (arith, c.0.up, x.0), omega (arith, x.1, covers_up Loose e.end.0 es b c.2))
  spans-within i a (e ∷ es) b c (inr x) =
      let r = spans-within i e.end.0 es b c.2 x in
      (omega (arith, r.0, c.0.up, c.1), r.1)

  -- a cut lies behind what is kept
  cut_apart : (w : Verbatim) (i : ℕ) (q : List Event) (b : ℕ) → Covers Loose 0 q b → Of (map span_of (cut w q)) i → (i < b) × (Shown i (kept w q) → ⊥)
  unfolding cut kept Of
  cut_apart w i q b c o =
      choose₂ (λ (d k : List Event). Of (map span_of d) i → (i < b) × (Shown i k → ⊥)) w.run _ _ _ _ (λ e o. parted o) (λ e o. absurd o) o
    where
      parted : Of (map span_of (drop w.keep q)) i → (i < b) × (Shown i (take w.keep q) → ⊥)
      parted o =
          let p = covers-parts Loose 0 (take w.keep q) (drop w.keep q) b (subst (λ (l : List Event). Covers Loose 0 l b) (sym (take-append-drop w.keep q)) c) in
          let z = spans-within i p.mid (drop w.keep q) b p.second o in
          (z.1, λ x. let y = shown-within i 0 (take w.keep q) p.mid p.first x in omega (arith, z.0, y.1))

kept-shown : (w : Verbatim) (i : ℕ) (q : List Event) → Shown i (kept w q) → Shown i q
unfolding kept
kept-shown w i q = choose (λ (l : List Event). Shown i l → Shown i q) w.run _ _ (λ e. shown-take i w.keep q) (λ e x. x)

pub good-covers : (Loose : ℕ → Type 0) (text : List ℕ) (w : Option Verbatim) (at n : ℕ) (s : State) → GoodBy Loose text w at n s → Covers Loose 0 s.queue at
unfolding GoodBy
good-covers Loose text None at n s g = g.covers
good-covers Loose text (Some w) at n s g = g.covers

-- a token inside a verbatim
module _ (Loose : ℕ → Type 0) (text : List ℕ) (w : Verbatim) (v : View) (n : ℕ) (h : Here) (k : HereOk v h) (s : State)
    (g : In Loose text w (v.base + h.from) n s) where
  abbrev from : ℕ
  from = v.base + h.from

  enter-low : link_exit (get_or s.queue w.event nothing).kind ≡ false
  unfolding link_exit
  enter-low =
      rw (inner-found w s.queue s.openers nothing g.inner)
      (rw (lt-leb 76 g.inner.it.kind (omega (arith, g.inner.enters.1))))

  put_in : Grows from s.queue (s.queue ++ event str (v.base + h.from) (v.base + h.to) ∷ [])
  put_in = grows-puts from s.queue s.queue _ (grows_same from s.queue) (behind-one from (event str (v.base + h.from) (v.base + h.to)) (omega arith))

  closed_in : (c : Cursor) (f : Option ℕ) → Grows from s.queue (closed_with v h c w f s).state.queue
  unfolding closed_with
  closed_in c None =
      grows-puts from s.queue (kept w s.queue) _ (λ i x. inl (kept-shown w i s.queue x)) (behind-one from _ (omega arith))
  closed_in c (Some m) =
      let q = formatted v (h.to + 2) m w s.queue in
      grows-puts from s.queue (kept w q) _ (λ i x. inl (shown-amend i _ _ w.event s.queue enter-low (kept-shown w i q x))) (behind-one from _ (omega arith))

  blank-in : Grows from s.queue (blank_content v h w s).state.queue
  unfolding blank_content
  blank-in =
      choose (λ (a : Turn). Grows from s.queue a.state.queue) w.seen _ _ (λ e. put_in)
      (λ e. choose (λ (t : State). Grows from s.queue t.queue) (skips w (peek_of v.bytes h.cursor).token) _ _ (λ y. grows_same from s.queue) (λ y. put_in))

  in-grows : (r : Rules) (t : Token) → Grows from s.queue (in_verbatim r v h t w s).state.queue
  unfolding in_verbatim
  in-grows r t =
      choose (λ (a : Turn). Grows from s.queue a.state.queue) (closes w h t) _ _ (λ e. closed_in _ _)
      (λ e. choose (λ (a : Turn). Grows from s.queue a.state.queue) (all_blank (bytes_of v h)) _ _ (λ y. blank-in) (λ y. put_in))

  -- the cursor behind it
  closed-far : (c : Cursor) (f : Option ℕ) → h.to ≤ c.pos → h.to ≤ (closed_with v h c w f s).cursor.pos
  unfolding closed_with
  closed-far c None l = l
  closed-far c (Some m) l = omega arith

  in-far : (r : Rules) (t : Token) → h.to ≤ (in_verbatim r v h t w s).cursor.pos
  unfolding in_verbatim blank_content
  in-far r t =
      choose Far (closes w h t) _ _
      (λ e. closed-far _ _ (omega (arith, peek-place v.bytes (flagged (r.after w.here) h.cursor) h.to k.place)))
      (λ e. choose Far (all_blank (bytes_of v h)) _ _
      (λ y. choose Far w.seen _ _ (λ z. omega (arith, k.place)) (λ z. omega (arith, peek-place v.bytes h.cursor h.to k.place)))
      (λ y. omega (arith, k.place)))
    where
      Far : Turn → Type 0
      Far a = h.to ≤ a.cursor.pos

  -- what it leaves out is not shown
  closed-off : (c : Cursor) (f : Option ℕ) (i : ℕ) → Of (map span_of (cut w s.queue)) i → (i < from) × (Shown i (closed_with v h c w f s).state.queue → ⊥)
  unfolding closed_with
  closed-off c None i o =
      let z = cut_apart Loose w i s.queue from g.covers o in
      (z.0, λ x. ⊎_elim z.1 (λ y. omega (arith, z.0, behind-one from _ (omega arith) i y)) (shown-parts i (kept w s.queue) _ x))
  closed-off c (Some m) i o =
      let home = in_text (v.base + (h.to + 2)) (v.base + (h.to + 2) + m) in
      let q = formatted v (h.to + 2) m w s.queue in
      let z = cut_apart Loose w i q from (covers-amend Loose (enter raw_format) home w.event 0 s.queue from g.covers)
      (subst (λ (l : List Event). Of (map span_of l) i) (sym (cut-amend w (becomes (enter raw_format) home) s.queue g.low)) o) in
      (z.0, λ x. ⊎_elim z.1 (λ y. omega (arith, z.0, behind-one from _ (omega arith) i y)) (shown-parts i (kept w q) _ x))

  skipped-off : (i : ℕ) → skips w (peek_of v.bytes h.cursor).token ≡ true → v.base + h.from ≤ i → Shown i (blank_content v h w s).state.queue → ⊥
  unfolding blank_content
  skipped-off i e l x = go w.seen refl
    where
      go : (b : Bool) → w.seen ≡ b → ⊥
      go true y = let z : ◌≡◌ {A = Bool} false true = rw y at e in let u : ◌≡◌ {A = ℕ} 0 1 = cc in omega arith
      go false y =
          let r = shown-within Loose i 0 s.queue from g.covers (rw (y, e, blank_content) at x) in
          omega (arith, l, r.1)

  in-off : (r : Rules) (t : Token) (i : ℕ) → Of (removes_at v h t w s) i → (i < v.base + h.to) × (Shown i (in_verbatim r v h t w s).state.queue → ⊥)
  unfolding in_verbatim removes_at Of
  in-off r t i o = go (closes w h t) refl (all_blank (bytes_of v h)) refl (skips w (peek_of v.bytes h.cursor).token) refl
    where
      Claim : Type 0
      Claim = (i < v.base + h.to) × (Shown i (in_verbatim r v h t w s).state.queue → ⊥)

      one : Of (record { start = v.base + h.from; end = v.base + h.to } ∷ []) i → (v.base + h.from ≤ i) × (i < v.base + h.to)
      one (inl y) = y
      one (inr y) = absurd y

      go : (a : Bool) → closes w h t ≡ a → (b : Bool) → all_blank (bytes_of v h) ≡ b → (c : Bool) → skips w (peek_of v.bytes h.cursor).token ≡ c → Claim
      go true e b y c z =
          let u = closed-off _ _ i (rw (e, removes_at) at o) in
          (omega (arith, u.0, k.long), λ x. u.1 (rw (e, in_verbatim) at x))
      go false e true y true z =
          let u = one (rw (e, y, z, removes_at) at o) in
          (u.1, λ x. skipped-off i z u.0 (rw (e, y, in_verbatim) at x))
      go false e true y false z = absurd (rw (e, y, z, removes_at) at o)
      go false e false y c z = absurd (rw (e, y, removes_at) at o)

-- a byte lies before the turn's place and is not shown, unless a brace was met
abbrev Off : View → ℕ → Turn → Type 0
Off v i a = a.state.refused ≡ None → (i < v.base + a.cursor.pos) × (Shown i a.state.queue → ⊥)

module _ (text : List ℕ) (x : Sheet) (v : View) (m : ℕ) (shows : Shows text v) where
  module _ (a : Turn) (un : a.state.refused ≡ None) (held : Held Any text v m 0 a) where
    -- a step shows nothing anew that lies before it
    pub step-grows : Grows (v.base + a.cursor.pos) a.state.queue (step x v a).state.queue
    unfolding on_token by_place GoodBy
    step-grows = on (next_of v.bytes a.cursor).token refl
      where
        by : (t : Token) → (next_of v.bytes a.cursor).token ≡ Some t → (w : Option Verbatim)
            → GoodBy Any text w (v.base + a.cursor.pos) (m + a.cursor.pos) a.state
            → let h = here_at a.cursor t (next_of v.bytes a.cursor).cursor in
            Grows (v.base + a.cursor.pos) a.state.queue (by_place x v h t w a.state).state.queue
        by t e None g =
            let h = here_at a.cursor t (next_of v.bytes a.cursor).cursor in
            outside-grows Any text x v a.cursor.pos _ (seeking v h t a.state) (out-looking Any text _ _ _ a.state g) _ (refl, omega arith) (role_of t.kind)
        by t e (Some w) g = in-grows Any text w v _ _ (here-ok v a.cursor t held.sound e) a.state g x.rules t

        on : (t : Option Token) → (next_of v.bytes a.cursor).token ≡ t
            → Grows (v.base + a.cursor.pos) a.state.queue (on_token x v a t (next_of v.bytes a.cursor).cursor).state.queue
        on None e = grows_same _ a.state.queue
        on (Some t) e = by t e a.state.inside (held.good un).good

    -- nor does it go back
    step-far : (step x v a).state.refused ≡ None → a.cursor.pos ≤ (step x v a).cursor.pos
    step-far z =
        let here : Held Any text v m a.cursor.pos a = record {
          sound = held.sound;
          few = held.few;
          opens = held.opens;
          good = λ e. record { sound = held.sound; far = omega arith; good = (held.good e).good };
        } in
        ⊎_elim
        (λ (k : Held Any text v m (suc a.cursor.pos) (step x v a)). omega (arith, (k.good z).far))
        (λ (k : Held Any text v m (length v.bytes) (step x v a)). omega (arith, (k.good z).far, held.sound.place))
        (step-held Any text x v m shows a held.sound a.cursor.pos here un (λ i o. tt))

    step-off : (i : ℕ) → Off v i a → Off v i (step x v a)
    step-off i off z =
        let o = off un in
        (omega (arith, o.0, step-far z), λ y. ⊎_elim o.1 (λ (l : v.base + a.cursor.pos ≤ i). omega (arith, l, o.0)) (step-grows i y))

    -- what it leaves out is not shown
    step_left : (i : ℕ) → Of (step_removes v a) i → Off v i (step x v a)
    unfolding step_removes removes_on removes_in on_token by_place GoodBy Of
    step_left i o = on (next_of v.bytes a.cursor).token refl o
      where
        by : (t : Token) → (next_of v.bytes a.cursor).token ≡ Some t → (w : Option Verbatim)
            → GoodBy Any text w (v.base + a.cursor.pos) (m + a.cursor.pos) a.state
            → let h = here_at a.cursor t (next_of v.bytes a.cursor).cursor in
            Of (removes_in v h t w a.state) i → Off v i (by_place x v h t w a.state)
        by t e None g o = absurd o
        by t e (Some w) g o =
            let k = here-ok v a.cursor t held.sound e in
            let u = in-off Any text w v _ _ k a.state g x.rules t i o in
            λ z. (omega (arith, u.0, in-far Any text w v _ _ k a.state g x.rules t), u.1)

        on : (t : Option Token) → (next_of v.bytes a.cursor).token ≡ t
            → Of (removes_on v a t (next_of v.bytes a.cursor).cursor) i → Off v i (on_token x v a t (next_of v.bytes a.cursor).cursor)
        on None e o = absurd o
        on (Some t) e o = by t e a.state.inside (held.good un).good o

  -- any number of steps
  steps-off : (n : ℕ) (a : Turn) (i : ℕ) → Held Any text v m 0 a → Off v i a → Off v i (steps n x v a)
  unfolding steps
  steps-off zero a i held off = off
  steps-off (suc n) a i held off =
      either (Off v i) a.state.refused _ _ (λ p e. off)
      (λ e. steps-off n (step x v a) i (step-on Any text x v m shows (λ j. tt) a e held) (step-off a e held i off))

  steps-left : (n : ℕ) (a : Turn) (i : ℕ) → Held Any text v m 0 a → Of (steps_remove n x v a) i → Off v i (steps n x v a)
  unfolding steps steps_remove Of
  steps-left zero a i held o = absurd o
  steps-left (suc n) a i held o =
      either₂ (λ (d : List Line) (b : Turn). Of d i → Off v i b) a.state.refused _ _ _ _ (λ p e o. absurd o)
      (λ e o.
      let then = step-on Any text x v m shows (λ j. tt) a e held in
      ⊎_elim
      (λ (y : Of (step_removes v a) i). steps-off n (step x v a) i then (step_left a e held i y))
      (λ (y : Of (steps_remove n x v (step x v a)) i). steps-left n (step x v a) i then y)
      (of_parts (step_removes v a) (steps_remove n x v (step x v a)) i o)) o

-- behind some lines
abbrev Past : ℕ → ℕ → State → Type 0
Past i at s = s.refused ≡ None → (i < at) × (Shown i s.queue → ⊥)

module _ (x : Sheet) where
  module _ (l : Line) (at m : ℕ) (s : State) (low : at ≤ l.start) (up : l.start ≤ l.end) (in_text : l.end ≤ length x.text) (h : Stood Any x.text x at m s) (i : ℕ) where
    abbrev view : View
    view = view_of x.text l

    gap : Gap Any at l.start
    gap = record { up = low; loose = λ j a b. tt }

    begun-fine : Held Any x.text view m 0 (begun x view s)
    begun-fine = begun-held Any x.text x view at m s gap h

    -- the line's end
    ended : Off view i (steps (length view.bytes) x view (begun x view s)) → Past i l.end (line x view s)
    ended off e =
        let k = steps-some Any x.text x view m (view-shows x.text l up in_text) (length view.bytes) (begun x view s) begun-fine (λ j o. tt) in
        (omega (arith, (off e).0, k.sound.place, view-long x.text l up in_text), (off e).1)

    line-off : Past i l.start s → Past i l.end (line x view s)
    line-off p =
        ended (steps-off x.text x view m (view-shows x.text l up in_text) (length view.bytes) (begun x view s) i begun-fine
        (λ e. (omega (arith, (p e).0), (p e).1)))

    line-left : Of (steps_remove (length view.bytes) x view (begun x view s)) i → Past i l.end (line x view s)
    line-left o = ended (steps-left x.text x view m (view-shows x.text l up in_text) (length view.bytes) (begun x view s) i begun-fine o)

    line-fed : Stood Any x.text x l.end (m + (l.end - l.start)) (line x view s)
    line-fed = fed-stood Any x.text x l at m s up in_text gap h (λ j o. tt)

  lines-off : (ls : List Line) (at m : ℕ) (s : State) (i : ℕ) → Rising x.text at ls → Stood Any x.text x at m s → Past i at s
      → Past i (end_of ls at) (lines x (views x.text ls) s)
  unfolding Rising lines end_of
  lines-off [] at m s i r h p = p
  lines-off (l ∷ ls) at m s i r h p =
      lines-off ls l.end (m + (l.end - l.start)) _ i r.3 (line-fed l at m s r.0 r.1 r.2 h i)
      (line-off l at m s r.0 r.1 r.2 h i (λ e. (omega (arith, (p e).0, r.0), (p e).1)))

  lines_left : (ls : List Line) (at m : ℕ) (s : State) (i : ℕ) → Rising x.text at ls → Stood Any x.text x at m s
      → Of (lines_remove x (views x.text ls) s) i → Past i (end_of ls at) (lines x (views x.text ls) s)
  unfolding Rising lines lines_remove end_of Of
  lines_left [] at m s i r h o = absurd o
  lines_left (l ∷ ls) at m s i r h o =
      let v = view_of x.text l in
      let d = steps_remove (length v.bytes) x v (begun x v s) in
      let fed = line-fed l at m s r.0 r.1 r.2 h i in
      ⊎_elim
      (λ (y : Of d i). lines-off ls l.end (m + (l.end - l.start)) (line x v s) i r.3 fed (line-left l at m s r.0 r.1 r.2 h i y))
      (λ (y : Of (lines_remove x (views x.text ls) (line x v s)) i). lines_left ls l.end (m + (l.end - l.start)) (line x v s) i r.3 fed y)
      (of_parts d (lines_remove x (views x.text ls) (line x v s)) i o)

  -- a byte of no line, before their end: it is not shown before the lines behind it are fed, and so not later
  lines-gap : (ls : List Line) (at m : ℕ) (s : State) (i : ℕ) → Rising x.text at ls → Stood Any x.text x at m s → (Of ls i → ⊥) → at ≤ i → i < end_of ls at
      → Past i (end_of ls at) (lines x (views x.text ls) s)
  unfolding Rising lines end_of Of
  lines-gap [] at m s i r h un lo hi = absurd (omega (arith, lo, hi))
  lines-gap (l ∷ ls) at m s i r h un lo hi =
      go (dec_lt i l.start) (dec_lt i l.end) (λ p. lines-off ls l.end (m + (l.end - l.start)) _ i r.3 fed p)
      (λ b. lines-gap ls l.end (m + (l.end - l.start)) _ i r.3 fed (λ o. un (inr o)) b hi)
    where
      fed : Stood Any x.text x l.end (m + (l.end - l.start)) (line x (view_of x.text l) s)
      fed = line-fed l at m s r.0 r.1 r.2 h i

      go : Dec (i < l.start) → Dec (i < l.end)
          → (Past i l.end (line x (view_of x.text l) s) → Past i (end_of ls l.end) (lines x (views x.text ls) (line x (view_of x.text l) s)))
          → (l.end ≤ i → Past i (end_of ls l.end) (lines x (views x.text ls) (line x (view_of x.text l) s)))
          → Past i (end_of ls l.end) (lines x (views x.text ls) (line x (view_of x.text l) s))
      go (yes a) b f later =
          f (line-off l at m s r.0 r.1 r.2 h i
          (λ e. (a, λ y. absurd (omega (arith, lo, (shown-within Any i 0 s.queue at (good-covers Any x.text s.inside at m s (h.good e)) y).1)))))
      go (no a) (yes b) f later = absurd (un (inl (omega (arith, a), b)))
      go (no a) (no b) f later = later (omega (arith, b))

-- the exit at the end has no width
end-shown : (i b : ℕ) (w : Option Verbatim) (s : State) → Shown i (ended_at b w s).queue → Shown i s.queue
unfolding ended_at Shown
end-shown i b None s y = y
end-shown i b (Some w) s y = ⊎_elim (λ (z : Shown i s.queue). z) none (shown-parts i s.queue _ y)
  where
    none : Shown i (exit_of (get_or s.queue w.event nothing) b b ∷ []) → Shown i s.queue
    none (inl z) = absurd (omega (arith, z.1, z.2))
    none (inr z) = absurd z

-- draining shows nothing anew: of a Str that is held, and of what follows
flushed-shown : (i a b : ℕ) (es : List Event) → Shown i (flushed a b es) → ((a ≤ i) × (i < b)) ⊎ Shown i es
unfolding flushed Shown
flushed-shown i a b es = choose (λ (l : List Event). Shown i l → ((a ≤ i) × (i < b)) ⊎ Shown i es) (eqb a b) _ _ (λ e y. inr y) (λ e y. held y)
  where
    held : Shown i (event str a b ∷ es) → ((a ≤ i) × (i < b)) ⊎ Shown i es
    held (inl y) = inl (y.1, y.2)
    held (inr y) = inr y

drained-shown : (i a b : ℕ) (es : List Event) → Shown i (drained a b es) → ((a ≤ i) × (i < b)) ⊎ Shown i es
unfolding drained Shown link_exit
drained-shown i a b [] y = flushed-shown i a b [] y
drained-shown i a b (e ∷ es) y =
    choose From (eqb e.kind str) _ _
    (λ k. choose From (touches b e) _ _
    (λ t y. ⊎_elim (λ (z : (a ≤ i) × (i < e.end.0)). joined k (eqb-true b e.start.0 t) z) (λ (z : Shown i es). inr (inr z)) (drained-shown i a e.end.0 es y))
    (λ t y. then k (drained-shown i e.start.0 e.end.0 es) (flushed-shown i a b _ y)))
    (λ k y. other (drained-shown i e.end.0 e.end.0 es) (flushed-shown i a b _ y)) y
  where
    From : List Event → Type 0
    From l = Shown i l → ((a ≤ i) × (i < b)) ⊎ Shown i (e ∷ es)

    -- a Str is shown
    own : eqb e.kind str ≡ true → e.start.0 ≤ i → i < e.end.0 → Shown i (e ∷ es)
    own k l u = inl (subst (λ (n : ℕ). link_exit n ≡ false) (sym (eqb-true e.kind str k)) refl, l, u)

    joined : eqb e.kind str ≡ true → b ≡ e.start.0 → (a ≤ i) × (i < e.end.0) → ((a ≤ i) × (i < b)) ⊎ Shown i (e ∷ es)
    joined k t z = go (dec_lt i b)
      where
        go : Dec (i < b) → ((a ≤ i) × (i < b)) ⊎ Shown i (e ∷ es)
        go (yes u) = inl (z.0, u)
        go (no u) = inr (own k (omega arith) z.1)

    -- the events behind it, drained from p on
    Later : ℕ → Type 0
    Later p = Shown i (drained p e.end.0 es) → ((p ≤ i) × (i < e.end.0)) ⊎ Shown i es

    then : eqb e.kind str ≡ true → Later e.start.0 → ((a ≤ i) × (i < b)) ⊎ Shown i (drained e.start.0 e.end.0 es) → ((a ≤ i) × (i < b)) ⊎ Shown i (e ∷ es)
    then k later (inl z) = inl z
    then k later (inr z) = inr (⊎_elim (λ (u : (e.start.0 ≤ i) × (i < e.end.0)). own k u.0 u.1) (λ (u : Shown i es). inr u) (later z))

    other : Later e.end.0 → ((a ≤ i) × (i < b)) ⊎ Shown i (e ∷ drained e.end.0 e.end.0 es) → ((a ≤ i) × (i < b)) ⊎ Shown i (e ∷ es)
    other later (inl z) = inl z
    other later (inr (inl z)) = inr (inl z)
    other later (inr (inr z)) =
        inr (⊎_elim (λ (u : (e.end.0 ≤ i) × (i < e.end.0)). absurd (omega (arith, u.0, u.1))) (λ (u : Shown i es). inr u) (later z))

module _ (x : Sheet) (ls : List Line) (r : Rising x.text 0 ls) (s : State) (is : s ≡ lines x (views x.text ls) start) (e : s.refused ≡ None) (i : ℕ) where
  abbrev drawn : List Event
  drawn = drained 0 0 (ended_at (end_of ls 0) s.inside s).queue

  past-hidden : Past i (end_of ls 0) (lines x (views x.text ls) start) → Shown i drawn → ⊥
  past-hidden p y =
      ⊎_elim (λ (z : (0 ≤ i) × (i < 0)). omega (arith, z.1)) (λ z. (subst (Past i (end_of ls 0)) (sym is) p e).1 (end-shown i (end_of ls 0) s.inside s z))
      (drained-shown i 0 0 (ended_at (end_of ls 0) s.inside s).queue y)

  -- what the rules leave out is not shown
  pub left-hidden : Of (removed x ls) i → Shown i drawn → ⊥
  left-hidden o = past-hidden (lines_left x ls 0 0 start i r (start-stood Any x.text x) o)

  -- nor is a byte of no line
  pub fed-shown : Shown i drawn → i < end_of ls 0 → Of ls i
  fed-shown y hi = go (of-dec ls i)
    where
      go : Dec (Of ls i) → Of ls i
      go (yes o) = o
      go (no n) = absurd (past-hidden (lines-gap x ls 0 0 start i r (start-stood Any x.text x) n (omega arith) hi) y)
