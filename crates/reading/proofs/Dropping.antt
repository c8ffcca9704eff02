-- What the rules take out of the queue, or never put there, is what the verbatim rule drops by the tokens: of every sheet `dropped` is `removed`.
use Rattle.std.specs.Prelude.{None, Option, Some}
use Prim.Native.Nat.{ℕ, zero, suc, ◌+◌, ◌-◌, ◌≤◌}
use mathlib.Core.Path.{◌≡◌, refl, sym, ap, ◌∙◌, subst}
use mathlib.Core.List.{List, [], ◌∷◌, ◌++◌, map, map-append}
use mathlib.Core.Bool.{Bool, true, false, not, ◌&&◌}
use native.Mathlib.Omega.{arith}
use lib.ListN.{length, drop, length-append, drop_of_length-le}
use lib.Seq.{drop-append-le}
use Rattle.lex.specs.declared.lex.Token.{Token}
use Rattle.lex.specs.declared.lex.Cursor.{Cursor}
use Rattle.lex.specs.Lexer.{next_of, peek_of}
use Rattle.reading.specs.declared.Event.{Event}
use Rattle.reading.specs.declared.Line.{Line}
use Rattle.reading.specs.declared.Verbatim.{Verbatim}
use Rattle.reading.specs.Events.{event, enter, shorter, str}
use Rattle.reading.specs.Machine.{View, Rules, Sheet, State, Turn, Here, view_of, amend_last, put}
use Rattle.reading.specs.Tokens.{role_of, is_run}
use Rattle.reading.specs.Verbatim.{taken, opened_as, opens_verbatim, closes, closed_with, all_blank, bytes_of, another_run, skips, content}
use Rattle.reading.specs.Verbatim.{blank_content, in_verbatim, moved_on}
use Rattle.reading.specs.Containers.{close_as}
use Rattle.reading.specs.Reading.{outside, by_place, here_at, on_token, step, steps, begun, line, views, start}
use Rattle.reading.specs.Looks.{seeking}
use Rattle.reading.specs.Dropped.{Content, no_content, token_at, longer_or_shorter, leads, trailing, drops_at, content_with, drops_in}
use Rattle.reading.specs.Dropped.{content_in, drops_on, content_on, step_drops, step_content, steps_drop, steps_content, lines_drop, dropped}
use Rattle.reading.proofs.Choose.{choose, choose₂}
use Rattle.reading.proofs.Removed.{span_of, cut, removes_at, removes_in, removes_on, step_removes, steps_remove, lines_remove, removed}
use Rattle.reading.proofs.Spans.{length-amend-last}
use Rattle.reading.proofs.Good.{Good, GoodBy}
use Rattle.reading.proofs.Backticks.{Shows}
use Rattle.reading.proofs.Stepping.{Held, either₂}
use Rattle.reading.proofs.Ruling.{ruled}
use Rattle.reading.proofs.Feeding.{Stood, Rising, Apart, view-shows, step-on, begun-held, fed-stood, start-stood}

-- the content by the tokens is what the reading notes of an open verbatim, and the blanks since the last content are its last events
pub record Tracks (w : Verbatim) (s : State) (c : Content) : Type 0 where
  pub seen : c.seen ≡ w.seen
  pub run : c.run ≡ w.run
  pub blanks : c.blanks ≡ map span_of (drop w.keep s.queue)

unfoldable pub TracksBy : Option Verbatim → State → Content → Type 0
TracksBy None s c = Unit {0}
TracksBy (Some w) s c = Tracks w s c

-- a run of another length, in both definitions
other-run : (w : Verbatim) (t : Option Token) → longer_or_shorter w.len t ≡ another_run w t
unfolding longer_or_shorter another_run
other-run w None = refl
other-run w (Some t) = refl

module _ (v : View) (h : Here) (w : Verbatim) (s : State) (c : Content) (k : Tracks w s c) where
  abbrev behind : Option Token
  behind = (peek_of v.bytes h.cursor).token

  led : leads v h w.len c ≡ skips w behind
  led = rw (k.seen, other-run w behind)

  cut-tracked : trailing c ≡ map span_of (cut w s.queue)
  unfolding trailing cut
  cut-tracked = go w.run refl
    where
      go : (b : Bool) → w.run ≡ b → trailing c ≡ map span_of (cut w s.queue)
      go true e = rw (k.run, e, trailing, cut) k.blanks
      go false e = rw (k.run, e, trailing, cut)

  -- the same is dropped at a token
  at_same : (t : Token) → drops_at v h t w.len c ≡ removes_at v h t w s
  unfolding drops_at removes_at
  at_same t =
      choose₂ (λ (l m : List Line). l ≡ m) (closes w h t) _ _ _ _ (λ e. cut-tracked)
      (λ e. ap (λ (b : Bool). elim (all_blank (bytes_of v h) && b) [ true ↦ token_at v h ∷ [] | false ↦ [] ]) led)

  -- and the content behind it is tracked: nothing is where it closes
  module _ (is : s.inside ≡ Some w) (high : w.keep ≤ length s.queue) (t : Token) where
    abbrev After : Turn → Content → Type 0
    After b d = TracksBy b.state.inside b.state d

    closed-tracked : (f : Cursor) (g : Option ℕ) (d : Content) → After (closed_with v h f w g s) d
    unfolding closed_with TracksBy
    closed-tracked f None d = tt
    closed-tracked f (Some n) d = tt

    -- a blank that stays, and one that is dropped
    abbrev more : Content
    more = record { seen = c.seen; run = c.run; blanks = c.blanks ++ (token_at v h ∷ []) }

    put-tracked : TracksBy s.inside (put v str h.from h.to s) more
    unfolding TracksBy
    put-tracked =
        subst (λ (i : Option Verbatim). TracksBy i (put v str h.from h.to s) more) (sym is)
        (record {
          seen = k.seen;
          run = k.run;
          blanks = ap (λ (l : List Line). l ++ (token_at v h ∷ [])) k.blanks
              ∙ sym (ap (map span_of) (drop-append-le w.keep s.queue _ high) ∙ map-append span_of (drop w.keep s.queue) _);
        })

    same-tracked : TracksBy s.inside s c
    unfolding TracksBy
    same-tracked = subst (λ (i : Option Verbatim). TracksBy i s c) (sym is) k

    blank-tracked : After (blank_content v h w s) (elim (skips w behind) [ true ↦ c | false ↦ more ])
    unfolding blank_content
    blank-tracked =
        choose (λ (b : Turn). After b (elim (skips w behind) [ true ↦ c | false ↦ more ])) w.seen _ _
        (λ e.
        subst (λ (b : Bool). TracksBy s.inside (put v str h.from h.to s) (elim b [ true ↦ c | false ↦ more ]))
        (sym (ap (λ (b : Bool). not b && another_run w behind) e)) put-tracked)
        (λ e. choose₂ (λ (a : State) (d : Content). TracksBy a.inside a d) (skips w behind) _ _ _ _ (λ y. same-tracked) (λ y. put-tracked))

    -- any other token
    content-tracked : After (record { cursor = h.cursor; state = content v h t w s }) (record { seen = true; run = is_run (role_of t.kind); blanks = [] })
    unfolding TracksBy
    content-tracked =
        let e = event str (v.base + h.from) (v.base + h.to) in
        let l : length (s.queue ++ e ∷ []) ≤ suc (length s.queue) = omega (arith, length-append s.queue (e ∷ [])) in
        record { seen = refl; run = refl; blanks = sym (ap (map span_of) (drop_of_length-le (s.queue ++ e ∷ []) l)) }

    in-tracked : (r : Rules) → After (in_verbatim r v h t w s) (content_with v h t w.len c)
    unfolding in_verbatim content_with
    in-tracked r =
        choose (λ (b : Turn). After b (content_with v h t w.len c)) (closes w h t) _ _ (λ e. closed-tracked _ _ _)
        (λ e.
        choose₂ After (all_blank (bytes_of v h)) _ _ _ _
        (λ y. subst (λ (b : Bool). After (blank_content v h w s) (elim b [ true ↦ c | false ↦ more ])) (sym led) blank-tracked)
        (λ y. content-tracked))

-- a token outside verbatim: what opens has no content
opened-tracked : (v : View) (h : Here) (s : State) → TracksBy (opens_verbatim v h s).state.inside (opens_verbatim v h s).state no_content
unfolding TracksBy
opened-tracked v h s =
    let n = taken s.last (v.base + h.from) in
    let q = amend_last (shorter n) s.queue in
    let e = event (enter (opened_as n)) (v.base + h.from - n) (v.base + h.to) in
    let l : length (q ++ e ∷ []) ≤ suc (length s.queue) = omega (arith, length-append q (e ∷ []), length-amend-last (shorter n) s.queue) in
    record { seen = refl; run = refl; blanks = sym (ap (map span_of) (drop_of_length-le (q ++ e ∷ []) l)) }

-- nothing is tracked outside verbatim
out-tracked : (s : State) (c : Content) → s.inside ≡ None → TracksBy s.inside s c
unfolding TracksBy
out-tracked s c e = subst (λ (i : Option Verbatim). TracksBy i s c) (sym e) tt

module _ (Loose : ℕ → Type 0) (x : Sheet) (v : View) where
  outside-tracked : (h : Here) (t : Token) (s : State) → s.inside ≡ None
      → let b = outside x v h (role_of t.kind) (seeking v h t s) in TracksBy b.state.inside b.state no_content
  unfolding close_as
  outside-tracked h t s is =
      ruled x x v (seeking v h t s) (λ a b. TracksBy a.state.inside a.state no_content) (λ a k. out-tracked a.state no_content (ap (λ z. z.1) k ∙ is))
      (λ h o t os. out-tracked _ no_content is) (λ h'. opened-tracked v h' (seeking v h t s)) (λ p. refl) (λ h. out-tracked _ no_content is) h (role_of t.kind)

  module _ (text : List ℕ) (at n : ℕ) (a : Turn) where
    -- a token: the same is dropped, and the content behind it is tracked
    module _ (h : Here) (t : Token) (c : Content) where
      by-tracked : (w : Option Verbatim) → a.state.inside ≡ w → GoodBy Loose text w at n a.state → TracksBy w a.state c
          → let b = by_place x v h t w a.state in
          (drops_in v h t w c ≡ removes_in v h t w a.state) × TracksBy b.state.inside b.state (content_in v h t w c)
      unfolding by_place GoodBy TracksBy drops_in removes_in content_in
      by-tracked None is g k = (refl, outside-tracked h t a.state is)
      by-tracked (Some w) is g k = (at_same v h w a.state c k t, in-tracked v h w a.state c k is g.high t x.rules)

    module _ (c : Content) (g : Good Loose text at n a.state) (k : TracksBy a.state.inside a.state c) where
      on-tracked : (t : Option Token) (d : Cursor)
          → let b = on_token x v a t d in
          (drops_on v a t d c ≡ removes_on v a t d) × TracksBy b.state.inside b.state (content_on v a t d c)
      unfolding on_token drops_on removes_on content_on
      on-tracked None d = (refl, k)
      on-tracked (Some t) d = by-tracked (here_at a.cursor t d) t c a.state.inside refl g k

      step-tracked : let b = step x v a in (step_drops v a c ≡ step_removes v a) × TracksBy b.state.inside b.state (step_content v a c)
      unfolding step_removes
      step-tracked = on-tracked (next_of v.bytes a.cursor).token (next_of v.bytes a.cursor).cursor

  -- a turn where no brace is met
  abbrev Ready : Turn → Content → Type 0
  Ready a c = a.state.refused ≡ None → TracksBy a.state.inside a.state c

  module _ (free : (i : ℕ) → Loose i) (text : List ℕ) (m : ℕ) (shows : Shows text v) where
    now-tracked : (a : Turn) (c : Content) → Held Loose text v m 0 a → Ready a c → a.state.refused ≡ None
        → (step_drops v a c ≡ step_removes v a) × TracksBy (step x v a).state.inside (step x v a).state (step_content v a c)
    now-tracked a c h k e = step-tracked text (v.base + a.cursor.pos) (m + a.cursor.pos) a c (h.good e).good (k e)

    -- so many steps
    steps-tracked : (n : ℕ) (a : Turn) (c : Content) → Held Loose text v m 0 a → Ready a c
        → (steps_drop n x v a c ≡ steps_remove n x v a) × Ready (steps n x v a) (steps_content n x v a c)
    unfolding steps steps_drop steps_remove steps_content
    steps-tracked zero a c h k = (refl, k)
    steps-tracked (suc n) a c h k =
        let later : a.state.refused ≡ None
        → (steps_drop n x v (step x v a) (step_content v a c) ≡ steps_remove n x v (step x v a))
        × Ready (steps n x v (step x v a)) (steps_content n x v (step x v a) (step_content v a c))
        = λ e. steps-tracked n (step x v a) (step_content v a c) (step-on Loose text x v m shows free a e h) (λ z. (now-tracked a c h k e).1) in (
          either₂ (λ (l d : List Line). l ≡ d) a.state.refused _ _ _ _ (λ p e. refl)
              (λ e.
              ap (λ (l : List Line). l ++ steps_drop n x v (step x v a) (step_content v a c)) (now-tracked a c h k e).0
              ∙ ap (λ (l : List Line). step_removes v a ++ l) (later e).0),
          either₂ Ready a.state.refused _ _ _ _ (λ p e. k) (λ e. (later e).1),
        )

-- a verbatim goes on in the next line
begun-tracked : (w : Option Verbatim) (s t : State) (c : Content) → t.queue ≡ s.queue → TracksBy w s c → TracksBy (moved_on w) t c
unfolding TracksBy moved_on
begun-tracked None s t c e k = tt
begun-tracked (Some w) s t c e k =
    record { seen = k.seen; run = k.run; blanks = k.blanks ∙ ap (λ (q : List Event). map span_of (drop w.keep q)) (sym e) }

module _ (Loose : ℕ → Type 0) (free : (i : ℕ) → Loose i) (x : Sheet) where
  -- all lines
  lines-tracked : (ls : List Line) (at m : ℕ) (s : State) (c : Content) → Rising x.text at ls → Apart Loose x.text x at ls → Stood Loose x.text x at m s
      → (s.refused ≡ None → TracksBy s.inside s c) → lines_drop x (views x.text ls) s c ≡ lines_remove x (views x.text ls) s
  unfolding Rising Apart lines_drop lines_remove
  lines-tracked [] at m s c r p h k = refl
  lines-tracked (l ∷ ls) at m s c r p h k =
      let v = view_of x.text l in
      let shows = view-shows x.text l r.1 r.2 in
      let a = begun x v s in
      let held = begun-held Loose x.text x v at m s p.0 h in
      let here = steps-tracked Loose x v free x.text m shows (length v.bytes) a c held (λ e. begun-tracked s.inside s a.state c refl (k e)) in
      let d = steps_content (length v.bytes) x v a c in
      let stood = fed-stood Loose x.text x l at m s r.1 r.2 p.0 h (λ i o. free i) in
      ap (λ (z : List Line). z ++ lines_drop x (views x.text ls) (line x v s) d) here.0
      ∙ ap (λ (z : List Line). steps_remove (length v.bytes) x v a ++ z)
      (lines-tracked ls l.end (m + (l.end - l.start)) (line x v s) d r.3 p.1 stood here.1)

  pub dropped-removed : (ls : List Line) → Rising x.text 0 ls → Apart Loose x.text x 0 ls → dropped x ls ≡ removed x ls
  unfolding TracksBy
  dropped-removed ls r p = lines-tracked ls 0 0 start no_content r p (start-stood Loose x.text x) (λ e. tt)
