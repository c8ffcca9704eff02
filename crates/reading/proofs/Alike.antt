-- Two readings side by side: of two texts of one length that have the same views and agree where a reading looks, in two label rooms. Their events differ
-- in the homes of links at most, whatever is in the label rooms; and where all labels fit, what a home holds is the same in both, save of the links that K leaves out.
use Rattle.std.specs.Prelude.{None, Option, Some}
use Rattle.reading.specs.declared.Place.{Place}
use Rattle.reading.specs.declared.Verbatim.{Verbatim}
use Prim.Native.Nat.{ℕ, zero, suc, ◌+◌}
use mathlib.Core.Path.{◌≡◌, refl, sym, ap, ◌∙◌, subst}
use mathlib.Core.List.{List, [], ◌∷◌, ◌++◌}
use mathlib.Core.Bool.{Bool, true}
use native.Mathlib.Omega.{arith}
use borrow.Author.Tests.{eqb-true, eqb-false}
use lib.Dec.{eqb}
use lib.ListN.{length, length-append}
use Rattle.lex.specs.declared.lex.Token.{Token}
use Rattle.lex.specs.declared.lex.Cursor.{Cursor}
use Rattle.lex.specs.Lexer.{next_of}
use Rattle.reading.specs.declared.Line.{Line}
use Rattle.reading.specs.declared.Event.{Event}
use Rattle.reading.specs.Walked.{events}
use Rattle.reading.specs.Machine.{rules_of, view_of, View, Rules, Sheet, State, Turn, Here, looking}
use Rattle.reading.specs.Tokens.{role_of}
use Rattle.reading.specs.Verbatim.{ended_at}
use Rattle.reading.specs.Reading.{by_place, here_at, on_token, step, unless, steps, begun, line, lines, start, end_of, views, read, sheet, outside}
use Rattle.reading.specs.Dropped.{Content, no_content, drops_on, content_on, step_drops, step_content, steps_drop, steps_content, lines_drop, dropped}
use Rattle.reading.specs.Margin.{Spanned, destination, steps_close, lines_close, destinations}
use Rattle.reading.proofs.Choose.{choose}
use Rattle.reading.proofs.Stepping.{either₂}
use Rattle.reading.proofs.Links.{links-step, links-up}
use Rattle.reading.proofs.Looks.{taken_looks, step_looks, looks-step, ended-looks}
use Rattle.reading.proofs.Like.{AllLike, like-other, like-drained, same-events}
use Rattle.reading.proofs.Telling.{Same}
use Rattle.reading.proofs.Sides.{Side, Even, Facts, Then, outside-even, in-even, side-ended}
use Rattle.reading.specs.Looks.{seeks_of, looked, look}
use Rattle.reading.specs.declared.Opener.{Opener}

-- each step counts the links that it closes
counted : (x : Sheet) (v : View) (a : Turn) → (step x v a).state.links.0 ≡ a.state.links.0 + length (destination a.state (step x v a).state)
unfolding destination
counted x v a =
    choose (λ (ds : List (List Event)). (step x v a).state.links.0 ≡ a.state.links.0 + length ds) (eqb (step x v a).state.links.0 a.state.links.0) _ _
    (λ e. omega (arith, eqb-true _ _ e))
    (λ e. omega (arith, eqb-false _ _ e, links-step x v a, links-up x v a))

steps-counted : (n : ℕ) (x : Sheet) (v : View) (a : Turn) → (steps n x v a).state.links.0 ≡ a.state.links.0 + length (steps_close n x v a)
unfolding steps steps_close
steps-counted zero x v a = omega arith
steps-counted (suc n) x v a =
    either₂ (λ (ds : List (List Event)) (b : Turn). b.state.links.0 ≡ a.state.links.0 + length ds) a.state.refused _ _ _ _ (λ p e. omega arith)
    (λ e. omega (arith, counted x v a, steps-counted n x v (step x v a), length-append (destination a.state (step x v a).state) (steps_close n x v (step x v a))))

-- a turn with another state
abbrev from : Turn → State → Turn
from a s = record { cursor = a.cursor; state = s }

-- what K is of the links from the k-th on, by their destinations
module _ (t u : List ℕ) (K : ℕ → Type 0) where
  unfoldable pub Ahead : ℕ → List (List Event) → Type 0
  Ahead k [] = Unit {0}
  Ahead k (d ∷ ds) = (K k → (j : ℕ) → Spanned j d → Same t u j) × Ahead (suc k) ds

  ahead-left : (k : ℕ) (a b : List (List Event)) → Ahead k (a ++ b) → Ahead k a
  unfolding Ahead
  ahead-left k [] b h = tt
  ahead-left k (d ∷ a) b h = (h.0, ahead-left (suc k) a b h.1)

  ahead-right : (k : ℕ) (a b : List (List Event)) → Ahead k (a ++ b) → Ahead (k + length a) b
  unfolding Ahead
  ahead-right k [] b h = subst (λ (n : ℕ). Ahead n b) (omega arith) h
  ahead-right k (d ∷ a) b h = subst (λ (n : ℕ). Ahead n b) (omega arith) (ahead-right (suc k) a b h.1)

  -- where the texts are the same everywhere
  pub ahead-all : ((j : ℕ) → Same t u j) → (k : ℕ) (ds : List (List Event)) → Ahead k ds
  unfolding Ahead
  ahead-all f k [] = tt
  ahead-all f k (d ∷ ds) = (λ y j z. f j, ahead-all f (suc k) ds)

  ahead-now : (k : ℕ) (a : List (List Event)) → Ahead k a → (ds : List Event) → a ≡ ds ∷ [] → K k → (j : ℕ) → Spanned j ds → Same t u j
  unfolding Ahead
  ahead-now k a h ds e = (subst (λ (l : List (List Event)). Ahead k l) e h).0

module _ (t u : List ℕ) (long : length t ≡ length u) (K : ℕ → Type 0) (One : Type 0) (one : One → (n : ℕ) → K n) (rules : Rules) (block : ℕ → Bool) (m n : ℕ)
    (Ok : View → Turn → Type 0) (Oks : List Line → State → Type 0) where
  abbrev x : Sheet
  x = record { rules = rules; text = t; room = m; block = block }

  abbrev y : Sheet
  y = record { rules = rules; text = u; room = n; block = block }

  module _ (facts : (v : View) (a : Turn) → Ok v a → a.state.refused ≡ None → Facts t u K One v a.state a.cursor.pos (step x v a).cursor.pos)
      (next : (v : View) (a : Turn) → Ok v a → a.state.refused ≡ None → Ok v (step x v a))
      (begin : (l : Line) (ls : List Line) (s : State) → Oks (l ∷ ls) s → Ok (view_of t l) (begun x (view_of t l) s))
      (rest : (l : Line) (ls : List Line) (s : State) → Oks (l ∷ ls) s → Oks ls (line x (view_of t l) s)) where
    -- one step
    module _ (v : View) (a : Turn) (r : State) (d : Side t u K One a.state r) where
      abbrev b : Turn
      b = from a r

      step-even : Facts t u K One v a.state a.cursor.pos (step x v a).cursor.pos → Ahead t u K a.state.links.0 (destination a.state (step x v a).state)
          → Even t u K One (step x v a) (step y v b)
      unfolding on_token by_place destination
      step-even f h = on (next_of v.bytes a.cursor).token (ahead-now t u K _ _ h) (omega arith)
        where
          to : ℕ
          to = (step x v a).cursor.pos

          looked-side : (k : ℕ) → Side t u K One (looking k a.state) (looking k r)
          looked-side k =
              record { openers = d.openers; inside = d.inside; last = d.last; links = d.links; refused = d.refused; queue = d.queue; labels = d.labels }

          same-facts : (k : ℕ) → Facts t u K One v a.state a.cursor.pos to → Facts t u K One v (looking k a.state) a.cursor.pos to
          same-facts k f = record { shown = f.shown; behind = f.behind; line = f.line }

          by : (h : Here) → h.from ≡ a.cursor.pos → (tk : Token) (w : Option Verbatim)
              → Then t u long K One one rules block m n v a.cursor.pos a.state r d to f (by_place x v h tk w a.state) (by_place y v h tk w r)
          by h e tk None =
              let k = seeks_of v h tk.kind in
              subst
              (λ (os : List Opener).
              Then t u long K One one rules block m n v a.cursor.pos a.state r d to f (outside x v h (role_of tk.kind) (look k a.state))
              (outside y v h (role_of tk.kind) (looking (looked k os) r)))
              (sym d.openers) (outside-even t u long K One one rules block m n v a.cursor.pos (look k a.state) (looking (looked k a.state.openers) r) (looked-side (looked k a.state.openers)) to (same-facts (looked k a.state.openers) f) h e (role_of tk.kind))
          by h e tk (Some w) = in-even t u long K One one rules block m n v a.cursor.pos a.state r d to f h w tk

          on : (tk : Option Token)
              → Then t u long K One one rules block m n v a.cursor.pos a.state r d to f (on_token x v a tk (next_of v.bytes a.cursor).cursor) (on_token y v b tk (next_of v.bytes a.cursor).cursor)
          on None = λ now l. record { cursor = refl; state = d }
          on (Some tk) =
              let h = here_at a.cursor tk (next_of v.bytes a.cursor).cursor in
              subst (λ (w : Option Verbatim). Then t u long K One one rules block m n v a.cursor.pos a.state r d to f (by_place x v h tk a.state.inside a.state) (by_place y v h tk w r))
              (sym d.inside) (by h refl tk a.state.inside)

      -- what it looks at
      looks-same : step_looks v b ≡ step_looks v a
      unfolding taken_looks
      looks-same = go (next_of v.bytes a.cursor).token
        where
          go : (tk : Option Token) → let c = (next_of v.bytes a.cursor).cursor in
              taken_looks v a.cursor tk c r.inside r.openers ≡ taken_looks v a.cursor tk c a.state.inside a.state.openers
          go tk = rw (d.inside, d.openers)

      -- what it drops, and the content
      drops-same : (c : Content) → step_drops v b c ≡ step_drops v a c
      unfolding drops_on
      drops-same c = go (next_of v.bytes a.cursor).token
        where
          go : (tk : Option Token) → drops_on v b tk (next_of v.bytes a.cursor).cursor c ≡ drops_on v a tk (next_of v.bytes a.cursor).cursor c
          go None = refl
          go (Some tk) = rw d.inside

      content-same : (c : Content) → step_content v b c ≡ step_content v a c
      unfolding content_on
      content-same c = go (next_of v.bytes a.cursor).token
        where
          go : (tk : Option Token) → content_on v b tk (next_of v.bytes a.cursor).cursor c ≡ content_on v a tk (next_of v.bytes a.cursor).cursor c
          go None = refl
          go (Some tk) = rw d.inside

    -- so many steps
    record Ran (k : ℕ) (v : View) (a b : Turn) : Type 0 where
      even : Even t u K One (steps k x v a) (steps k y v b)
      looks : b.state.looks ≡ a.state.looks → (steps k y v b).state.looks ≡ (steps k x v a).state.looks
      drops : (c : Content) → steps_drop k y v b c ≡ steps_drop k x v a c
      content : (c : Content) → steps_content k y v b c ≡ steps_content k x v a c

    steps-next : (k : ℕ) (v : View) (a b : Turn) → Even t u K One a b
        → (a.state.refused ≡ None → Ran k v (step x v a) (step y v (from a b.state))) → Ran (suc k) v a b
    unfolding steps steps_drop steps_content
    steps-next k v a b e later =
        subst (λ (z : Turn). Ran (suc k) v a z) (ap (λ (c : Cursor). record { cursor = c; state = b.state }) (sym e.cursor))
        (record {
          even = subst (λ (p : Option Place). Even t u K One (steps (suc k) x v a) (unless p (from a b.state) (steps k y v (step y v (from a b.state))))) (sym e.state.refused)
              (either₂ (Even t u K One) a.state.refused _ _ _ _ (λ p z. record { cursor = refl; state = e.state }) (λ z. (later z).even));
          looks = λ l.
              subst (λ (p : Option Place). (unless p (from a b.state) (steps k y v (step y v (from a b.state)))).state.looks ≡ (steps (suc k) x v a).state.looks) (sym e.state.refused)
              (either₂ (λ (p q : Turn). q.state.looks ≡ p.state.looks) a.state.refused _ _ _ _ (λ p z. l)
              (λ z. (later z).looks (omega (arith, l, looks-step y v (from a b.state), looks-step x v a, looks-same v a b.state e.state))));
          drops = λ c.
              subst
              (λ (p : Option Place).
              unless p [] (step_drops v (from a b.state) c ++ steps_drop k y v (step y v (from a b.state)) (step_content v (from a b.state) c)) ≡ steps_drop (suc k) x v a c)
              (sym e.state.refused)
              (either₂ (λ (p q : List Line). q ≡ p) a.state.refused _ _ _ _ (λ p z. refl)
              (λ z.
              ap (λ (l : List Line). l ++ steps_drop k y v (step y v (from a b.state)) (step_content v (from a b.state) c)) (drops-same v a b.state e.state c)
              ∙ ap (λ (g : Content). step_drops v a c ++ steps_drop k y v (step y v (from a b.state)) g) (content-same v a b.state e.state c)
              ∙ ap (λ (l : List Line). step_drops v a c ++ l) ((later z).drops (step_content v a c))));
          content = λ c.
              subst (λ (p : Option Place). unless p c (steps_content k y v (step y v (from a b.state)) (step_content v (from a b.state) c)) ≡ steps_content (suc k) x v a c)
              (sym e.state.refused)
              (either₂ (λ (p q : Content). q ≡ p) a.state.refused _ _ _ _ (λ p z. refl)
              (λ z.
              ap (λ (g : Content). steps_content k y v (step y v (from a b.state)) g) (content-same v a b.state e.state c)
              ∙ (later z).content (step_content v a c)));
        })

    ahead : (k : ℕ) (v : View) (a : Turn) → a.state.refused ≡ None → Ahead t u K a.state.links.0 (steps_close (suc k) x v a)
        → Ahead t u K a.state.links.0 (destination a.state (step x v a).state ++ steps_close k x v (step x v a))
    unfolding steps_close unless
    ahead k v a z h = subst (λ (p : Option Place). Ahead t u K a.state.links.0 (unless p [] (destination a.state (step x v a).state ++ steps_close k x v (step x v a)))) z h

    steps-even : (k : ℕ) (v : View) (a b : Turn) → Ok v a → Ahead t u K a.state.links.0 (steps_close k x v a) → Even t u K One a b → Ran k v a b
    unfolding steps steps_drop steps_content
    steps-even zero v a b ok h e = record { even = e; looks = λ l. l; drops = λ c. refl; content = λ c. refl }
    steps-even (suc k) v a b ok h e =
        steps-next k v a b e
        (λ z.
        let l = ahead k v a z h in
        steps-even k v (step x v a) (step y v (from a b.state)) (next v a ok z)
        (subst (λ (j : ℕ). Ahead t u K j (steps_close k x v (step x v a))) (sym (counted x v a)) (ahead-right t u K _ (destination a.state (step x v a).state) _ l))
        (step-even v a b.state e.state (facts v a ok z) (ahead-left t u K _ _ _ l)))

    -- lines
    begun-even : (v : View) (s r : State) → Side t u K One s r → Even t u K One (begun x v s) (begun y v r)
    begun-even v s r d =
        record {
          cursor = rw d.inside;
          state = record {
            openers = d.openers;
            inside = rw d.inside;
            last = d.last;
            links = d.links;
            refused = d.refused;
            queue = d.queue;
            labels = d.labels;
          };
        }

    record Read (vs : List View) (s r : State) : Type 0 where
      side : Side t u K One (lines x vs s) (lines y vs r)
      looks : r.looks ≡ s.looks → (lines y vs r).looks ≡ (lines x vs s).looks
      drops : (c : Content) → lines_drop y vs r c ≡ lines_drop x vs s c

    lines-even : (ls : List Line) (s r : State) → Oks ls s → Ahead t u K s.links.0 (lines_close x (views t ls) s) → Side t u K One s r → Read (views t ls) s r
    unfolding lines lines_drop lines_close
    lines-even [] s r ok h d = record { side = d; looks = λ l. l; drops = λ c. refl }
    lines-even (l ∷ ls) s r ok h d =
        let v = view_of t l in
        let k = length v.bytes in
        let e = steps-even k v (begun x v s) (begun y v r) (begin l ls s ok) (ahead-left t u K _ _ _ h) (begun-even v s r d) in
        let z = lines-even ls (line x v s) (line y v r) (rest l ls s ok)
        (subst (λ (j : ℕ). Ahead t u K j (lines_close x (views t ls) (line x v s))) (sym (steps-counted k x v (begun x v s))) (ahead-right t u K _ (steps_close k x v (begun x v s)) _ h))
        e.even.state in
        record { side = z.side; looks = λ l. z.looks (e.looks l); drops = λ c. rw (e.drops c, e.content c, z.drops (steps_content k x v (begun x v s) c)) }

    start-side : Side t u K One start start
    unfolding AllLike
    start-side = record { openers = refl; inside = refl; last = refl; links = refl; refused = refl; queue = tt; labels = λ o e f. refl }

    -- a sheet
    module _ (ls : List Line) (same : views u ls ≡ views t ls) (ok : Oks ls start) (h : Ahead t u K 0 (destinations x ls)) where
      all : Read (views t ls) start start
      all = lines-even ls start start ok h start-side

      pub read-side : Side t u K One (read x ls) (read y ls)
      read-side =
          let s = lines x (views t ls) start in
          let r = lines y (views t ls) start in
          rw same
          (subst (λ (w : Option Verbatim). Side t u K One (ended_at (end_of ls 0) s.inside s) (ended_at (end_of ls 0) w r)) (sym all.side.inside)
          (side-ended t u K One (end_of ls 0) s.inside s r all.side))

      pub read-looks : (read y ls).looks ≡ (read x ls).looks
      read-looks =
          let s = lines x (views t ls) start in
          let r = lines y (views t ls) start in
          rw same (ended-looks (end_of ls 0) r.inside r ∙ all.looks refl ∙ sym (ended-looks (end_of ls 0) s.inside s))

      pub dropped-side : dropped y ls ≡ dropped x ls
      dropped-side = rw same (all.drops no_content)

-- So the events of a sheet are one list, and what it drops is fixed, whatever label room holds its labels
pub one_list : (text : List ℕ) (reading m n : ℕ) (ls : List Line) → (read (sheet text ls reading m) ls).fits ≡ true → (read (sheet text ls reading n) ls).fits ≡ true
    → (events (sheet text ls reading m) ls ≡ events (sheet text ls reading n) ls) × (dropped (sheet text ls reading m) ls ≡ dropped (sheet text ls reading n) ls)
one_list text reading m n ls e f =
    (sym (same-events _ _ (like-drained _ refl 0 0 _ _ (like-other (λ h k z. (z e f).all tt) _ _ side.queue))), sym drops)
  where
    Every : ℕ → Type 0
    Every j = Unit {0}

    block : ℕ → Bool
    block = (sheet text ls reading m).block

    facts : (v : View) (a : Turn) → Unit {0} → a.state.refused ≡ None
        → Facts text text Every (Unit {0}) v a.state a.cursor.pos (step (record { rules = rules_of reading; text = text; room = m; block = block }) v a).cursor.pos
    facts v a ok z = record { shown = λ j y. refl; behind = λ k l j y w. refl; line = λ j y w. refl }

    side : Side text text Every (Unit {0}) (read (sheet text ls reading m) ls) (read (sheet text ls reading n) ls)
    side =
        read-side text text refl Every (Unit {0}) (λ o j. tt) (rules_of reading) block m n (λ v a. Unit {0}) (λ ls s. Unit {0}) facts (λ v a ok z. tt)
        (λ l ls s ok. tt) (λ l ls s ok. tt) ls refl tt (ahead-all text text Every (λ j. refl) 0 _)

    drops : dropped (sheet text ls reading n) ls ≡ dropped (sheet text ls reading m) ls
    drops =
        dropped-side text text refl Every (Unit {0}) (λ o j. tt) (rules_of reading) block m n (λ v a. Unit {0}) (λ ls s. Unit {0}) facts (λ v a ok z. tt)
        (λ l ls s ok. tt) (λ l ls s ok. tt) ls refl tt (ahead-all text text Every (λ j. refl) 0 _)
