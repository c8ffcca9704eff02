-- Homes and link numbers: where all labels fitted, each event has the home and the link number that its kind has. Every rule keeps it of the queue, and so does draining.
use Rattle.std.specs.Prelude.{None, Option, Some}
use Rattle.reading.specs.declared.Sort.{Sort}
use Prim.Native.Nat.{ℕ, zero, suc, ◌+◌, ◌-◌, ◌≤◌, ◌<◌}
use mathlib.Core.Path.{◌≡◌, refl, ap, ◌∙◌}
use mathlib.Core.List.{List, [], ◌∷◌, ◌++◌}
use mathlib.Core.Bool.{Bool, true, false, not, ◌&&◌, and-true}
use mathlib.Core.Logic.{inl, inr}
use native.Mathlib.Omega.{arith}
use borrow.Author.Tests.{lt-ltb, le-ltb, le-leb, lt-leb}
use lib.Dec.{eqb, leb, ltb}
use lib.ListN.{length, get_or, take, length-append}
use Rattle.lex.specs.declared.lex.Token.{Token}
use Rattle.lex.specs.declared.lex.Cursor.{Cursor}
use Rattle.lex.specs.Lexer.{next_of, peek_of}
use Rattle.dash.specs.declared.Dashes.{Dashes}
use Rattle.reading.specs.declared.Line.{Line}
use Rattle.reading.specs.declared.Link.{Link}
use Rattle.reading.specs.declared.Event.{Event}
use Rattle.reading.specs.declared.Home.{Home}
use Rattle.reading.specs.declared.Opener.{Opener}
use Rattle.reading.specs.declared.Role.{Role}
use Rattle.reading.specs.declared.Verbatim.{Verbatim}
use Rattle.reading.specs.declared.DelimEventKind.{DelimEventKind}
use Rattle.reading.specs.declared.DelimEventKind.TheVariants as makes
use Rattle.reading.specs.Events.{homed, event, nowhere, in_text, home_of, becomes, shorter, enter, exit, str, symbol, footnote, ellipsis, emdash}
use Rattle.reading.specs.Events.{endash, raw_format, autolink, enter_from, exit_from}
use Rattle.reading.specs.Machine.{View, Rules, Sheet, State, Turn, Here, view_of, amend, amend_last, put, with_openers}
use Rattle.reading.specs.Tokens.{role_of, closing_of, unclosed}
use Rattle.reading.specs.Atoms.{row, dashes}
use Rattle.reading.specs.Labels.{Label, here, built, Labelled, label_of, label_home}
use Rattle.reading.specs.Verbatim.{nothing, opened_as, closes, kept, closed_with, all_blank, bytes_of, skips, blank_content, in_verbatim}
use Rattle.reading.specs.Verbatim.{ended_at}
use Rattle.reading.specs.Containers.{takes, span_with, closes_span, close_as, may_open, opens_or}
use Rattle.reading.specs.Reading.{outside, by_place, on_token, step, steps, begun, lines, start, end_of, views, read}
use Rattle.reading.specs.Looks.{seeking}
use Rattle.reading.specs.Draining.{flushed, touches, drained}
use Rattle.reading.specs.Homes.{container_of, known, has_home, has_link, HomeBy, LinkBy, Homed, AllHomed}
use Rattle.reading.specs.Walked.{events}
use Rattle.reading.proofs.Choose.{choose}
use Rattle.reading.proofs.Queue.{Inner, inner-amend, inner-enters, inner-within}
use Rattle.reading.proofs.Spans.{Any, Gap, Covers, covers_up}
use Rattle.reading.proofs.Tables.{traits, Bare, Low, KindOk, RoleOk, closing-ok, unclosed-low, plain_ok, bracket-ok, role-ok}
use Rattle.reading.proofs.Good.{Out, In, GoodBy, out-looking}
use Rattle.reading.proofs.Ruling.{by-rule-where}
use Rattle.reading.proofs.Backticks.{Shows, raw-wraps}
use Rattle.reading.proofs.Stepping.{Held, either}
use Rattle.reading.proofs.Feeding.{Rising, Stood, view-long, view-shows, step-on, begun-held, fed-stood, start-stood}

-- of the kinds that neither open nor close those from Symbol on have a home
atom-traits : (kind : ℕ) (b : Bool) → str ≤ kind → kind ≤ footnote → leb symbol kind ≡ b → traits kind ≡ (true, b, false)
unfolding known has_home has_link
atom-traits kind b l u e =
    rw (lt-ltb kind enter_from (omega arith), known, has_home, has_link, le-leb str kind l, le-leb kind footnote u, and-true (leb symbol kind), e)

-- an exit has what its enter has
container-same : (kind : ℕ) → enter_from ≤ kind → kind < exit_from → container_of (kind + 32) ≡ container_of kind
unfolding container_of
container-same kind l u = rw (lt-ltb kind exit_from u, le-ltb (kind + 32) exit_from (omega arith), container_of) (omega arith)

exit-traits : (kind : ℕ) → enter_from ≤ kind → kind < exit_from → traits (kind + 32) ≡ traits kind
unfolding known has_home has_link
exit-traits kind l u =
    rw (le-ltb kind enter_from l, le-ltb (kind + 32) enter_from (omega arith), known, has_home, has_link, container-same kind l u)

-- the enter of a run of backticks
opened-bare : (n : ℕ) → Bare (enter (opened_as n))
unfolding opened_as container_of known has_home has_link
opened-bare n =
    choose (λ (k : ℕ). Bare (enter k)) (eqb n 0) _ _ (λ e. refl) (λ e. choose (λ (k : ℕ). Bare (enter k)) (eqb n 1) _ _ (λ f. refl) (λ f. refl))

-- an event of a queue ends where the queue's spans do, or before
covers-end : (Loose : ℕ → Type 0) (i a : ℕ) (q : List Event) (b : ℕ) → Covers Loose a q b → (get_or q i nothing).end.0 ≤ b
unfolding Covers
covers-end Loose i a [] b c = omega arith
covers-end Loose zero a (e ∷ q) b c = covers_up Loose e.end.0 q b c.2
covers-end Loose (suc i) a (e ∷ q) b c = covers-end Loose i e.end.0 q b c.2

-- of a sheet, and of label bytes that are so many at its end
module _ (x : Sheet) (labels : ℕ) where
  -- an event of a kind, and each of some events
  abbrev Has : ℕ → Home → Type 0
  Has kind h = Homed (length x.text) labels kind h

  abbrev All : List Event → Type 0
  All q = AllHomed (length x.text) labels q

  -- by the kind's traits
  has-by : (kind : ℕ) (h : Home) (z : Bool × Bool × Bool) → traits kind ≡ z → z.0 ≡ true → HomeBy z.1 (length x.text) labels h → LinkBy z.2 h → Has kind h
  has-by kind h z e there home link =
      record { there = ap (λ y. y.0) e ∙ there; home = rw (ap (λ y. y.1) e) home; link = rw (ap (λ y. y.2) e) link }

  has-none : (kind : ℕ) → Bare kind → Has kind nowhere
  unfolding HomeBy LinkBy
  has-none kind e = has-by kind nowhere _ e refl (refl, refl, refl) refl

  has-low : (kind : ℕ) → Low kind → Has kind nowhere
  has-low kind l = has-none kind (atom-traits kind false (omega arith) (omega arith) (lt-leb symbol kind (omega arith)))

  has-str : Has str nowhere
  has-str = has-low str (omega arith)

  has-text : (kind a b : ℕ) → traits kind ≡ (true, true, false) → a ≤ b → b ≤ length x.text → Has kind (in_text a b)
  unfolding HomeBy LinkBy
  has-text kind a b e l u = has-by kind (in_text a b) _ e refl (inl (refl, (l, u))) refl

  -- events joined, put, cut and changed
  all_append : (a b : List Event) → All a → All b → All (a ++ b)
  unfolding AllHomed
  all_append [] b h k = k
  all_append (e ∷ a) b h k = (h.0, all_append a b h.1 k)

  all-put : {kind : ℕ} {h : Home} (q : List Event) (a b : ℕ) → Has kind h → All q → All (q ++ homed kind h a b ∷ [])
  unfolding AllHomed
  all-put {kind} {h} q a b e k = all_append q (homed kind h a b ∷ []) k (e, tt)

  -- an autolink
  all-address : (from a b to : ℕ) → a ≤ b → b ≤ length x.text
      → All (homed (enter autolink) (in_text a b) from a ∷ event str a b ∷ homed (exit autolink) (in_text a b) b to ∷ [])
  unfolding AllHomed container_of known has_home has_link
  all-address from a b to l u = (has-text (enter autolink) a b refl l u, (has-str, (has-text (exit autolink) a b refl l u, tt)))

  all_take : (n : ℕ) (q : List Event) → All q → All (take n q)
  unfolding AllHomed
  all_take zero q h = tt
  all_take (suc n) [] h = tt
  all_take (suc n) (e ∷ q) h = (h.0, all_take n q h.1)

  all-amend : (f : Event → Event) → ((e : Event) → Has (f e).kind (home_of (f e))) → (i : ℕ) (q : List Event) → All q → All (amend f i q)
  unfolding AllHomed amend
  all-amend f k i [] h = tt
  all-amend f k zero (e ∷ q) h = (k e, h.1)
  all-amend f k (suc i) (e ∷ q) h = (h.0, all-amend f k i q h.1)

  all-shorter : (n : ℕ) (q : List Event) → All q → All (amend_last (shorter n) q)
  unfolding AllHomed amend_last
  all-shorter n [] h = tt
  all-shorter n (e ∷ []) h = (h.0, tt)
  all-shorter n (e ∷ f ∷ q) h = (h.0, all-shorter n (f ∷ q) h.1)

  all-at : (i : ℕ) (q : List Event) → i < length q → All q → Has (get_or q i nothing).kind (home_of (get_or q i nothing))
  unfolding AllHomed
  all-at i [] l h = absurd (omega arith)
  all-at zero (e ∷ q) l h = h.0
  all-at (suc i) (e ∷ q) l h = all-at i q (omega arith) h.1

  all_row : (kind w n at : ℕ) → Has kind nowhere → All (row kind w n at)
  unfolding AllHomed row
  all_row kind w zero at e = tt
  all_row kind w (suc n) at e = (e, all_row kind w n (at + w) e)

  all-dashes : (d : Dashes) (at : ℕ) → All (dashes d at)
  unfolding dashes
  all-dashes d at = all_append _ _ (all_row emdash 3 d.em at (has-low emdash (omega arith))) (all_row endash 2 d.en _ (has-low endash (omega arith)))

  all-kept : (w : Verbatim) (q : List Event) → All q → All (kept w q)
  unfolding kept
  all-kept w q h = choose All w.run _ _ (λ e. all_take w.keep q h) (λ e. h)

  -- draining
  all-flushed : (a b : ℕ) (es : List Event) → All es → All (flushed a b es)
  unfolding AllHomed flushed
  all-flushed a b es h = choose All (eqb a b) _ _ (λ e. h) (λ e. (has-str, h))

  all-drained : (a b : ℕ) (es : List Event) → All es → All (drained a b es)
  unfolding AllHomed drained
  all-drained a b [] h = all-flushed a b [] h
  all-drained a b (e ∷ es) h =
      choose All (eqb e.kind str) _ _
      (λ k. choose All (touches b e) _ _
      (λ t. all-drained a e.end.0 es h.1)
      (λ t. all-flushed a b _ (all-drained e.start.0 e.end.0 es h.1)))
      (λ k. all-flushed a b _ (h.0, all-drained e.end.0 e.end.0 es h.1))

  -- the events of a state, if all labels fitted
  abbrev Holds : State → Type 0
  Holds s = s.fits ≡ true → length s.labels ≤ labels → All s.queue

  -- the same behind a turn, if its cursor stands within the text: what a scan accepted lies before it
  abbrev Then : View → Turn → Type 0
  Then v a = v.base + a.cursor.pos ≤ length x.text → Holds a.state

  -- a label in the text lies within it
  Lies : Label → Type 0
  Lies (here a b) = (a ≤ b) × (b ≤ length x.text)
  Lies (built bs) = Unit {0}

  label-lies : (inline : Bool) (base at : ℕ) (d : Event) (texts dest : List Event) → d.end.0 ≤ at → at ≤ length x.text
      → Lies (label_of x.text inline base at d texts dest)
  unfolding Lies label_of
  label-lies inline base at d texts dest l u =
      choose Lies (not inline && eqb d.end.0 at) _ _ (λ e. tt) (λ e. choose Lies (ltb d.start.0 base) _ _ (λ e. tt) (λ e. (l, u)))

  -- a label that fits has its home; those before it fitted too
  abbrev Placed : Bool → List ℕ → Labelled → Type 0
  Placed fits bytes r =
      r.fits ≡ true → length r.labels ≤ labels → (fits ≡ true) × (length bytes ≤ labels) × HomeBy true (length x.text) labels r.home

  label-placed : (n : Link) (bytes : List ℕ) (fits : Bool) (b : Label) → Lies b → Placed fits bytes (label_home x.room n bytes fits b)
  unfolding Lies label_home HomeBy
  label-placed n bytes fits (here a b) h = λ f m. (f, m, inl (refl, h))
  label-placed n bytes false (built bs) h = λ f m. let z : ◌≡◌ {A = ℕ} 0 1 = cc in absurd (omega arith)
  label-placed n bytes true (built bs) h =
      choose (Placed true bytes) (leb (length bytes + length bs) x.room) _ _
      (λ e f m. let size = length-append bytes bs in (refl, omega arith, inr (refl, (omega arith, omega arith))))
      (λ e f m. let z : ◌≡◌ {A = ℕ} 0 1 = cc in absurd (omega arith))

  -- a token outside verbatim, which begins at the i-th byte of a line
  module _ (v : View) (i m : ℕ) (s : State) (g : Out Any x.text (v.base + i) m s) (low : v.base + i ≤ length x.text) (k : Holds s) where
    abbrev At : Here → Type 0
    At h = h.from ≡ i

    lone : (kind : ℕ) → Low kind → (h : Here) → Holds (put v kind h.from h.to s)
    lone kind l h f n = all-put _ _ _ (has-low kind l) (k f n)

    opens-homed : (h : Here) (alone : ℕ) (o : Option Sort) → Low alone → Holds (opens_or v h alone o s)
    unfolding opens_or
    opens-homed h alone None l = lone alone l h
    opens-homed h alone (Some o) l = choose Holds (may_open v h s o) _ _ (λ e. lone (unclosed o) (unclosed-low o) h) (λ e. lone alone l h)

    span-homed : (h : Here) (image : Bool) (o : Opener) (os : List Opener) (c : Cursor) (t : Option Token) → Holds (closes_span v h image o c t (with_openers os s)).state
    unfolding closes_span span_with
    span-homed h image o os c None = lone str (omega arith) h
    span-homed h image o os c (Some t) = go (takes (role_of t.kind))
      where
        go : (b : Option Bool) → Holds (span_with v h image o c t.len b (with_openers os s)).state
        go None = lone str (omega arith) h
        go (Some inline) = λ f n. all-put _ _ _ has-str (lone str (omega arith) h f n)

    closed-homed : (h : Here) → At h → (o : Opener) (os : List Opener) (d : DelimEventKind) → KindOk d → Holds (close_as x v h o d (with_openers os s)).state
    unfolding close_as KindOk LinkBy
    closed-homed h a o os (makes.Pair p) ok = λ f n.
        all-put _ _ _ (has-none p.second ok.2)
        (all-amend (becomes p.first nowhere) (λ e. has-none p.first ok.1) o.event s.queue (k f n))
    closed-homed h a o os (makes.Span image) ok = span-homed h image o os _ _
    closed-homed h a o os (makes.Link t) ok = λ f n.
        let r = label-placed s.links s.labels s.fits _
        (label-lies t.inline v.base (v.base + h.from) (get_or s.queue o.event nothing) _ _
        (omega (arith, covers-end Any o.event 0 s.queue (v.base + i) g.covers)) (omega arith)) f n in
        all_take o.event _
        (all-amend _ (λ e. has-by (exit t.container) _ _ ok.3 refl r.2 tt) (o.event - 1) _
        (all-amend _ (λ e. has-by (enter t.container) _ _ ok.2 refl r.2 tt) o.span s.queue (k r.0 r.1)))

    outside-homed : (h : Here) → At h → (r : Role) → RoleOk r → Then v (outside x v h r s)
    unfolding RoleOk
    outside-homed =
        by-rule-where x x v s s refl (λ h o. refl) (λ a b. Then v a) At RoleOk (λ h j c l a. a) (plain_ok str (omega arith)) bracket-ok
        (λ h a m ok z. opens-homed h m.alone m.opens ok.0)
        (λ h a c o os e z. closed-homed h a o os (closing_of o.sort) (closing-ok o.sort))
        (λ h a n z f l. all_append _ _ (k f l) (all-address _ _ _ _ (omega arith) (omega arith)))
        (λ h a kind n l u z f m. all-put _ _ _ (has-text kind _ _ (atom-traits kind true (omega arith) u (le-leb symbol kind l)) (omega arith) (omega arith)) (k f m))
        (λ h a z f l. all-put _ _ _ has-str (all_append _ _ (k f l) (all_row ellipsis 3 _ _ (has-low ellipsis (omega arith)))))
        (λ h a z f l. all_append _ _ (k f l) (all-dashes _ _))
        (λ h a z f l. all-put _ _ _ (has-none _ (opened-bare _)) (all-shorter _ s.queue (k f l)))
        (λ p. refl)
        (λ h a z. k)

  -- the exit of a verbatim has what its enter has
  has-exit : (w : Verbatim) (q : List Event) (os : List Opener) → Inner w q os → All q → let e = get_or q w.event nothing in Has (e.kind + 32) (home_of e)
  has-exit w q os i h =
      let e = get_or q w.event nothing in
      let k = inner-enters w q os nothing i in
      let r = all-at w.event q (inner-within w q os i) h in
      has-by (e.kind + 32) (home_of e) (traits e.kind) (exit-traits e.kind k.0 k.1) r.there r.home r.link

  -- a token inside
  module _ (w : Verbatim) (v : View) (h : Here) (at m : ℕ) (s : State) (g : In Any x.text w at m s) (k : Holds s) where
    closed_in : (c : Cursor) (f : Option ℕ) → Then v (closed_with v h c w f s)
    unfolding closed_with container_of known has_home has_link
    closed_in c None z = λ f l. all-put _ _ _ (has-exit w s.queue s.openers g.inner (k f l)) (all-kept w s.queue (k f l))
    closed_in c (Some n) z = λ f l.
        let home = in_text (v.base + (h.to + 2)) (v.base + (h.to + 2) + n) in
        let i = inner-amend w s.queue s.openers (enter raw_format) home (omega arith) (raw-wraps home) g.inner in
        let r = all-amend (becomes (enter raw_format) home) (λ e. has-text (enter raw_format) _ _ refl (omega arith) (omega arith)) w.event s.queue (k f l) in
        all-put _ _ _ (has-exit w _ s.openers i r) (all-kept w _ r)

    put_in : Holds (put v str h.from h.to s)
    put_in f l = all-put _ _ _ has-str (k f l)

    blank-in : Holds (blank_content v h w s).state
    unfolding blank_content
    blank-in =
        choose (λ (a : Turn). Holds a.state) w.seen _ _ (λ e. put_in)
        (λ e. choose Holds (skips w (peek_of v.bytes h.cursor).token) _ _ (λ y. k) (λ y. put_in))

    in-homed : (r : Rules) (t : Token) → Then v (in_verbatim r v h t w s)
    unfolding in_verbatim
    in-homed r t =
        choose (Then v) (closes w h t) _ _ (λ e. closed_in _ _) (λ e. choose (Then v) (all_blank (bytes_of v h)) _ _ (λ y z. blank-in) (λ y z. put_in))

  -- steps, at a line that lies within the text
  module _ (v : View) (m : ℕ) (shows : Shows x.text v) (long : v.base + length v.bytes ≤ length x.text) where
    step-homed : (a : Turn) → a.state.refused ≡ None → Held Any x.text v m 0 a → Holds a.state → Holds (step x v a).state
    unfolding on_token by_place GoodBy
    step-homed a un held k = on (next_of v.bytes a.cursor).token (omega (arith, (step-on Any x.text x v m shows (λ i. tt) a un held).sound.place))
      where
        by : (h : Here) → h.from ≡ a.cursor.pos → (t : Token) (w : Option Verbatim) → GoodBy Any x.text w (v.base + a.cursor.pos) (m + a.cursor.pos) a.state
            → Then v (by_place x v h t w a.state)
        by h e t None g =
            outside-homed v a.cursor.pos _ (seeking v h t a.state) (out-looking Any x.text _ _ _ a.state g) (omega (arith, held.sound.place)) k h e (role_of t.kind) (role-ok t.kind)
        by h e t (Some w) g = in-homed w v h _ _ a.state g k x.rules t

        on : (t : Option Token) → Then v (on_token x v a t (next_of v.bytes a.cursor).cursor)
        on None = λ z. k
        on (Some t) = by _ refl t a.state.inside (held.good un).good

    steps-homed : (n : ℕ) (a : Turn) → Held Any x.text v m 0 a → Holds a.state → Holds (steps n x v a).state
    unfolding steps
    steps-homed zero a held k = k
    steps-homed (suc n) a held k =
        either (λ (b : Turn). Holds b.state) a.state.refused _ _ (λ p e. k)
        (λ e. steps-homed n (step x v a) (step-on Any x.text x v m shows (λ i. tt) a e held) (step-homed a e held k))

  -- the end: an open verbatim gets its exit
  ended-homed : (w : Option Verbatim) (b m : ℕ) (s : State) → GoodBy Any x.text w b m s → Holds s → Holds (ended_at b w s)
  unfolding GoodBy ended_at
  ended-homed None b m s g k = k
  ended-homed (Some w) b m s g k = λ f l. all-put _ _ _ (has-exit w s.queue s.openers g.inner (k f l)) (k f l)

  -- lines, and the end
  lines-homed : (ls : List Line) (at m : ℕ) (s : State) → Rising x.text at ls → Stood Any x.text x at m s → Holds s
      → let r = lines x (views x.text ls) s in r.refused ≡ None → Holds (ended_at (end_of ls at) r.inside r)
  unfolding Rising lines end_of
  lines-homed [] at m s r h k = λ e. ended-homed s.inside at m s (h.good e) k
  lines-homed (l ∷ ls) at m s r h k =
      let v = view_of x.text l in
      let gap : Gap Any at l.start = record { up = r.0; loose = λ i a b. tt } in
      lines-homed ls l.end (m + (l.end - l.start)) _ r.3 (fed-stood Any x.text x l at m s r.1 r.2 gap h (λ i o. tt))
      (steps-homed v m (view-shows x.text l r.1 r.2) (omega (arith, view-long x.text l r.1 r.2, r.1, r.2)) (length v.bytes) (begun x v s)
      (begun-held Any x.text x v at m s gap h) k)

-- the events of a sheet that is read
pub events-homed : (x : Sheet) (ls : List Line) → Rising x.text 0 ls → (lines x (views x.text ls) start).refused ≡ None → (read x ls).fits ≡ true
    → AllHomed (length x.text) (length (read x ls).labels) (events x ls)
unfolding AllHomed
events-homed x ls r e f =
    let n = length (read x ls).labels in
    all-drained x n 0 0 (read x ls).queue (lines-homed x n ls 0 0 start r (start-stood Any x.text x) (λ f l. tt) e f (omega arith))
