-- The rules on two states that differ in labels, and in the homes of links, alone: what they make of the two differs in these alone too.
use Rattle.std.specs.Prelude.{None, Option, Some, is_some}
use Prim.Native.Nat.{ℕ, zero, suc, ◌+◌, ◌-◌, ◌≤◌, ◌<◌}
use mathlib.Core.Path.{◌≡◌, refl, sym, ap, ◌∙◌, subst}
use mathlib.Core.List.{List, [], ◌∷◌}
use mathlib.Core.Bool.{Bool, true, false, not, ◌&&◌}
use mathlib.Core.Logic.{inr}
use native.Mathlib.Omega.{arith}
use borrow.Author.Tests.{ne_eqb}
use lib.ListN.{length, get_or, take, drop}
use Rattle.lex.specs.declared.lex.Token.{Token}
use Rattle.lex.specs.declared.lex.Cursor.{Cursor}
use Rattle.lex.specs.Lexer.{peek_of}
use Rattle.dash.specs.Dashes.{dashes_of}
use Rattle.reading.specs.declared.Event.{Event}
use Rattle.reading.specs.declared.Home.{Home}
use Rattle.reading.specs.declared.Last.{Last}
use Rattle.reading.specs.declared.Link.{Link}
use Rattle.reading.specs.declared.Opener.{Opener}
use Rattle.reading.specs.declared.Sort.{Sort}
use Rattle.reading.specs.declared.Target.{Target}
use Rattle.reading.specs.declared.Role.{Role}
use Rattle.reading.specs.declared.Verbatim.{Verbatim}
use Rattle.reading.specs.declared.DelimEventKind.{DelimEventKind}
use Rattle.reading.specs.declared.DelimEventKind.TheVariants as makes
use Rattle.reading.specs.Events.{nowhere, in_text, link, enter, exit, str, autolink, ellipsis, raw_format}
use Rattle.reading.specs.Machine.{View, Rules, Sheet, State, Turn, Here, amend, puts, put, with_openers, with_queue}
use Rattle.reading.specs.Tokens.{role_of, closing_of, two_way, is_single, unclosed}
use Rattle.reading.specs.Labels.{part, Labelled, label_home, label_of}
use Rattle.reading.specs.Atoms.{dashes, dots, autolinked, named}
use Rattle.reading.specs.Verbatim.{nothing, opens_verbatim, closes, kept, exits, closed_with, all_blank, bytes_of, skips, blank_content, content}
use Rattle.reading.specs.Verbatim.{in_verbatim, ended_at}
use Rattle.reading.specs.Containers.{may_close, takes, span_with, closes_span, labelled, closes_link, close_as, blank_after, may_open, open_as, opens_or}
use Rattle.reading.specs.Machine.{prev}
use Rattle.classes.specs.Classes.{blank}
use Rattle.reading.specs.Reading.{refuse, outside}
use Rattle.reading.specs.Walked.{Shown}
use Rattle.reading.specs.Margin.{Spanned, destination}
use Rattle.reading.proofs.Choose.{choose₂}
use Rattle.reading.proofs.Spans.{length-amend}
use Rattle.reading.proofs.Hiding.{shown-take}
use Rattle.reading.proofs.Ruling.{by-rule-where}
use Rattle.reading.proofs.Like.{AllLike, like-other, like-length, like-append, like-take, like-drop, like-amend, like-shorter, like-homed, like-becomes, like-to}
use Rattle.reading.proofs.Like.{like-exit, like-event, like-put, like-at, like-row, like-dashes}
use Rattle.reading.proofs.Telling.{Same, part-same, Tells, tells-none, tells-text, labels-same, Labels, Placed, placed, number-kept}

module _ (t u : List ℕ) (K : ℕ → Type 0) (One : Type 0) where
  -- two homes, where both states have all their labels
  abbrev pub Told : State → State → Home → Home → Type 0
  Told s r h k = s.fits ≡ true → r.fits ≡ true → Tells t u K One s.labels r.labels h k

  -- two states
  pub record Side (s r : State) : Type 0 where
    pub openers : r.openers ≡ s.openers
    pub inside : r.inside ≡ s.inside
    pub last : r.last ≡ s.last
    pub links : r.links ≡ s.links
    pub refused : r.refused ≡ s.refused
    pub queue : AllLike (Told s r) s.queue r.queue
    pub labels : One → s.fits ≡ true → r.fits ≡ true → r.labels ≡ s.labels

  -- two turns
  pub record Even (a b : Turn) : Type 0 where
    pub cursor : b.cursor ≡ a.cursor
    pub state : Side a.state b.state

  module _ (s r : State) where
    told-none : Told s r nowhere nowhere
    told-none e f = tells-none t u K One s.labels r.labels

    told-text : (a b : ℕ) → part t a b ≡ part u a b → Told s r (in_text a b) (in_text a b)
    told-text a b p e f = tells-text t u K One s.labels r.labels a b (link 0) p

  side-puts : (es : List Event) (l : Option Last) (s r : State) → Side s r → AllLike (Told s r) es es → Side (puts es l s) (puts es l r)
  side-puts es l s r d k =
      record {
        openers = d.openers;
        inside = d.inside;
        last = refl;
        links = d.links;
        refused = d.refused;
        queue = like-append (Told s r) s.queue r.queue es es d.queue k;
        labels = d.labels;
      }

  side-put : (v : View) (kind i j : ℕ) (s r : State) → Side s r → Side (put v kind i j s) (put v kind i j r)
  unfolding AllLike
  side-put v kind i j s r d = side-puts _ _ s r d (like-event (Told s r) (told-none s r) kind _ _, tt)

  side-openers : (os : List Opener) (s r : State) → Side s r → Side (with_openers os s) (with_openers os r)
  side-openers os s r d =
      record { openers = refl; inside = d.inside; last = d.last; links = d.links; refused = d.refused; queue = d.queue; labels = d.labels }

  side-queue : (p q : List Event) (s r : State) → Side s r → AllLike (Told s r) p q → Side (with_queue p s) (with_queue q r)
  side-queue p q s r d k =
      record { openers = d.openers; inside = d.inside; last = d.last; links = d.links; refused = d.refused; queue = k; labels = d.labels }

  module _ (s r : State) (d : Side s r) where
    abbrev T : Home → Home → Type 0
    T = Told s r

    size : length r.queue ≡ length s.queue
    size = like-length T s.queue r.queue d.queue

    -- what stands alone or opens
    open-same : (v : View) (h : Here) (o : Sort) → may_open v h r o ≡ may_open v h s o
    unfolding may_open
    open-same v h o = ap (λ (l : Option Last). not (two_way o && blank_after v h) && not (is_single o && is_some l && not (blank (prev v h.from)))) d.last

    side-opens : (v : View) (h : Here) (o : Sort) → Side (open_as v h o s) (open_as v h o r)
    side-opens v h o =
        let p = side-put v (unclosed o) h.from h.to s r d in
        record {
          openers = rw (size, d.openers);
          inside = p.inside;
          last = p.last;
          links = p.links;
          refused = p.refused;
          queue = p.queue;
          labels = p.labels;
        }

    pub side-alone : (v : View) (h : Here) (alone : ℕ) (o : Option Sort) → Side (opens_or v h alone o s) (opens_or v h alone o r)
    unfolding opens_or
    side-alone v h alone None = side-put v alone h.from h.to s r d
    side-alone v h alone (Some o) =
        rw (open-same v h o, opens_or)
        (choose₂ Side (may_open v h s o) _ _ _ _ (λ e. side-opens v h o) (λ e. side-put v alone h.from h.to s r d))

    -- whether what was sought closes is the same
    pub close-same : (v : View) (h : Here) (o : Opener) → may_close v h r o ≡ may_close v h s o
    unfolding may_close
    close-same v h o = rw size

    -- scans, dots and dashes
    pub side-address : (v : View) (h : Here) (n : ℕ) → part t (v.base + h.to) (v.base + h.to + n) ≡ part u (v.base + h.to) (v.base + h.to + n)
        → Side (autolinked v h n s).state (autolinked v h n r).state
    unfolding AllLike
    side-address v h n p =
        let a = v.base + h.to in
        let k = told-text s r a (a + n) p in
        side-puts _ None s r d (
          like-homed T (enter autolink) (in_text a (a + n)) (in_text a (a + n)) _ _ refl k,
          (
            like-event T (told-none s r) str a (a + n),
            (like-homed T (exit autolink) (in_text a (a + n)) (in_text a (a + n)) _ _ refl k, tt),
          ),
        )

    pub side-named : (kind : ℕ) (v : View) (h : Here) (n : ℕ) → part t (v.base + h.to) (v.base + h.to + n) ≡ part u (v.base + h.to) (v.base + h.to + n)
        → Side (named kind v h n s).state (named kind v h n r).state
    unfolding AllLike
    side-named kind v h n p =
        let a = v.base + h.to in
        side-puts _ None s r d (like-homed T kind (in_text a (a + n)) (in_text a (a + n)) _ _ refl (told-text s r a (a + n) p), tt)

    pub side-dots : (v : View) (i n : ℕ) → Side (dots v i n s) (dots v i n r)
    side-dots v i n = side-put v str _ _ _ _ (side-puts _ None s r d (like-row T (told-none s r) ellipsis 3 _ _))

    pub side-dashes : (v : View) (i n : ℕ) → Side (puts (dashes (dashes_of n) (v.base + i)) None s) (puts (dashes (dashes_of n) (v.base + i)) None r)
    side-dashes v i n = side-puts _ None s r d (like-dashes T (told-none s r) _ _)

    -- a run that opens
    pub even-opens : (v : View) (h : Here) → Even (opens_verbatim v h s) (opens_verbatim v h r)
    even-opens v h =
        record {
          cursor = refl;
          state = record {
            openers = d.openers;
            inside = rw size;
            last = refl;
            links = d.links;
            refused = d.refused;
            queue = rw d.last (like-put T (told-none s r) _ _ _ _ _ (like-shorter T _ s.queue r.queue d.queue));
            labels = d.labels;
          };
        }

    pub side-refuse : (at : ℕ) → Side (refuse at s) (refuse at r)
    side-refuse at =
        record { openers = d.openers; inside = d.inside; last = d.last; links = d.links; refused = refl; queue = d.queue; labels = d.labels }

    -- inside a verbatim
    side-exits : (w : Verbatim) (p q : List Event) (a b : ℕ) → AllLike T p q → Side (exits w p a b s) (exits w q a b r)
    unfolding AllLike
    side-exits w p q a b k =
        record {
          openers = d.openers;
          inside = refl;
          last = refl;
          links = d.links;
          refused = d.refused;
          queue = like-append T p q _ _ k (like-exit T a b _ _ (like-at T (told-none s r) w.event s.queue r.queue d.queue), tt);
          labels = d.labels;
        }

    like-kept : (w : Verbatim) (p q : List Event) → AllLike T p q → AllLike T (kept w p) (kept w q)
    unfolding kept
    like-kept w p q k = choose₂ (AllLike T) w.run _ _ _ _ (λ e. like-take T w.keep p q k) (λ e. k)

    side-content : (v : View) (h : Here) (t : Token) (w : Verbatim) → Side (content v h t w s) (content v h t w r)
    side-content v h t w =
        let p = side-put v str h.from h.to s r d in
        record {
          openers = p.openers;
          inside = rw size;
          last = p.last;
          links = p.links;
          refused = p.refused;
          queue = p.queue;
          labels = p.labels;
        }

    even-blank : (v : View) (h : Here) (w : Verbatim) → Even (blank_content v h w s) (blank_content v h w r)
    unfolding blank_content
    even-blank v h w =
        choose₂ Even w.seen _ _ _ _ (λ e. record { cursor = refl; state = side-put v str h.from h.to s r d })
        (λ e. record {
          cursor = refl;
          state = choose₂ Side (skips w (peek_of v.bytes h.cursor).token) _ _ _ _ (λ y. d) (λ y. side-put v str h.from h.to s r d);
        })

  -- the end: an open verbatim gets its exit
  pub side-ended : (b : ℕ) (w : Option Verbatim) (s r : State) → Side s r → Side (ended_at b w s) (ended_at b w r)
  unfolding ended_at
  side-ended b None s r d = d
  side-ended b (Some w) s r d = side-exits s r d w s.queue r.queue b b d.queue

  -- what is asked of the texts at a turn: they are the same under what is shown of the queue, behind an event of this line up to the cursor, and from the line's start up to a place
  pub record Facts (v : View) (s : State) (at to : ℕ) : Type 0 where
    pub shown : (j : ℕ) → Shown j s.queue → Same t u j
    pub behind : (e : ℕ) → let d = get_or s.queue e nothing in v.base ≤ d.start.0 → (j : ℕ) → d.end.0 ≤ j → j < v.base + at → Same t u j
    pub line : (j : ℕ) → v.base ≤ j → j < v.base + to → Same t u j

-- the destination that closing takes off, by either queue length
drop-taken : (n : ℕ) (p q : List Event) → length p ≡ length q → drop (suc (length (take n p))) q ≡ drop (suc n) q
drop-taken zero p q l = refl
drop-taken (suc n) [] [] l = refl
drop-taken (suc n) [] (b ∷ q) l = absurd (omega (arith, l))
drop-taken (suc n) (a ∷ p) [] l = absurd (omega (arith, l))
drop-taken (suc n) (a ∷ p) (b ∷ q) l = drop-taken n p q (omega (arith, l))

shown-drop : (i n : ℕ) (q : List Event) → Shown i (drop n q) → Shown i q
unfolding Shown
shown-drop i zero q x = x
shown-drop i (suc n) [] x = absurd x
shown-drop i (suc n) (e ∷ q) x = inr (shown-drop i n q x)

-- Two sheets, of two texts of one length, with two label rooms; and a token that begins at the i-th byte of a line, in two such states
module _ (t u : List ℕ) (long : length t ≡ length u) (K : ℕ → Type 0) (One : Type 0) (one : One → (n : ℕ) → K n) (rules : Rules) (block : ℕ → Bool) (m n : ℕ)
    (v : View) (i : ℕ) (s r : State) (d : Side t u K One s r) (to : ℕ) (f : Facts t u K One v s i to) where
  abbrev x : Sheet
  x = record { rules = rules; text = t; room = m; block = block }

  abbrev y : Sheet
  y = record { rules = rules; text = u; room = n; block = block }

  -- what is asked of a link that the step closes
  abbrev pub Now : Turn → Type 0
  Now a = (ds : List Event) → destination s a.state ≡ ds ∷ [] → K s.links.0 → (j : ℕ) → Spanned j ds → Same t u j

  abbrev pub Then : Turn → Turn → Type 0
  Then a b = Now a → a.cursor.pos ≤ to → Even t u K One a b

  abbrev At : Here → Type 0
  At h = h.from ≡ i

  abbrev Home-like : Home → Home → Type 0
  Home-like = Told t u K One s r

  -- bytes of the line up to where the step leads
  read-same : (a b : ℕ) → v.base ≤ a → b ≤ v.base + to → part t a b ≡ part u a b
  read-same a b l k = part-same t u long a b (λ j p q. f.line j (omega (arith, l, p)) (omega (arith, q, k)))

  module _ (h : Here) (a : At h) (o : Opener) (os : List Opener) where
    span-even : (image : Bool) (c : Cursor) (tk : Option Token)
        → Even t u K One (closes_span v h image o c tk (with_openers os s)) (closes_span v h image o c tk (with_openers os r))
    unfolding closes_span span_with
    span-even image c None = record { cursor = refl; state = side-put t u K One v str h.from h.to _ _ (side-openers t u K One os s r d) }
    span-even image c (Some tk) = go (takes (role_of tk.kind))
      where
        go : (b : Option Bool) → Even t u K One (span_with v h image o c tk.len b (with_openers os s)) (span_with v h image o c tk.len b (with_openers os r))
        go None = record { cursor = refl; state = side-put t u K One v str h.from h.to _ _ (side-openers t u K One os s r d) }
        go (Some inline) =
            let p = side-put t u K One v str h.from h.to _ _ (side-openers t u K One os s r d) in
            let q = side-put t u K One v str h.to (h.to + tk.len) _ _ p in
            record {
              cursor = refl;
              state = record {
                openers = rw (size t u K One s r d);
                inside = q.inside;
                last = q.last;
                links = q.links;
                refused = q.refused;
                queue = q.queue;
                labels = q.labels;
              };
            }

    -- a link
    module _ (tg : Target) where
      abbrev p : Labelled
      p = labelled x v h tg.inline o (with_openers os s)

      abbrev q : Labelled
      q = labelled y v h tg.inline o (with_openers os r)

      abbrev left : State
      left = closes_link tg.container p v h o (with_openers os s)

      abbrev right : State
      right = closes_link tg.container q v h o (with_openers os r)

      long-as : (f g : Event → Event) → length (amend f (o.event - 1) (amend g o.span s.queue)) ≡ length s.queue
      long-as f g = length-amend f (o.event - 1) (amend g o.span s.queue) ∙ length-amend g o.span s.queue

      is-next : destination s left ≡ drop (suc (length left.queue)) s.queue ∷ []
      unfolding destination
      is-next = rw (ne_eqb (suc s.links.0) s.links.0 (λ e. omega (arith, e)), destination)

      spanned : Now (record { cursor = (peek_of v.bytes h.cursor).cursor; state = left }) → K s.links.0 → (j : ℕ) → Spanned j (drop (suc o.event) s.queue) → Same t u j
      spanned now k j z = now _ is-next k j (subst (λ (l : List Event). Spanned j l) (sym (drop-taken o.event _ s.queue (long-as _ _))) z)

      module _ (now : Now (record { cursor = (peek_of v.bytes h.cursor).cursor; state = left })) where
        both : Labels t u K One s.links.0 (label_of t tg.inline v.base (v.base + h.from) (get_or s.queue o.event nothing) (drop (suc o.span) (take (o.event - 1) s.queue)) (drop (suc o.event) s.queue))
            (label_of u tg.inline v.base (v.base + h.from) (get_or r.queue o.event nothing) (drop (suc o.span) (take (o.event - 1) r.queue)) (drop (suc o.event) r.queue))
        both =
            labels-same t u K One long Home-like s.links.0 tg.inline v.base (v.base + h.from) _ _ _ _ _ _
            (like-at Home-like (told-none t u K One s r) o.event s.queue r.queue d.queue)
            (like-drop Home-like (suc o.span) _ _ (like-take Home-like (o.event - 1) s.queue r.queue d.queue))
            (like-drop Home-like (suc o.event) s.queue r.queue d.queue)
            (λ j z. f.shown j (shown-take j (o.event - 1) s.queue (shown-drop j (suc o.span) _ z)))
            (λ l j z w. f.behind o.event l j z (omega (arith, w, a)))
            (spanned now)

        placed-both : p.fits ≡ true → q.fits ≡ true → Placed t u K One s.labels r.labels s.fits r.fits p q
        placed-both =
            subst (λ (k : Link).
            let b = label_home n k r.labels r.fits (label_of u tg.inline v.base (v.base + h.from) (get_or r.queue o.event nothing) (drop (suc o.span) (take (o.event - 1) r.queue)) (drop (suc o.event) r.queue)) in
            p.fits ≡ true → b.fits ≡ true → Placed t u K One s.labels r.labels s.fits r.fits p b) (sym d.links)
            (placed t u K One one m n s.links s.labels r.labels s.fits r.fits d.labels _ _ both)

        link-even : Even t u K One (record { cursor = (peek_of v.bytes h.cursor).cursor; state = left }) (record { cursor = (peek_of v.bytes h.cursor).cursor; state = right })
        link-even =
            let N : Home → Home → Type 0 = Told t u K One left right in
            let e : q.home.link ≡ p.home.link = number-kept n r.links _ _ _ ∙ d.links ∙ sym (number-kept m s.links _ _ _) in
            let k : N p.home q.home = λ y z. (placed-both y z).tells in
            record {
              cursor = refl;
              state = record {
                openers = refl;
                inside = d.inside;
                last = refl;
                links = ap (λ (l : Link). link (suc l.0)) d.links;
                refused = d.refused;
                queue = like-take N o.event _ _
                    (like-amend N _ _ (like-to N (exit tg.container) p.home q.home (v.base + h.to) e k) (o.event - 1) _ _
                    (like-amend N _ _ (like-becomes N (enter tg.container) p.home q.home e k) o.span _ _
                    (like-other (λ g j z y w. let b = placed-both y w in b.others g j (z b.left b.right)) s.queue r.queue d.queue)));
                labels = λ o y z. (placed-both y z).all o;
              };
            }

    closed-even : (c : DelimEventKind) → Then (close_as x v h o c (with_openers os s)) (close_as y v h o c (with_openers os r))
    unfolding close_as
    closed-even (makes.Pair p) = λ now l.
        record {
          cursor = refl;
          state = record {
            openers = refl;
            inside = d.inside;
            last = refl;
            links = d.links;
            refused = d.refused;
            queue = like-put Home-like (told-none t u K One s r) _ _ _ _ _
                (like-amend Home-like _ _ (like-becomes Home-like p.first nowhere nowhere refl (told-none t u K One s r)) o.event s.queue r.queue d.queue);
            labels = d.labels;
          };
        }
    closed-even (makes.Span image) = λ now l. span-even image _ _
    closed-even (makes.Link tg) = λ now l. link-even tg now

  -- a token outside verbatim
  pub outside-even : (h : Here) → At h → (k : Role) → Then (outside x v h k s) (outside y v h k r)
  outside-even h a k =
      by-rule-where x y v s r d.openers (close-same t u K One s r d v) Then At (λ k. Unit {0}) (λ h j c l a. a) tt tt
      (λ h a g ok now l. record { cursor = refl; state = side-alone t u K One s r d v h g.alone g.opens })
      (λ h a c o os z. closed-even h a o os (closing_of o.sort))
      (λ h a c now l. record { cursor = refl; state = side-address t u K One s r d v h c (read-same _ _ (omega arith) (omega (arith, l))) })
      (λ h a kind c lo hi now l. record { cursor = refl; state = side-named t u K One s r d kind v h c (read-same _ _ (omega arith) (omega (arith, l))) })
      (λ h a now l. record { cursor = refl; state = side-dots t u K One s r d v h.from (h.to - h.from) })
      (λ h a now l. record { cursor = refl; state = side-dashes t u K One s r d v h.from (h.to - h.from) })
      (λ h a now l. even-opens t u K One s r d v h)
      (λ p. refl)
      (λ h a now l. record { cursor = refl; state = side-refuse t u K One s r d (v.base + h.from) })
      h a k tt

  -- and inside
  module _ (h : Here) (w : Verbatim) where
    closed-in : (c : Cursor) (g : Option ℕ) → (closed_with v h c w g s).cursor.pos ≤ to → Even t u K One (closed_with v h c w g s) (closed_with v h c w g r)
    unfolding closed_with
    closed-in c None l =
        record { cursor = refl; state = side-exits t u K One s r d w _ _ _ _ (like-kept t u K One s r d w s.queue r.queue d.queue) }
    closed-in c (Some g) l =
        let b = v.base + (h.to + 2) in
        let z = told-text t u K One s r b (b + g) (read-same b (b + g) (omega arith) (omega (arith, l))) in
        let k = like-amend Home-like _ _ (like-becomes Home-like (enter raw_format) (in_text b (b + g)) (in_text b (b + g)) refl z) w.event s.queue r.queue d.queue in
        let e = side-queue t u K One _ _ s r d k in
        record { cursor = refl; state = side-exits t u K One _ _ e w _ _ _ _ (like-kept t u K One s r d w _ _ k) }

    pub in-even : (tk : Token) → Then (in_verbatim rules v h tk w s) (in_verbatim rules v h tk w r)
    unfolding in_verbatim
    in-even tk now l = go (closes w h tk) refl l
      where
        go : (b : Bool) → closes w h tk ≡ b → (in_verbatim rules v h tk w s).cursor.pos ≤ to → Even t u K One (in_verbatim rules v h tk w s) (in_verbatim rules v h tk w r)
        go true e l = rw (e, in_verbatim) (closed-in _ _ (rw (e, in_verbatim) at l))
        go false e l =
            rw (e, in_verbatim)
            (choose₂ (Even t u K One) (all_blank (bytes_of v h)) _ _ _ _ (λ y. even-blank t u K One s r d v h w)
            (λ y. record { cursor = refl; state = side-content t u K One s r d v h tk w }))
