-- Labels of two texts, by twos: what the labels of a link are in both, and where they stand in two label rooms.
use Prim.Native.Nat.{ℕ, zero, suc, ◌+◌, ◌-◌, ◌≤◌, ◌<◌}
use mathlib.Core.Path.{◌≡◌, refl, sym, ap, ◌∙◌}
use mathlib.Core.List.{List, [], ◌∷◌, ◌++◌}
use mathlib.Core.Bool.{Bool, true, false, not, ◌&&◌, ◌||◌}
use mathlib.Core.Logic.{inl, inr}
use native.Mathlib.Omega.{arith}
use borrow.Author.Tests.{eq-eqb, ne_eqb, eqb-true, leb-false, ltb-false, lt-leb}
use lib.Dec.{eqb, leb, ltb}
use lib.ListN.{length, get_or, take, drop, length-append, length-drop}
use lib.Seq.{take_all, drop-append-le, drop-append_seam, take-append-le}
use Rattle.std.proofs.lemmas.Bool.{true≢false}
use Rattle.reading.specs.declared.Event.{Event}
use Rattle.reading.specs.declared.Home.{Home}
use Rattle.reading.specs.declared.Link.{Link}
use Rattle.reading.specs.Events.{nowhere, in_text, place, home_none, home_text, home_labels, enter_from, escape, softbreak, hardbreak}
use Rattle.reading.specs.Labels.{part, word, words, stretches, pieces, separator, Label, here, built, Labelled, label_of, label_home}
use Rattle.reading.specs.Homes.{Runs}
use Rattle.reading.specs.Margin.{Spanned}
use Rattle.reading.specs.Walked.{Shown, link_exit}
use Rattle.reading.proofs.Choose.{choose, choose₂}
use Rattle.reading.proofs.Like.{Like, AllLike}

-- a part of two lists that agree there
part-zero : (n : ℕ) (t u : List ℕ) → length t ≡ length u → ((i : ℕ) → i < n → get_or t i 0 ≡ get_or u i 0) → take n t ≡ take n u
part-zero zero t u l f = refl
part-zero (suc n) [] [] l f = refl
part-zero (suc n) [] (b ∷ u) l f = absurd (omega (arith, l))
part-zero (suc n) (a ∷ t) [] l f = absurd (omega (arith, l))
part-zero (suc n) (a ∷ t) (b ∷ u) l f =
    ap (λ (c : ℕ). c ∷ take n t) (f 0 (omega arith)) ∙ ap (λ (r : List ℕ). b ∷ r) (part-zero n t u (omega (arith, l)) (λ i h. f (suc i) (omega (arith, h))))

part-on : (n a : ℕ) (t u : List ℕ) → length t ≡ length u → ((i : ℕ) → a ≤ i → i < a + n → get_or t i 0 ≡ get_or u i 0) → take n (drop a t) ≡ take n (drop a u)
part-on n zero t u l f = part-zero n t u l (λ i h. f i (omega arith) (omega (arith, h)))
part-on n (suc a) [] [] l f = refl
part-on n (suc a) [] (b ∷ u) l f = absurd (omega (arith, l))
part-on n (suc a) (c ∷ t) [] l f = absurd (omega (arith, l))
part-on n (suc a) (c ∷ t) (b ∷ u) l f = part-on n a t u (omega (arith, l)) (λ i h k. f (suc i) (omega (arith, h)) (omega (arith, k)))

-- a part of a list that has grown, and what it has grown by
pub part-grown : (l m : List ℕ) (a b : ℕ) → a ≤ b → b ≤ length l → part (l ++ m) a b ≡ part l a b
part-grown l m a b h k =
    ap (λ (r : List ℕ). take (b - a) r) (drop-append-le a l m (omega (arith, h, k)))
    ∙ take-append-le (b - a) (drop a l) m (omega (arith, h, k, length-drop a l))

part-end : (l m : List ℕ) → part (l ++ m) (length l) (length l + length m) ≡ m
part-end l m =
    ap (λ (r : List ℕ). take (length l + length m - length l) r) (drop-append_seam l m) ∙ take_all (length l + length m - length l) m (omega arith)

-- what a home holds: bytes of the text, or of the label bytes
unfoldable pub bytes_in : List ℕ → List ℕ → Home → List ℕ
bytes_in text labels h =
    elim (eqb h.home home_text) [
      | true ↦ part text h.start.0 h.end.0
      | false ↦ elim (eqb h.home home_labels) [ true ↦ part labels h.start.0 h.end.0 | false ↦ [] ]
    ]

module _ (text labels : List ℕ) (h : Home) where
  pub bytes-text : h.home ≡ home_text → bytes_in text labels h ≡ part text h.start.0 h.end.0
  unfolding bytes_in
  bytes-text e = rw (eq-eqb h.home home_text e, bytes_in)

  pub bytes-labels : h.home ≡ home_labels → bytes_in text labels h ≡ part labels h.start.0 h.end.0
  unfolding bytes_in
  bytes-labels e = rw (ne_eqb h.home home_text (λ z. omega (arith, e, z)), eq-eqb h.home home_labels e, bytes_in)

  pub bytes-none : h.home ≡ home_none → bytes_in text labels h ≡ []
  unfolding bytes_in
  bytes-none e = rw (ne_eqb h.home home_text (λ z. omega (arith, e, z)), ne_eqb h.home home_labels (λ z. omega (arith, e, z)), bytes_in)

-- what neither opens nor closes is no link's exit
no-exit : (kind : ℕ) (b : Bool) → (leb enter_from kind || b) ≡ false → link_exit kind ≡ false
unfolding link_exit
no-exit kind b e = go (leb enter_from kind) refl e
  where
    go : (c : Bool) → leb enter_from kind ≡ c → (c || b) ≡ false → link_exit kind ≡ false
    go true f e = absurd (true≢false e)
    go false f e = rw (lt-leb 76 kind (omega (arith, leb-false enter_from kind f)))

abbrev pub Same : List ℕ → List ℕ → ℕ → Type 0
Same t u i = get_or t i 0 ≡ get_or u i 0

pub part-same : (t u : List ℕ) → length t ≡ length u → (a b : ℕ) → ((i : ℕ) → a ≤ i → i < b → Same t u i) → part t a b ≡ part u a b
part-same t u long a b f = part-on (b - a) a t u long (λ i h k. f i h (omega (arith, h, k)))

-- Of two texts t and u. K says of a link, by its number, that in both its destination has the same bytes; One, that this is so of every link
module _ (t u : List ℕ) (K : ℕ → Type 0) (One : Type 0) where
  -- two homes, with the label bytes built so far: they hold the same, where K says so of a link whose label is built; and all of it is the same, where One does
  pub record Tells (ls ms : List ℕ) (h k : Home) : Type 0 where
    pub home : k.home ≡ h.home
    pub bytes : (h.home ≡ home_labels → K h.link.0) → bytes_in t ls h ≡ bytes_in u ms k
    pub all : One → k ≡ h
    pub left : h.home ≡ home_labels → Runs h (length ls)
    pub right : h.home ≡ home_labels → Runs k (length ms)

  pub tells-none : (ls ms : List ℕ) → Tells ls ms nowhere nowhere
  unfolding bytes_in
  tells-none ls ms =
      record { home = refl; bytes = λ k. refl; all = λ o. refl; left = λ e. absurd (omega (arith, e)); right = λ e. absurd (omega (arith, e)) }

  pub tells-text : (ls ms : List ℕ) (a b : ℕ) (n : Link) → part t a b ≡ part u a b
      → let h : Home = record { home = home_text; start = (in_text a b).start; end = (in_text a b).end; link = n } in Tells ls ms h h
  unfolding bytes_in
  tells-text ls ms a b n e =
      record { home = refl; bytes = λ k. e; all = λ o. refl; left = λ e. absurd (omega (arith, e)); right = λ e. absurd (omega (arith, e)) }

  -- more label bytes change nothing
  grown : (text l m : List ℕ) (h : Home) → (h.home ≡ home_labels → Runs h (length l)) → bytes_in text (l ++ m) h ≡ bytes_in text l h
  unfolding bytes_in
  grown text l m h r =
      choose₂ (λ a b. a ≡ b) (eqb h.home home_text) _ _ _ _ (λ e. refl)
      (λ e. choose₂ (λ a b. a ≡ b) (eqb h.home home_labels) _ _ _ _
      (λ f. let z = r (eqb-true h.home home_labels f) in part-grown l m h.start.0 h.end.0 z.0 z.1) (λ f. refl))

  pub tells-grown : (ls ms bs cs : List ℕ) (h k : Home) → Tells ls ms h k → Tells (ls ++ bs) (ms ++ cs) h k
  tells-grown ls ms bs cs h k z =
      record {
        home = z.home;
        bytes = λ y. grown t ls bs h z.left ∙ z.bytes y ∙ sym (grown u ms cs k (λ e. z.right (sym z.home ∙ e)));
        all = z.all;
        left = λ e. let r = z.left e in (r.0, omega (arith, r.1, length-append ls bs));
        right = λ e. let r = z.right e in (r.0, omega (arith, r.1, length-append ms cs));
      }

  -- the labels of a link, link number n: the same part of the texts, or both built
  unfoldable pub Labels : ℕ → Label → Label → Type 0
  Labels n (here a b) (here c d) = (c ≡ a) × (d ≡ b) × (part t a b ≡ part u a b)
  Labels n (here a b) (built cs) = ⊥
  Labels n (built bs) (here c d) = ⊥
  Labels n (built bs) (built cs) = K n → cs ≡ bs

  -- the bytes of events
  module _ (long : length t ≡ length u) (T : Home → Home → Type 0) where
    word-same : (e f : Event) → Like T e f → (link_exit e.kind ≡ false → (i : ℕ) → e.start.0 ≤ i → i < e.end.0 → Same t u i) → word u f ≡ word t e
    unfolding word
    word-same e f l s =
        rw (l.kind, l.start, l.end)
        (choose₂ (λ (a b : List ℕ). a ≡ b) (leb enter_from e.kind || eqb e.kind escape) _ _ _ _ (λ y. refl)
        (λ y. choose₂ (λ (a b : List ℕ). a ≡ b) (eqb e.kind softbreak || eqb e.kind hardbreak) _ _ _ _ (λ z. refl)
        (λ z. sym (part-same t u long e.start.0 e.end.0 (s (no-exit e.kind (eqb e.kind escape) y))))))

    pub words-same : (q r : List Event) → AllLike T q r → ((i : ℕ) → Shown i q → Same t u i) → words u r ≡ words t q
    unfolding words AllLike Shown
    words-same [] [] a s = refl
    words-same [] (f ∷ r) a s = absurd a
    words-same (e ∷ q) [] a s = absurd a
    words-same (e ∷ q) (f ∷ r) a s = rw (word-same e f a.0 (λ x i y z. s i (inl (x, y, z))), words-same q r a.1 (λ i x. s i (inr x)))

    pub stretches-same : (at : ℕ) (q r : List Event) → AllLike T q r → ((i : ℕ) → Spanned i q → Same t u i) → stretches u at r ≡ stretches t at q
    unfolding stretches AllLike Spanned
    stretches-same at [] [] a s = refl
    stretches-same at [] (f ∷ r) a s = absurd a
    stretches-same at (e ∷ q) [] a s = absurd a
    stretches-same at (e ∷ q) (f ∷ r) a s =
        rw (
          a.0.start,
          a.0.end,
          sym (part-same t u long e.start.0 e.end.0 (λ i y z. s i (inl (y, z)))),
          stretches-same e.end.0 q r a.1 (λ i x. s i (inr x)),
        )

    -- the label of a link that closes at a place of a line that starts at base
    module _ (n : ℕ) (inline : Bool) (base at : ℕ) (d e : Event) (texts texts' dest dest' : List Event) (l : Like T d e) (lt : AllLike T texts texts') (ld : AllLike T dest dest')
        (shown : (i : ℕ) → Shown i texts → Same t u i) (line : base ≤ d.start.0 → (i : ℕ) → d.end.0 ≤ i → i < at → Same t u i) (spanned : K n → (i : ℕ) → Spanned i dest → Same t u i) where
      pub labels-same : Labels n (label_of t inline base at d texts dest) (label_of u inline base at e texts' dest')
      unfolding label_of Labels
      labels-same =
          rw (l.start, l.end)
          (choose₂ (Labels n) (not inline && eqb d.end.0 at) _ _ _ _
          (λ y k. words-same texts texts' lt shown)
          (λ y. choose₂ (Labels n) (ltb d.start.0 base) _ _ _ _
          (λ z k. ap (λ (s : List ℕ). pieces (separator inline) false false s) (stretches-same d.end.0 dest dest' ld (spanned k)))
          (λ z. (refl, refl, part-same t u long d.end.0 at (line (ltb-false d.start.0 base z))))))

  -- what comes of them in two label rooms, where both hold them
  pub record Placed (ls ms : List ℕ) (f g : Bool) (p q : Labelled) : Type 0 where
    pub left : f ≡ true
    pub right : g ≡ true
    pub tells : Tells p.labels q.labels p.home q.home
    pub all : One → q.labels ≡ p.labels
    pub others : (h k : Home) → Tells ls ms h k → Tells p.labels q.labels h k

  module _ (one : One → (n : ℕ) → K n) (m n : ℕ) (k : Link) (ls ms : List ℕ) where
    -- both built, where the label rooms hold them
    built-placed : (One → ms ≡ ls) → (bs cs : List ℕ) → (K k.0 → cs ≡ bs)
        → let h : Home = record { home = home_labels; start = place (length ls); end = place (length ls + length bs); link = k } in
        let j : Home = record { home = home_labels; start = place (length ms); end = place (length ms + length cs); link = k } in
        Placed ls ms true true (record { home = h; labels = ls ++ bs; fits = true }) (record { home = j; labels = ms ++ cs; fits = true })
    unfolding bytes_in
    built-placed same bs cs l =
        record {
          left = refl;
          right = refl;
          tells = record {
            home = refl;
            bytes = λ y. part-end ls bs ∙ sym (l (y refl)) ∙ sym (part-end ms cs);
            all = λ o. rw (same o, l (one o k.0));
            left = λ e. (omega arith, omega (arith, length-append ls bs));
            right = λ e. (omega arith, omega (arith, length-append ms cs));
          };
          all = λ o. rw (same o, l (one o k.0));
          others = tells-grown ls ms bs cs;
        }

    pub placed : (f g : Bool) → (One → f ≡ true → g ≡ true → ms ≡ ls) → (p q : Label) → Labels k.0 p q
        → let a = label_home m k ls f p in let b = label_home n k ms g q in a.fits ≡ true → b.fits ≡ true → Placed ls ms f g a b
    unfolding Labels label_home
    placed f g same (here a b) (here c d) l = λ x y.
        record { left = x; right = y; tells = rw (l.0, l.1) (tells-text ls ms a b k l.2); all = λ o. same o x y; others = λ h j z. z }
    placed f g same (here a b) (built cs) l = absurd l
    placed f g same (built bs) (here c d) l = absurd l
    placed false g same (built bs) (built cs) l = λ x. absurd (true≢false (sym x))
    placed true false same (built bs) (built cs) l = λ x y. absurd (true≢false (sym y))
    placed true true same (built bs) (built cs) l =
        choose (λ (a : Labelled). a.fits ≡ true → (label_home n k ms true (built cs)).fits ≡ true → Placed ls ms true true a (label_home n k ms true (built cs)))
        (leb (length ls + length bs) m) _ _
        (λ e. choose (λ (b : Labelled). true ≡ true → b.fits ≡ true → Placed ls ms true true
        (record { home = record { home = home_labels; start = place (length ls); end = place (length ls + length bs); link = k }; labels = ls ++ bs; fits = true }) b) (leb (length ms + length cs) n) _ _
        (λ z x y. built-placed (λ o. same o refl refl) bs cs l)
        (λ z x y. absurd (true≢false (sym y))))
        (λ e x. absurd (true≢false (sym x)))

-- the link number is in the home
pub number-kept : (m : ℕ) (k : Link) (ls : List ℕ) (f : Bool) (p : Label) → (label_home m k ls f p).home.link ≡ k
unfolding label_home
number-kept m k ls f (here a b) = refl
number-kept m k ls f (built bs) = choose (λ (a : Labelled). a.home.link ≡ k) (f && leb (length ls + length bs) m) _ _ (λ e. refl) (λ e. refl)
