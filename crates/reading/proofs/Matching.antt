-- Exits and enters. The invariant goes by the openers: at each the queue parts into what stands before the opener's event, the event, which
-- opens nothing as yet, and events that match by themselves.
use Prim.Native.Nat.{ℕ, zero, suc, ◌+◌}
use mathlib.Core.Path.{◌≡◌, refl, sym, ap, ◌∙◌, subst}
use mathlib.Core.List.{List, [], ◌∷◌, ◌++◌, append_assoc}
use lib.ListN.{length, take}
use Rattle.reading.specs.declared.Opener.{Opener}
use Rattle.reading.specs.declared.DelimEventKind.{DelimEventKind}
use Rattle.reading.specs.declared.DelimEventKind.TheVariants as makes
use Rattle.reading.specs.Tokens.{closing_of}
use Rattle.reading.specs.Walked.{Tag, Walk, opening, closing, neither, Matches}

-- a stretch that leaves what is open as it was, whatever follows
unfoldable pub Still : List Walk → Type 0
Still w = (rest : List Walk) (ts : List Tag) → Matches rest ts → Matches (w ++ rest) ts

pub still-nil : Still []
unfolding Still
still-nil rest ts m = m

pub still-append : (a b : List Walk) → Still a → Still b → Still (a ++ b)
unfolding Still
still-append a b sa sb rest ts m = rw append_assoc (sa (b ++ rest) ts (sb rest ts m))

pub still-neither : (b : List Walk) → Still b → Still (neither ∷ b)
unfolding Still Matches
still-neither b s rest ts m = s rest ts m

-- two events that make a still stretch of the one between them
unfoldable pub Wraps : Walk → Walk → Type 0
Wraps x y = (b : List Walk) → Still b → Still (x ∷ b ++ (y ∷ []))

pub wraps-match : (t : Tag) → Wraps (opening t) (closing t)
unfolding Wraps Still Matches
wraps-match t b s rest ts m = rw append_assoc (s (closing t ∷ rest) (t ∷ ts) (refl, m))

pub wraps-neither : Wraps neither neither
unfolding Wraps
wraps-neither b s = still-neither (b ++ (neither ∷ [])) (still-append b (neither ∷ []) s (still-neither [] still-nil))

-- events that neither open nor close
unfoldable pub Plain : List Walk → Type 0
Plain [] = Unit {0}
Plain (x ∷ w) = (x ≡ neither) × Plain w

pub plain_still : (w : List Walk) → Plain w → Still w
unfolding Plain
plain_still [] p = still-nil
plain_still (x ∷ w) p = subst (λ (y : Walk). Still (y ∷ w)) (sym p.0) (still-neither w (plain_still w p.1))

pub plain-append : (a b : List Walk) → Plain a → Plain b → Plain (a ++ b)
unfolding Plain
plain-append [] b p q = q
plain-append (x ∷ a) b p q = (p.0, plain-append a b p.1 q)

pub plain-take : (n : ℕ) (w : List Walk) → Plain w → Plain (take n w)
unfolding Plain
plain-take zero w p = tt
plain-take (suc n) [] p = tt
plain-take (suc n) (x ∷ w) p = (p.0, plain-take n w p.1)

-- at an opener whose event stands at place n
pub record Top (below : List Walk → Type 0) (w : List Walk) (n : ℕ) : Type 0 where
  pub pre : List Walk
  pub post : List Walk
  pub parted : w ≡ pre ++ neither ∷ post
  pub place : length pre ≡ n
  pub still : Still post
  pub rest : below pre

-- at the opener of a link's destination: the `[` of its text at place m, its `]`, and the opener's event at place n
pub record LinkTop (below : List Walk → Type 0) (w : List Walk) (m n : ℕ) : Type 0 where
  pub pre : List Walk
  pub mid : List Walk
  pub post : List Walk
  pub parted : w ≡ pre ++ neither ∷ (mid ++ neither ∷ neither ∷ post)
  pub first : length pre ≡ m
  pub second : length pre + length mid + 2 ≡ n
  pub inner : Still mid
  pub still : Still post
  pub rest : below pre

unfoldable pub TopBy : DelimEventKind → (List Walk → Type 0) → List Walk → Opener → Type 0
TopBy (makes.Pair p) below w o = Top below w o.event
TopBy (makes.Span i) below w o = Top below w o.event
TopBy (makes.Link t) below w o = LinkTop below w o.span o.event

unfoldable pub Parts : List Walk → List Opener → Type 0
Parts w [] = Still w
Parts w (o ∷ os) = TopBy (closing_of o.sort) (λ (p : List Walk). Parts p os) w o

top-append : (below : List Walk → Type 0) (w : List Walk) (n : ℕ) (b : List Walk) → Top below w n → Still b → Top below (w ++ b) n
top-append below w n b t s =
    record {
      pre = t.pre;
      post = t.post ++ b;
      parted = rw t.parted (append_assoc t.pre (neither ∷ t.post) b);
      place = t.place;
      still = still-append t.post b t.still s;
      rest = t.rest;
    }

link-append : (below : List Walk → Type 0) (w : List Walk) (m n : ℕ) (b : List Walk) → LinkTop below w m n → Still b → LinkTop below (w ++ b) m n
link-append below w m n b t s =
    record {
      pre = t.pre;
      mid = t.mid;
      post = t.post ++ b;
      parted = rw t.parted
          (append_assoc t.pre (neither ∷ (t.mid ++ neither ∷ neither ∷ t.post)) b
          ∙ ap (λ (l : List Walk). t.pre ++ neither ∷ l) (append_assoc t.mid (neither ∷ neither ∷ t.post) b));
      first = t.first;
      second = t.second;
      inner = t.inner;
      still = still-append t.post b t.still s;
      rest = t.rest;
    }

-- a still stretch may follow
pub parts-append : (w : List Walk) (os : List Opener) (b : List Walk) → Parts w os → Still b → Parts (w ++ b) os
unfolding Parts TopBy
parts-append w [] b p s = still-append w b p s
parts-append w (o ∷ os) b p s = go (closing_of o.sort) p
  where
    go : (d : DelimEventKind) → TopBy d (λ (p : List Walk). Parts p os) w o → TopBy d (λ (p : List Walk). Parts p os) (w ++ b) o
    go (makes.Pair p) t = top-append _ w o.event b t s
    go (makes.Span i) t = top-append _ w o.event b t s
    go (makes.Link l) t = link-append _ w o.span o.event b t s

-- an opener that is discarded is an event like others
pub parts-drop : (w : List Walk) (o : Opener) (os : List Opener) → Parts w (o ∷ os) → Parts w os
unfolding Parts TopBy
parts-drop w o os p = go (closing_of o.sort) p
  where
    top : Top (λ (p : List Walk). Parts p os) w o.event → Parts w os
    top t = rw t.parted (parts-append t.pre os (neither ∷ t.post) t.rest (still-neither t.post t.still))

    linked : LinkTop (λ (p : List Walk). Parts p os) w o.span o.event → Parts w os
    linked t =
        rw t.parted
        (parts-append t.pre os (neither ∷ (t.mid ++ neither ∷ neither ∷ t.post)) t.rest
        (still-neither _ (still-append t.mid (neither ∷ neither ∷ t.post) t.inner (still-neither _ (still-neither t.post t.still)))))

    go : (d : DelimEventKind) → TopBy d (λ (p : List Walk). Parts p os) w o → Parts w os
    go (makes.Pair p) t = top t
    go (makes.Span i) t = top t
    go (makes.Link l) t = linked t

-- with no more text, what is still open is no enter
pub parts_all : (w : List Walk) (os : List Opener) → Parts w os → Still w
unfolding Parts
parts_all w [] p = p
parts_all w (o ∷ os) p = parts_all w os (parts-drop w o os p)
