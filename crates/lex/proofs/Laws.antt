-- The laws of the lexer that its callers cite. `next-cases` is the one case analysis behind them.
use Rattle.std.specs.Prelude.{None, Option, Some}
use Prim.Native.Nat.{ℕ, ◌+◌, ◌≤◌, ◌<◌}
use mathlib.Core.Path.{◌≡◌, refl, sym, ap, ◌∙◌, subst}
use mathlib.Core.List.{List}
use mathlib.Core.Bool.{Bool, true, false}
use native.Mathlib.Decide.{dec_le}
use native.Mathlib.Omega.{arith}
use lib.ListN.{length, drop, length-drop}
use lib.Seq.{drop-drop}
use Rattle.lex.specs.declared.lex.Token.{Token}
use Rattle.lex.specs.declared.lex.Kind.TheVariants.{Text}
use Rattle.lex.specs.declared.lex.Cursor.{Cursor}
use Rattle.lex.specs.declared.lex.Lexed.{Lexed}
pub use Rattle.lex.specs.Sound.{Sound}
use Rattle.lex.specs.Lexer.{token, lexed, is_text, pending_of, holding_of, fresh_of, found_by, next_of, peek_of}
use Rattle.lex.proofs.Bounds.{Sized, lexed-sized, lexed-end}
use Rattle.lex.proofs.Texts.{texts-within}
use Rattle.lex.proofs.Walk.{after, taken_in, taken_out, joint, found_none, found_sized, found-other, found-text, next-held, next-free, peek-held, peek-free}

module _ (src : List ℕ) (c : Cursor) where
  abbrev here : List ℕ
  here = drop c.pos src

  -- the next token is a held one within the line or past it, none, another token than Text, or joined Text
  module _ (P : Lexed → Type 0)
      (taken : (t : Token) → c.next ≡ Some t → c.pos + t.len ≤ length src → P record { token = Some t; cursor = after c t.len c.escape })
      (passed : (t : Token) → c.next ≡ Some t → length src < c.pos + t.len → P record { token = None; cursor = c })
      (ended : c.next ≡ None → length src ≤ c.pos → P record { token = None; cursor = holding_of c c.pos None })
      (other : (t : Token) → lexed c.escape here ≡ Some t → P record { token = Some t; cursor = after c t.len (pending_of (Some t) c.verbatim) })
      (text : (t : Token) (e : lexed c.escape here ≡ Some t)
      → P record { token = Some (token Text (joint src c t e)); cursor = holding_of c (c.pos + joint src c t e) (lexed false (drop (joint src c t e) here)) }) where
    held : (t : Token) → c.next ≡ Some t → Dec (c.pos + t.len ≤ length src) → P (next_of src c)
    held t e (yes h) = subst P (sym (taken_in src c t h) ∙ next-held src c t e) (taken t e h)
    held t e (no n) = subst P (sym (taken_out src c t (omega arith)) ∙ next-held src c t e) (passed t e (omega arith))

    sorted : c.next ≡ None → (t : Token) (e : lexed c.escape here ≡ Some t) (x : Bool) → is_text t.kind ≡ x → P (next_of src c)
    sorted n t e true k = subst P (sym (found-text src c t e k) ∙ next-free src c n) (text t e)
    sorted n t e false k = subst P (sym (found-other src c t e k) ∙ next-free src c n) (other t e)

    free : c.next ≡ None → (f : Option Token) → lexed c.escape here ≡ f → P (next_of src c)
    free n None e = subst P (sym (found_none src c e) ∙ next-free src c n) (ended n (omega (arith, lexed-end c.escape here e, length-drop c.pos src)))
    free n (Some t) e = sorted n t e (is_text t.kind) refl

    pub next-cases : P (next_of src c)
    next-cases = go c.next refl
      where
        go : (n : Option Token) → c.next ≡ n → P (next_of src c)
        go (Some t) e = held t e (dec_le (c.pos + t.len) (length src))
        go None e = free e (lexed c.escape here) refl

apart : (t : Token) → None ≡ Some t → ⊥
apart t e = let z : ◌≡◌ {A = ℕ} 0 1 = cc in omega arith

same : (a b : Token) → Some a ≡ Some b → a ≡ b
same a b e = cc

-- every cursor: the next place is the old one plus the token's length, which never passes the end; the flag stays
pub record Stepped (src : List ℕ) (c : Cursor) (r : Lexed) : Type 0 where
  pub place : (t : Token) → r.token ≡ Some t → r.cursor.pos ≡ c.pos + t.len
  pub within : (t : Token) → r.token ≡ Some t → c.pos + t.len ≤ length src
  pub verbatim : r.cursor.verbatim ≡ c.verbatim

-- a sound cursor: a token is at least one byte, only at the end is there none, and the next cursor is such a one again
pub record Sounded (src : List ℕ) (c : Cursor) (r : Lexed) : Type 0 where
  pub some : (t : Token) → r.token ≡ Some t → 1 ≤ t.len
  pub end : r.token ≡ None → c.pos ≡ length src
  pub sound : Sound src r.cursor

module _ (src : List ℕ) (c : Cursor) where
  token-step : (t : Token) (next : Cursor) → next.pos ≡ c.pos + t.len → next.verbatim ≡ c.verbatim → c.pos + t.len ≤ length src
      → Stepped src c record { token = Some t; cursor = next }
  token-step t next p v h =
      record {
        place = λ u e. p ∙ ap (λ (x : Token). c.pos + x.len) (same t u e);
        within = λ u e. subst (λ (x : Token). c.pos + x.len ≤ length src) (same t u e) h;
        verbatim = v;
      }

  none-step : (next : Cursor) → next.verbatim ≡ c.verbatim → Stepped src c record { token = None; cursor = next }
  none-step next v = record { place = λ u e. absurd (apart u e); within = λ u e. absurd (apart u e); verbatim = v }

  -- the length of a joined Text
  joint-sized : (t : Token) (e : lexed c.escape (drop c.pos src) ≡ Some t) → Sized (joint src c t e) (drop c.pos src)
  joint-sized t e =
      let z = lexed-sized c.escape (drop c.pos src) t e in
      let w = texts-within (drop t.len (drop c.pos src)) in
      let l = length-drop t.len (drop c.pos src) in
      record { some = omega (arith, z.some); within = omega (arith, z.within, w, l) }

  placed : (n : ℕ) → Sized n (drop c.pos src) → c.pos + n ≤ length src
  placed n z = omega (arith, z.some, z.within, length-drop c.pos src)

  pub next-stepped : Stepped src c (next_of src c)
  next-stepped =
      next-cases src c (Stepped src c)
      (λ t e h. token-step t _ refl refl h)
      (λ t e h. none-step c refl)
      (λ e h. none-step _ refl)
      (λ t e. token-step t _ refl refl (found_sized src c t e))
      (λ t e. token-step _ _ refl refl (placed _ (joint-sized t e)))

  -- a cursor with nothing held, and one that holds what is lexed at its place
  free-sound : (next : Cursor) → next.pos ≤ length src → next.next ≡ None → Sound src next
  free-sound next p n = record { place = p; held = λ u e. absurd (apart u (sym n ∙ e)) }

  held-sound : (next : Cursor) (x : Bool) → next.pos ≤ length src → next.next ≡ lexed x (drop next.pos src) → Sound src next
  held-sound next x p n = record { place = p; held = λ u e. lexed-sized x (drop next.pos src) u (sym n ∙ e) }

  token-sound : (t : Token) (next : Cursor) → 1 ≤ t.len → Sound src next → Sounded src c record { token = Some t; cursor = next }
  token-sound t next h s =
      record {
        some = λ u e. subst (λ (x : Token). 1 ≤ x.len) (same t u e) h;
        end = λ e. absurd (apart t (sym e));
        sound = s;
      }

  none-sound : (next : Cursor) → c.pos ≡ length src → Sound src next → Sounded src c record { token = None; cursor = next }
  none-sound next h s = record { some = λ u e. absurd (apart u e); end = λ e. h; sound = s }

  module _ (s : Sound src c) where
    pub next-sounded : Sounded src c (next_of src c)
    next-sounded =
        next-cases src c (Sounded src c)
        (λ t e h. token-sound t _ (s.held t e).some (free-sound _ h refl))
        (λ t e h. absurd (omega (arith, placed _ (s.held t e))))
        (λ e h. none-sound _ (omega (arith, s.place)) (free-sound _ s.place refl))
        (λ t e. token-sound t _ (lexed-sized _ _ t e).some (free-sound _ (found_sized src c t e) refl))
        (λ t e.
        token-sound _ _ (joint-sized t e).some
        (held-sound _ false (placed _ (joint-sized t e)) (ap (lexed false) (drop-drop (joint src c t e) c.pos src))))

    -- a peek stays at its place
    pub peek-sounded : Sounded src c (peek_of src c)
    peek-sounded = go c.next refl
      where
        go : (n : Option Token) → c.next ≡ n → Sounded src c (peek_of src c)
        go (Some t) e =
            subst (Sounded src c) (peek-held src c t e)
            record {
              some = λ u k. (s.held u k).some;
              end = λ k. absurd (apart t (sym k ∙ e));
              sound = s;
            }
        go None e =
            subst (Sounded src c) (peek-free src c e)
            record {
              some = λ u k. (lexed-sized _ _ u k).some;
              end = λ k. omega (arith, s.place, lexed-end c.escape (drop c.pos src) k, length-drop c.pos src);
              sound = held-sound _ c.escape s.place refl;
            }

pub fresh-sound : (src : List ℕ) (pos : ℕ) (v : Bool) → pos ≤ length src → Sound src (fresh_of pos v)
fresh-sound src pos v h = record { place = h; held = λ u e. absurd (apart u e) }

-- with nothing held, what is next depends only on the bytes from the place on
pub next-local : (a b : List ℕ) (c : Cursor) → c.next ≡ None → drop c.pos a ≡ drop c.pos b → next_of a c ≡ next_of b c
next-local a b c n e = sym (next-free a c n) ∙ ap (λ (s : List ℕ). found_by c s (lexed c.escape s)) e ∙ next-free b c n

-- a peek stays where it is, and holds what it answers
pub record Peeked (c : Cursor) (r : Lexed) : Type 0 where
  pub place : r.cursor.pos ≡ c.pos
  pub verbatim : r.cursor.verbatim ≡ c.verbatim
  pub held : r.cursor.next ≡ r.token

pub peek-kept : (src : List ℕ) (c : Cursor) → Peeked c (peek_of src c)
peek-kept src c = go c.next refl
  where
    go : (n : Option Token) → c.next ≡ n → Peeked c (peek_of src c)
    go (Some t) e = subst (Peeked c) (peek-held src c t e) record { place = refl; verbatim = refl; held = refl }
    go None e = subst (Peeked c) (peek-free src c e) record { place = refl; verbatim = refl; held = refl }
