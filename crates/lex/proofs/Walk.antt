-- The steps of a cursor: from what is lexed at its place to the next token and cursor.
use Rattle.std.specs.Prelude.{None, Option, Some}
use Prim.Native.Nat.{ℕ, ◌+◌, ◌-◌, ◌≤◌, ◌<◌}
use mathlib.Core.Path.{◌≡◌, sym, ap, ◌∙◌}
use mathlib.Core.List.{List}
use mathlib.Core.Bool.{Bool, true, false}
use native.Mathlib.Omega.{arith}
use borrow.Author.Tests.{le-leb, lt-leb}
use lib.ListN.{length, drop, length-drop}
use lib.Seq.{drop-drop}
use Rattle.lex.specs.declared.lex.Token.{Token}
use Rattle.lex.specs.declared.lex.Kind.TheVariants.{Text}
use Rattle.lex.specs.declared.lex.Cursor.{Cursor}
use Rattle.lex.specs.declared.lex.Lexed.{Lexed}
use Rattle.lex.specs.declared.lex.Joined.{Joined}
use Rattle.lex.specs.Lexer.{token, lexed, is_text, pending_of, texts, joined_of, holding_of, found_by, taken_of, next_by, next_of, peek_by, peek_of}
use Rattle.lex.proofs.Bounds.{lexed-sized}

-- a cursor behind a token, with nothing held
abbrev pub after : Cursor → ℕ → Bool → Cursor
after c n escape = record { pos = c.pos + n; escape = escape; next = None; verbatim = c.verbatim }

-- a held token, within the line or not
module _ (src : List ℕ) (c : Cursor) (t : Token) where
  pub taken_in : c.pos + t.len ≤ length src → taken_of src c t ≡ record { token = Some t; cursor = after c t.len c.escape }
  unfolding taken_of
  taken_in h = rw (le-leb _ _ h, taken_of)

  pub taken_out : length src < c.pos + t.len → taken_of src c t ≡ record { token = None; cursor = c }
  unfolding taken_of
  taken_out h = rw (lt-leb _ _ h, taken_of)

-- what is lexed at the cursor's place: nothing, a token, or Text, which is joined
module _ (src : List ℕ) (c : Cursor) where
  abbrev here : List ℕ
  here = drop c.pos src

  abbrev pub found : Lexed
  found = found_by c here (lexed c.escape here)

  pub found_none : lexed c.escape here ≡ None → found ≡ record { token = None; cursor = holding_of c c.pos None }
  unfolding found_by
  found_none e = rw e

  module _ (t : Token) (e : lexed c.escape here ≡ Some t) where
    pub found_sized : c.pos + t.len ≤ length src
    found_sized = let z = lexed-sized c.escape here t e in omega (arith, z.some, z.within, length-drop c.pos src)

    pub found-other : is_text t.kind ≡ false → found ≡ record { token = Some t; cursor = after c t.len (pending_of (Some t) c.verbatim) }
    unfolding found_by
    found-other n = rw (e, n, found_by)

    -- the length of the joined Text
    abbrev pub joint : ℕ
    joint = t.len + texts (drop t.len here)

    pub found-text : is_text t.kind ≡ true → found ≡ record { token = Some (token Text joint); cursor = holding_of c (c.pos + joint) (lexed false (drop joint here)) }
    unfolding found_by
    found-text n = rw (e, n, found_by)

    -- the same by `join`
    module _ (j : Joined) (k : j ≡ joined_of src (c.pos + t.len)) where
      end_is : j.end ≡ c.pos + joint
      unfolding joined_of
      end_is = rw (drop-drop t.len c.pos src) (ap (λ (x : Joined). x.end) k ∙ omega arith)

      next-is : j.next ≡ lexed false (drop joint here)
      unfolding joined_of
      next-is =
          ap (λ (x : Joined). x.next) k
          ∙ ap (λ (n : ℕ). lexed false (drop n src)) (sym (ap (λ (x : Joined). x.end) k) ∙ end_is)
          ∙ ap (lexed false) (sym (drop-drop joint c.pos src))

      pub found_joined : is_text t.kind ≡ true
          → record { token = Some (token Text (j.end - c.pos)); cursor = holding_of c j.end j.next } ≡ found
      found_joined n =
          let long : j.end - c.pos ≡ joint = omega (arith, end_is) in
          (λ i. record { token = Some (token Text (long i)); cursor = holding_of c (end_is i) (next-is i) }) ∙ sym (found-text n)

  -- with a token held, and with none
  pub next-held : (t : Token) → c.next ≡ Some t → taken_of src c t ≡ next_of src c
  unfolding next_by
  next-held t e = sym (ap (next_by src c) e)

  pub next-free : c.next ≡ None → found ≡ next_of src c
  unfolding next_by
  next-free e = sym (ap (next_by src c) e)

  pub peek-held : (t : Token) → c.next ≡ Some t → record { token = c.next; cursor = c } ≡ peek_of src c
  unfolding peek_by
  peek-held t e = ap (λ (n : Option Token). record { token = n; cursor = c }) e ∙ sym (ap (peek_by src c) e)

  pub peek-free : c.next ≡ None → record { token = lexed c.escape here; cursor = holding_of c c.pos (lexed c.escape here) } ≡ peek_of src c
  unfolding peek_by
  peek-free e = sym (ap (peek_by src c) e)
