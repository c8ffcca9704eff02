-- Joined Text: what the Text token at the front adds to it.
use Rattle.std.specs.Prelude.{None, Option, Some}
use Prim.Native.Nat.{ℕ, suc, ◌+◌, ◌≤◌}
use mathlib.Core.Path.{◌≡◌, refl, sym, ap, ◌∙◌}
use mathlib.Core.List.{List, [], ◌∷◌}
use mathlib.Core.Bool.{Bool, true, false, not, ◌||◌}
use native.Mathlib.Nat.{zero-add, suc-add}
use native.Mathlib.Numerals.{one-add}
use native.Mathlib.Omega.{arith}
use borrow.Author.Tests.{not-true}
use lib.Dec.{eqb, ltb}
use lib.ListN.{length, get_or, drop}
use lib.Seq.{drop-drop}
use Rattle.classes.specs.Classes.{special, blank, punctuation}
use Rattle.classes.specs.declared.Set.TheVariants.{Plain}
use Rattle.classes.specs.Sets.{in_set, run}
use Rattle.classes.proofs.Runs.{run-stop, run_more}
use Rattle.lex.specs.declared.lex.Token.{Token}
use Rattle.lex.specs.declared.lex.Kind.TheVariants.{Open}
use Rattle.lex.specs.declared.lex.Delimiter.TheVariants.{Brace}
use Rattle.lex.specs.declared.lex.Start.{Start}
use Rattle.lex.specs.declared.lex.Start.TheVariants as start
use Rattle.lex.specs.Lexer.{token, start_of, braces, hyphens_of, begun_by, begun_of, lexed, is_text, texts, joined_of}
use Rattle.lex.proofs.Tables.{rows, lookup-all, marks, marks-special}

-- one byte at the front
module _ (b : ℕ) (bs : List ℕ) where
  text-more : is_text (begun_of (b ∷ bs)).kind ≡ true → texts (b ∷ bs) ≡ suc (texts bs)
  unfolding texts
  text-more e = rw (e, texts)

  text-none : is_text (begun_of (b ∷ bs)).kind ≡ false → texts (b ∷ bs) ≡ 0
  unfolding texts
  text-none e = rw (e, texts)

-- joined Text lies within the bytes
pub texts-within : (s : List ℕ) → texts s ≤ length s
unfolding texts
texts-within [] = omega arith
texts-within (b ∷ bs) = go (is_text (begun_of (b ∷ bs)).kind) refl (texts-within bs)
  where
    go : (x : Bool) → is_text (begun_of (b ∷ bs)).kind ≡ x → texts bs ≤ length bs → texts (b ∷ bs) ≤ suc (length bs)
    go true e ih = rw (text-more b bs e) (omega arith)
    go false e ih = rw (text-none b bs e) (omega arith)

-- a byte that marks nothing begins text
plain-start : (st : Start) → marks st ≡ false → st ≡ start.Text
plain-start start.Text e = refl
plain-start (start.Sole k) e = cc
plain-start (start.Closing k d) e = cc
plain-start start.Brace e = cc
plain-start start.Backslash e = cc
plain-start start.Hyphen e = cc
plain-start start.Exclaim e = cc
plain-start (start.Run q) e = cc

-- a run of bytes that are not special
texts-plain : (s : List ℕ) → texts s ≡ run (in_set Plain) s + texts (drop (run (in_set Plain) s) s)
unfolding run in_set begun_by
texts-plain [] = sym (zero-add (texts []))
texts-plain (b ∷ bs) = go (in_set Plain b) refl (texts-plain bs)
  where
    go : (x : Bool) → in_set Plain b ≡ x → texts bs ≡ run (in_set Plain) bs + texts (drop (run (in_set Plain) bs) bs)
        → texts (b ∷ bs) ≡ run (in_set Plain) (b ∷ bs) + texts (drop (run (in_set Plain) (b ∷ bs)) (b ∷ bs))
    go false e ih = rw (run-stop (in_set Plain) b bs e) (sym (zero-add (texts (b ∷ bs))))
    go true e ih =
        let st = plain-start (start_of b) (marks-special b ∙ not-true (special b) e) in
        rw (run_more (in_set Plain) b bs e, text-more b bs (ap (λ (x : Start). is_text (begun_by x (b ∷ bs)).kind) st), suc-add)
        (ap suc ih)

-- a Text token that a special byte begins is that byte
lone : (st : Start) (s : List ℕ) → marks st ≡ true → is_text (begun_by st s).kind ≡ true → (begun_by st s).len ≡ 1
unfolding begun_by hyphens_of braces rows
lone start.Text s m e = cc
lone (start.Sole k) s m e = refl
lone (start.Closing k d) s m e = go (eqb (get_or s 1 0) 125) refl
  where
    go : (x : Bool) → eqb (get_or s 1 0) 125 ≡ x → (begun_by (start.Closing k d) s).len ≡ 1
    go true q = let f = rw (q, begun_by) at e in cc
    go false q = rw (q, begun_by)
lone start.Brace s m e =
    let no = lookup-all (token (Open Brace) 1) (λ _ t. not (is_text t.kind)) braces refl (λ _. refl) (get_or s 1 0) in
    let f : is_text (begun_by start.Brace s).kind ≡ false = not-true (is_text (begun_by start.Brace s).kind) no in
    cc
lone start.Backslash s m e = go (blank (get_or s 1 0) || punctuation (get_or s 1 0)) refl
  where
    go : (x : Bool) → (blank (get_or s 1 0) || punctuation (get_or s 1 0)) ≡ x → (begun_by start.Backslash s).len ≡ 1
    go true q = rw (q, begun_by)
    go false q = rw (q, begun_by)
lone start.Hyphen s m e = go (eqb (get_or s n 0) 125) refl (ltb n 2) refl
  where
    n : ℕ
    n = run (eqb 45) s

    go : (x : Bool) → eqb (get_or s n 0) 125 ≡ x → (y : Bool) → ltb n 2 ≡ y → (begun_by start.Hyphen s).len ≡ 1
    go false p y q = let f = rw (p, hyphens_of) at e in cc
    go true p true q = let f = rw (p, q, hyphens_of) at e in cc
    go true p false q = let f = rw (p, q, hyphens_of) at e in cc
lone start.Exclaim s m e = go (eqb (get_or s 1 0) 91) refl
  where
    go : (x : Bool) → eqb (get_or s 1 0) 91 ≡ x → (begun_by start.Exclaim s).len ≡ 1
    go true q = let f = rw (q, begun_by) at e in cc
    go false q = rw (q, begun_by)
lone (start.Run q) s m e = cc

-- the token at the front of some bytes
module _ (b : ℕ) (bs : List ℕ) where
  front-text : is_text (begun_of (b ∷ bs)).kind ≡ true → texts (b ∷ bs) ≡ (begun_of (b ∷ bs)).len + texts (drop (begun_of (b ∷ bs)).len (b ∷ bs))
  unfolding begun_by
  front-text e = go (marks (start_of b)) refl
    where
      go : (x : Bool) → marks (start_of b) ≡ x → texts (b ∷ bs) ≡ (begun_of (b ∷ bs)).len + texts (drop (begun_of (b ∷ bs)).len (b ∷ bs))
      go true m = rw (lone (start_of b) (b ∷ bs) m e) (text-more b bs e ∙ sym (one-add (texts bs)))
      go false m = rw (plain-start (start_of b) m) (texts-plain (b ∷ bs))

-- from the token that is lexed: none, another than Text, and Text
pub texts-end : (s : List ℕ) → lexed false s ≡ None → texts s ≡ 0
unfolding lexed texts
texts-end [] e = refl
texts-end (b ∷ bs) e = let z : ◌≡◌ {A = ℕ} 0 1 = cc in absurd (omega arith)

pub texts-other : (s : List ℕ) (t : Token) → lexed false s ≡ Some t → is_text t.kind ≡ false → texts s ≡ 0
unfolding lexed
texts-other [] t e k = let z : ◌≡◌ {A = ℕ} 0 1 = cc in absurd (omega arith)
texts-other (b ∷ bs) t e k = let same : begun_of (b ∷ bs) ≡ t = cc in text-none b bs (rw (← same) at k)

pub texts-text : (s : List ℕ) (t : Token) → lexed false s ≡ Some t → is_text t.kind ≡ true → texts s ≡ t.len + texts (drop t.len s)
unfolding lexed
texts-text [] t e k = let z : ◌≡◌ {A = ℕ} 0 1 = cc in absurd (omega arith)
texts-text (b ∷ bs) t e k = let same : begun_of (b ∷ bs) ≡ t = cc in rw (← same) (front-text b bs (rw (← same) at k))

-- the joined Text from a place on: `end` bytes of the line are passed
module _ (src : List ℕ) (from : ℕ) where
  abbrev pub Joining : ℕ → Type 0
  Joining end = end + texts (drop end src) ≡ from + texts (drop from src)

  module _ (end : ℕ) (inv : Joining end) (next : Option Token) (e : next ≡ lexed false (drop end src)) where
    ended : texts (drop end src) ≡ 0 → record { end = end; next = next } ≡ joined_of src from
    unfolding joined_of
    ended z =
        let same : end ≡ from + texts (drop from src) = omega (arith, z) in
        rw (← same, e)

    pub joined_end : next ≡ None → record { end = end; next = next } ≡ joined_of src from
    joined_end k = ended (texts-end (drop end src) (sym e ∙ k))

    pub joined_other : (t : Token) → next ≡ Some t → is_text t.kind ≡ false → record { end = end; next = next } ≡ joined_of src from
    joined_other t k n = ended (texts-other (drop end src) t (sym e ∙ k) n)

    pub joined_more : (t : Token) → next ≡ Some t → is_text t.kind ≡ true → Joining (end + t.len)
    joined_more t k n =
        let more = texts-text (drop end src) t (sym e ∙ k) n in
        rw (← drop-drop t.len end src) (omega (arith, more))
