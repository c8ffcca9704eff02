-- The loops over lines and events, and what the lines come to.
use Prim.Native.Nat.{ℕ, ◌+◌, ◌*◌, ◌≤◌, ◌<◌}
use mathlib.Core.Path.{◌≡◌, refl, sym, ap, ◌∙◌, subst}
use mathlib.Core.List.{List, [], ◌∷◌, ◌++◌}
use native.Mathlib.Numerals.{add-one}
use native.Mathlib.Omega.{arith}
use lib.ListN.{length, take, drop, length-append, length-drop, take-append-drop}
use lib.Seq.{sets, take-add, take_all, drop-append_seam, drop-drop}
use Rattle.reading.specs.declared.Line.{Line}
use Rattle.reading.specs.declared.Event.{Event}
use Rattle.reading.specs.declared.Located.{Located}
use Rattle.reading.specs.Events.{event_numbers}
use Rattle.reading.specs.Located.{line_of, located}
use Rattle.reading.specs.Questions.{numbers}
use Rattle.reading.proofs.Locating.{line-within, line-rises, located-length}
use Rattle.rooms.proofs.Rows.{rows-length}
use Rattle.listing.specs.Listing.{event_at, listed, records}
use Rattle.listing.proofs.Listed.{listed_next, numbers-length, numbers-records, numbers-append, located-append, event-front, line-seam}
use Rattle.locate.specs.declared.Here.{Here}
use Rattle.locate.specs.Lining.{line_at, lined, Rising}

-- at the head of the loop over the events the first i have their lines
pub record Located_to (ls : List Line) (n : ℕ) (room₀ room : List ℕ) (here : Here) (i : ℕ) : Type 0 where
  pub at : ℕ
  pub within : here.line < length ls
  pub stands : here ≡ line_at ls here.line
  pub behind : here.line ≤ line_of ls at
  pub rises : Rising at (drop i (listed n room₀))
  pub same : room ≡ numbers (located ls (take i (listed n room₀))) ++ drop (i * event_numbers) room₀

module _ (ls : List Line) (n : ℕ) (room₀ : List ℕ) (fits : n * event_numbers ≤ length room₀) where
  abbrev es : List Event
  es = listed n room₀

  abbrev front : ℕ → List ℕ
  front i = numbers (located ls (take i es))

  front-length : (i : ℕ) → i ≤ n → length (front i) ≡ i * event_numbers
  front-length i h =
      numbers-length (located ls (take i es))
      ∙ ap (λ (k : ℕ). k * event_numbers) (located-length ls (take i es) ∙ lib.Seq.length-take-le i es (omega (arith, rows-length event_at n room₀)))

  pub to-first : (here : Here) → here ≡ line_at ls 0 → 1 ≤ length ls → Rising 0 es → Located_to ls n room₀ room₀ here 0
  unfolding located numbers
  to-first here e some r =
      let z : here.line ≡ 0 = ap (λ (h : Here). h.line) e in
      record { at = 0; within = omega (arith, z, some); stands = e ∙ ap (line_at ls) (sym z); behind = omega (arith, z); rises = r; same = refl }

  module _ {room : List ℕ} {here : Here} {i : ℕ} (x : Located_to ls n room₀ room here i) (h : i < n) where
    rest : drop (i * event_numbers) room ≡ drop (i * event_numbers) room₀
    rest = ap (drop (i * event_numbers)) x.same ∙ drop-append_seam'
      where
        drop-append_seam' : drop (i * event_numbers) (front i ++ drop (i * event_numbers) room₀) ≡ drop (i * event_numbers) room₀
        drop-append_seam' = ap (λ (k : ℕ). drop k (front i ++ drop (i * event_numbers) room₀)) (sym (front-length i (omega arith))) ∙ drop-append_seam (front i) (drop (i * event_numbers) room₀)

    pub to-fits : i * event_numbers + event_numbers ≤ length room
    to-fits = omega (arith, ap length x.same, length-append (front i) (drop (i * event_numbers) room₀), front-length i (omega arith), length-drop (i * event_numbers) room₀)

    -- the event there is the i-th as it was
    there : event_at room i ≡ event_at room₀ i
    there = sym (event-front room i) ∙ ap (λ (l : List ℕ). event_at l 0) rest ∙ event-front room₀ i

    module _ (e : Event) (is : e ≡ event_at room i) where
      next : drop i es ≡ e ∷ drop (i + 1) es
      next = listed_next room₀ n i h ∙ (λ t. sym (is ∙ there) t ∷ drop (sym (add-one i) t) es)

      onward : (x.at ≤ e.start.0) × Rising e.start.0 (drop (i + 1) es)
      unfolding Rising
      onward = subst (Rising x.at) next x.rises

      pub to-line : here.line ≤ line_of ls e.start.0
      to-line = omega (arith, x.behind, line-rises ls x.at e.start.0 onward.0)

      module _ (here' : Here) (on : here' ≡ line_at ls (line_of ls e.start.0)) where
        abbrev line' : ℕ
        line' = here'.line

        at : line' ≡ line_of ls e.start.0
        at = ap (λ (h : Here). h.line) on

        abbrev r : Located
        r = record { event = e; line = line' }

        pub to-next : Located_to ls n room₀ (sets room (i * event_numbers + 7) (line' ∷ [])) here' (i + 1)
        unfolding located
        to-next =
            record {
              at = e.start.0;
              within = omega (arith, at, line-within ls e.start.0 (omega (arith, x.within)));
              stands = on ∙ ap (line_at ls) (sym at);
              behind = omega (arith, at);
              rises = onward.1;
              same = ap (λ (l : List ℕ). sets l (i * event_numbers + 7) (line' ∷ [])) x.same
                  ∙ ap (λ (k : ℕ). sets (front i ++ drop (i * event_numbers) room₀) (k + 7) (line' ∷ [])) (sym (front-length i (omega arith)))
                  ∙ line-seam (front i) (drop (i * event_numbers) room₀) e line' (omega (arith, length-drop (i * event_numbers) room₀)) (is ∙ there ∙ sym (event-front room₀ i))
                  ∙ (λ t. longer t ++ shorter t);
            }
          where
            longer : front i ++ numbers (r ∷ []) ≡ front (i + 1)
            longer =
                sym (numbers-append (located ls (take i es)) (r ∷ []))
                ∙ ap numbers (ap (λ (k : ℕ). located ls (take i es) ++ (record { event = e; line = k } ∷ [])) at ∙ sym (located-append ls (take i es) (e ∷ [])) ∙ ap (located ls) (sym more))
              where
                more : take (i + 1) es ≡ take i es ++ (e ∷ [])
                more = take-add i 1 es ∙ ap (λ (l : List Event). take i es ++ take 1 l) next

            shorter : drop event_numbers (drop (i * event_numbers) room₀) ≡ drop ((i + 1) * event_numbers) room₀
            shorter = drop-drop event_numbers (i * event_numbers) room₀ ∙ ap (λ (k : ℕ). drop k room₀) (omega arith)

  pub to-all : {room : List ℕ} {here : Here} {i : ℕ} → Located_to ls n room₀ room here i → i ≡ n → room ≡ lined ls n room₀
  to-all {room} {here} {i} x e =
      x.same
      ∙ ap (λ (k : ℕ). numbers (located ls (take k es)) ++ drop (k * event_numbers) room₀) e
      ∙ ap (λ (l : List Event). numbers (located ls l) ++ drop (n * event_numbers) room₀) (take_all n es (omega (arith, rows-length event_at n room₀)))

-- with one line all events are on line 0
located-few : (l : Line) (es : List Event) → located (l ∷ []) es ≡ located [] es
unfolding located line_of
located-few l [] = refl
located-few l (e ∷ es) = ap (λ (rs : List Located). record { event = e; line = 0 } ∷ rs) (located-few l es)

unlined-same : (n : ℕ) (room : List ℕ) → n * event_numbers ≤ length room → records n room ≡ located [] (listed n room)
    → room ≡ numbers (located [] (listed n room)) ++ drop (n * event_numbers) room
unlined-same n room h u =
    sym (take-append-drop (n * event_numbers) room) ∙ ap (λ (l : List ℕ). l ++ drop (n * event_numbers) room) (sym (numbers-records n room h) ∙ ap numbers u)

pub lined-few : (ls : List Line) (n : ℕ) (room : List ℕ) → n * event_numbers ≤ length room → length ls ≤ 1 → records n room ≡ located [] (listed n room)
    → room ≡ lined ls n room
lined-few [] n room h k u = unlined-same n room h u
lined-few (l ∷ []) n room h k u =
    unlined-same n room h u ∙ ap (λ (rs : List Located). numbers rs ++ drop (n * event_numbers) room) (sym (located-few l (listed n room)))
lined-few (l ∷ m ∷ ls) n room h k u = absurd (omega arith)
