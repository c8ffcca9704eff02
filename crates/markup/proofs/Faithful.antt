-- What a fitter may rely on, of every list of events whose exits match their enters.
use Prim.Native.Nat.{ℕ, zero, suc}
use mathlib.Core.Path.{◌≡◌, refl, sym, ap, ◌∙◌, subst}
use mathlib.Core.List.{List, [], ◌∷◌, ◌++◌, map}
use Rattle.reading.specs.declared.Event.{Event}
use Rattle.reading.specs.Walked.{Walked, Matches}
use Rattle.markup.specs.Markup.{tag, characters, raw_behind, unless_raw, outside_raw}
use Rattle.markup.specs.Shown.{Part, element, shows, walk_at, characters_in, tagged, parts_of, Faithful}
use Rattle.markup.proofs.Back.{read_back}
use Rattle.markup.proofs.Matched.{matched-all}

-- the characters of parts one behind the other
in-append : (ps qs : List Part) → characters_in (ps ++ qs) ≡ characters_in ps ++ characters_in qs
unfolding characters_in
in-append [] qs = refl
in-append (element k ∷ ps) qs = in-append ps qs
in-append (shows b ∷ ps) qs = ap (λ (l : List ℕ). b ∷ l) (in-append ps qs)

in-shown : (cs : List ℕ) → characters_in (map shows cs) ≡ cs
unfolding characters_in
in-shown [] = refl
in-shown (c ∷ cs) = ap (λ (l : List ℕ). c ∷ l) (in-shown cs)

in-tagged : (kind : ℕ) (bs : List ℕ) → characters_in (tagged kind bs) ≡ []
unfolding characters_in tagged
in-tagged kind [] = refl
in-tagged kind (b ∷ bs) = refl

in-event : (text : List ℕ) (e : Event) → characters_in (parts_of text e) ≡ characters text e
in-event text e =
    in-append (tagged e.kind (tag e.kind)) (map shows (characters text e))
    ∙ (λ t. in-tagged e.kind (tag e.kind) t ++ in-shown (characters text e) t)

in-events : (text : List ℕ) (n : ℕ) (es : List Event) → characters_in (outside_raw (parts_of text) n es) ≡ outside_raw (characters text) n es
unfolding outside_raw unless_raw characters_in
in-events text n [] = refl
in-events text zero (e ∷ es) =
    in-append (parts_of text e) (outside_raw (parts_of text) (raw_behind 0 e.kind) es)
    ∙ (λ t. in-event text e t ++ in-events text (raw_behind 0 e.kind) es t)
in-events text (suc n) (e ∷ es) = in-events text (raw_behind (suc n) e.kind) es

pub faithful : (text : List ℕ) (es : List Event) → Walked es → Faithful text es
faithful text es w =
    record {
      same = read_back text 0 es;
      elements = subst (λ (ps : List Part). Matches (map walk_at ps) []) (sym (read_back text 0 es)) (matched-all text es w);
      characters = ap characters_in (read_back text 0 es) ∙ in-events text 0 es;
    }
