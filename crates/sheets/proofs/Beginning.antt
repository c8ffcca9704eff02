-- A line of a sheet as it begins: it lies in the text, and there is room for what it gives.
use Rattle.std.specs.Prelude.{Option, Some}
use Rattle.reading.specs.declared.Verbatim.{Verbatim}
use Prim.Native.Nat.{ℕ, ◌+◌, ◌-◌, ◌≤◌}
use mathlib.Core.Path.{◌≡◌, refl, sym, ap, ◌∙◌, subst}
use mathlib.Core.List.{List}
use lib.ListN.{length, get_or, take}
use Rattle.reading.specs.declared.Line.{Line}
use Rattle.reading.specs.declared.Place.{Place}
use Rattle.reading.specs.Machine.{View, Sheet, State, Turn, view_of, with_inside}
use Rattle.reading.specs.Verbatim.{moved_on}
use Rattle.reading.specs.Reading.{begun, line as line_of, views, start, sheet}
use Rattle.reading.specs.Questions.{total}
use Rattle.reading.proofs.Spans.{Any}
use Rattle.reading.proofs.Backticks.{Shows}
use Rattle.reading.proofs.Braces.{Outside, lines-outside, start_outside}
use Rattle.reading.proofs.Stepping.{Held}
use Rattle.reading.proofs.Feeding.{view-long}
use Rattle.reading.proofs.Stopping.{steps-refused}
use Rattle.inline.specs.Asks.{Behind}
use Rattle.inline.specs.Lines.{none}
use Rattle.inline.proofs.Begins.{next-ordered, next-within, next-total, next-shows, line-held}

module _ {text : List ℕ} {all : List Line} {i reading : ℕ} {s₀ : State} {q₀ o₀ l₀ : List ℕ} (w : Behind text all i reading s₀ q₀ o₀ l₀) where
  abbrev x : Sheet
  x = sheet text all reading (length l₀)

  abbrev here : Line
  here = get_or all i none

  abbrev v : View
  v = view_of text here

  abbrev n : ℕ
  n = length v.bytes

  -- the line as it begins
  abbrev a₀ : Turn
  a₀ = begun x v s₀

  abbrev m : ℕ
  m = total (take i all)

  pub here-ordered : here.start ≤ here.end
  here-ordered = next-ordered text reading q₀ o₀ l₀ all w.asks i w.some here refl

  pub here-within : here.end ≤ length text
  here-within = next-within text reading q₀ o₀ l₀ all w.asks i w.some here refl

  pub here-long : n ≡ here.end - here.start
  here-long = view-long text here here-ordered here-within

  pub here-total : m + (here.end - here.start) ≤ total all
  here-total = next-total text reading q₀ o₀ l₀ all w.asks i w.some here refl

  pub shows : Shows text v
  shows = next-shows text reading q₀ o₀ l₀ all w.asks i w.some here refl

  pub first : Held Any text v m 0 a₀
  first =
      subst (λ (s : State). Held Any text v m 0 (begun x v s)) (sym w.same) (line-held text reading q₀ o₀ l₀ all w.asks i w.some here refl)

  -- of a sheet that is refused before it nothing changes
  pub line_refused : (at : Place) → s₀.refused ≡ Some at → s₀ ≡ line_of x v s₀
  unfolding moved_on
  line_refused at e =
      let out = subst Outside (sym w.same) (lines-outside x (views text (take i all)) start start_outside) at e in
      sym (ap (λ (a : Turn). a.state) (steps-refused x v n a₀ at e) ∙ ap (λ (z : Option Verbatim). with_inside z s₀) (ap moved_on out ∙ sym out))
