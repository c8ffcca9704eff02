-- What is known where a line begins and within it: the invariant of the definition, and rooms for all lines.
use Prim.Native.Nat.{ℕ, suc, ◌+◌, ◌-◌, ◌*◌, ◌^◌, ◌≤◌, ◌<◌}
use mathlib.Core.Path.{◌≡◌, refl, sym, ap, ◌∙◌, subst}
use mathlib.Core.List.{List, [], ◌∷◌}
use native.Mathlib.Omega.{arith}
use lib.ListN.{length, get_or, take, drop}
use lib.Seq.{drop-cons}
use Rattle.reading.specs.declared.Line.{Line}
use Rattle.reading.specs.Machine.{Sheet, State, Turn, View, view_of}
use Rattle.reading.specs.Reading.{steps, begun, line as line_of, lines, views, start, end_of, sheet}
use Rattle.reading.specs.Questions.{total}
use Rattle.reading.proofs.Spans.{Gap, Any}
use Rattle.reading.proofs.Backticks.{Shows}
use Rattle.reading.proofs.Braces.{links-line, links-steps}
use Rattle.reading.proofs.Feeding as feeding
use Rattle.reading.proofs.Stepping.{Held}
use Rattle.reading.proofs.Feeding.{Rising, Apart, view-long, view-shows, begun-held}
use Rattle.reading.proofs.Counting.{Counts, half-more, lines-count, steps-count}
use Rattle.reading.proofs.Stopping.{moment-held}
use Rattle.reading.proofs.Theorems.{rising, free, front, back, halves, behind}
use Rattle.rooms.specs.declared.Parser.{Parser}
use Rattle.rooms.specs.Steps.{state, turn}
use Rattle.inline.specs.Asks.{Amid, Lined, Sheeted}
use Rattle.inline.specs.Lines.{none}

-- lines one behind another are no longer than the text
pub rising-total : (text : List ℕ) (a : ℕ) (ls : List Line) → a ≤ length text → Rising text a ls → a + total ls ≤ length text
unfolding Rising total
rising-total text a [] h r = omega arith
rising-total text a (l ∷ ls) h r = omega (arith, r.0, r.1, rising-total text l.end ls r.2 r.3)

-- and close no more links than they have bytes
links-lines : (x : Sheet) (text : List ℕ) (a : ℕ) (ls : List Line) → Rising text a ls → (s : State) → (lines x (views text ls) s).links.0 ≤ total ls + s.links.0
unfolding Rising total lines
links-lines x text a [] r s = omega arith
links-lines x text a (l ∷ ls) r s =
    let v = view_of text l in
    omega (arith, links-lines x text l.end ls r.3 (line_of x v s), links-line x v s, view-long text l r.1 r.2)

-- what is known within a line
pub record Begins (text : List ℕ) (v : View) (p : Parser) : Type 0 where
  pub count : ℕ
  pub held : Held Any text v count 0 (turn p)
  pub shows : Shows text v
  pub small : v.base + length v.bytes ≤ 1048576
  pub few : count + length v.bytes ≤ 1048576
  pub room : (count + length v.bytes) * 8 ≤ length p.queue.now
  pub stack : (count + length v.bytes) * 4 ≤ length p.openers.now
  pub label_room : length p.labels.now < 2 ^ 32
  pub links : p.at.links.0 + length v.bytes ≤ 4194304
  pub looks : Counts (count + p.at.cursor.pos) (state p)

module _ (text : List ℕ) (reading : ℕ) (q o l : List ℕ) (ls : List Line) (w : Sheeted text ls q o l) (i : ℕ) where
  abbrev x : Sheet
  x = sheet text ls reading (length l)

  up : Rising text 0 ls
  up = rising text 0 ls w.fed.inside w.fed.apart

  abbrev given : State
  given = lines x (views text (take i ls)) start

  -- behind i lines
  pub before-stood : feeding.Stood Any text x (end_of (take i ls) 0) (total (take i ls)) given
  before-stood = subst (λ (n : ℕ). feeding.Stood Any text x (end_of (take i ls) 0) n given) (omega arith) (behind x ls w.fed i)

  pub before-links : given.links.0 ≤ total (take i ls)
  before-links = omega (arith, links-lines x text 0 (take i ls) (front text i ls 0 up) start)

  before-count : Counts (total (take i ls)) given
  before-count e =
      omega (
        arith,
        lines-count x (take i ls) 0 0 start (front text i ls 0 up) (feeding.start-stood Any text x) (λ z. omega arith) e,
        half-more (0 + total (take i ls)) (total (take i ls)) (omega arith),
      )

  pub before-few : total (take i ls) ≤ total ls
  before-few = omega (arith, halves i ls)

  -- and before the next
  module _ (some : i < length ls) (here : Line) (is : here ≡ get_or ls i none) where
    cons : drop i ls ≡ here ∷ drop (suc i) ls
    cons = drop-cons ls i none some ∙ ap (λ (k : Line). k ∷ drop (suc i) ls) (sym is)

    next : Rising text (end_of (take i ls) 0) (here ∷ drop (suc i) ls)
    next = subst (λ (ms : List Line). Rising text (end_of (take i ls) 0) ms) cons (back text i ls 0 up)

    pub next-ordered : here.start ≤ here.end
    unfolding Rising
    next-ordered = next.1

    pub next-within : here.end ≤ length text
    unfolding Rising
    next-within = next.2

    pub next-total : total (take i ls) + (here.end - here.start) ≤ total ls
    unfolding total
    next-total = omega (arith, halves i ls, ap total cons)

    next-gap : Gap Any (end_of (take i ls) 0) here.start
    unfolding Apart
    next-gap = (free x (end_of (take i ls) 0) (here ∷ drop (suc i) ls) next).0

    abbrev v : View
    v = view_of text here

    pub next-shows : Shows text v
    next-shows = view-shows text here next-ordered next-within

    -- where the line begins
    pub line-held : Held Any text v (total (take i ls)) 0 (begun x v given)
    line-held = begun-held Any text x v (end_of (take i ls) 0) (total (take i ls)) given next-gap before-stood

    -- behind so many steps of it, of a parser in these rooms
    pub begins : (k : ℕ) → k ≤ 2 * length v.bytes → (p : Parser) → p.queue.now ≡ q → p.openers.now ≡ o → p.labels.now ≡ l
        → turn p ≡ steps k x v (begun x v given) → (u : View) → u ≡ v → Begins text u p
    begins k most p isq iso isl same u seen =
        let long : length v.bytes ≡ here.end - here.start = view-long text here next-ordered next-within in
        let few = rising-total text 0 ls (omega arith) up in
        let held = moment-held x v text (total (take i ls)) next-shows (begun x v given) line-held k in
        subst (λ (w : View). Begins text w p) (sym seen)
        record {
          count = total (take i ls);
          held = subst (λ (a : Turn). Held Any text v (total (take i ls)) 0 a) (sym same) held;
          shows = next-shows;
          small = omega (arith, long, next-ordered, next-within, w.small);
          few = omega (arith, long, next-total, few, w.small);
          room = rw isq (omega (arith, long, next-total, w.room));
          stack = rw iso (omega (arith, long, next-total, w.stack));
          label_room = rw isl w.label_room;
          looks = subst (λ (a : Turn). Counts (total (take i ls) + a.cursor.pos) a.state) (sym same)
              (steps-count x v (total (take i ls)) next-shows k (begun x v given) line-held
              (λ e. omega (arith, before-count e, half-more (total (take i ls)) (total (take i ls) + 0) (omega arith))));
          links = omega (arith, ap (λ (a : Turn). a.state.links.0) same, links-steps k x v (begun x v given), before-links, most, long, next-total, few, w.small);
        }

pub lined-begins : (text : List ℕ) (v : View) (reading : ℕ) (p : Parser) → Lined text v reading p → Begins text v p
lined-begins text v reading p w =
    let a = w.amid in
    let f = a.fed in
    let b = f.behind in
    begins text reading p.queue.now p.openers.now p.labels.now f.all b.asks f.index b.some w.here f.is a.count a.few p refl refl refl
    (subst
    (λ (s : State). turn p ≡ steps a.count (sheet text f.all reading (length p.labels.now)) (view_of text w.here)
    (begun (sheet text f.all reading (length p.labels.now)) (view_of text w.here) s)) b.same a.same)
    v w.seen

-- a line that is fed is of the text
module _ (text : List ℕ) (here : Line) (reading : ℕ) (a : Turn) (q o l : List ℕ) (w : Amid text here reading a q o l) where
  pub fed-ordered : here.start ≤ here.end
  fed-ordered = let f = w.fed in next-ordered text reading q o l f.all f.behind.asks f.index f.behind.some here f.is

  pub fed-within : here.end ≤ length text
  fed-within = let f = w.fed in next-within text reading q o l f.all f.behind.asks f.index f.behind.some here f.is
