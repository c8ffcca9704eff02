-- What the parser asks of its rooms, at a token, at a line and at a sheet; and what its contracts are stated in.
use Rattle.std.specs.Prelude.{ℕ, ◌+◌, ◌-◌, ◌*◌, ◌^◌, ◌≤◌, ◌<◌, ◌≡◌, List, Bool, true, leb, length, get_or, take, Option, Some, None}
use Rattle.lex.specs.Sound.{Sound}
use Rattle.reading.specs.declared.Line.{Line}
use Rattle.reading.specs.declared.Place.{Place}
use Rattle.reading.specs.Events.{queue_numbers, opener_numbers, largest}
use Rattle.reading.specs.Machine.{View, State, Turn, view_of}
use Rattle.reading.specs.Verbatim.{ended_at}
use Rattle.reading.specs.Reading.{sheet, steps, begun, lines, views, start}
use Rattle.reading.specs.Naming.{Named}
use Rattle.reading.specs.Questions.{total, Fed}
use Rattle.rooms.specs.declared.Status.{Status}
use Rattle.rooms.specs.declared.Parser.{Parser}
use Rattle.rooms.specs.Standing.{stands}
use Rattle.rooms.specs.Steps.{state, turn, Lent, Room}
use Rattle.verbatim.specs.Opened.{OpenedBy}
use Rattle.outside.specs.Outside.{Ended}
use Rattle.inline.specs.Lines.{none}

-- at a token: a sound cursor, and rooms for what the rest of the line can give
pub record Before (v : View) (p : Parser) : Type 0 where
  pub sound : Sound v.bytes p.at.cursor
  pub small : v.base + length v.bytes ≤ largest
  pub room : (p.at.events + (length v.bytes - p.at.cursor.pos)) * queue_numbers ≤ length p.queue.now
  pub few : p.at.events + (length v.bytes - p.at.cursor.pos) ≤ largest
  pub shallow : p.at.openers + (length v.bytes - p.at.cursor.pos) ≤ largest
  pub stack : (p.at.openers + (length v.bytes - p.at.cursor.pos)) * opener_numbers ≤ length p.openers.now
  pub named : Named (state p).openers p.at.events
  pub opened : OpenedBy p.at.inside p
  pub ended : p.at.inside ≡ None → Ended p
  pub labels : p.at.labels ≤ length p.labels.now
  pub label_room : length p.labels.now < 2 ^ 32
  pub links : p.at.links.0 + 1 < 2 ^ 32
  pub looks : p.at.looks + p.at.openers < 2 ^ 64

-- what a status and the rooms stand for. The cursor is open: it is of no line any more
pub record StandsFor (r : Status) (q o l : List ℕ) (s : State) : Type 0 where
  pub same : stands r q o l ≡ s
  pub labels : r.labels ≤ length l

-- the same of a parser in the rooms that were lent to p
pub record Comes (p r : Parser) (s : State) : Type 0 where
  pub same : state r ≡ s
  pub lent : Lent p r
  pub labels : r.at.labels ≤ length r.labels.now

-- a sheet that passes questions 2 to 6 of document 01, with a label room of 32 bits
pub record Sheeted (text : List ℕ) (ls : List Line) (q o l : List ℕ) : Type 0 where
  pub small : length text ≤ largest
  pub listed : length ls ≤ largest
  pub fed : Fed text ls
  pub room : (2 * total ls + 1) * queue_numbers ≤ length q
  pub stack : total ls * opener_numbers ≤ length o
  pub label_room : length l < 2 ^ 32

-- before the i-th line of such a sheet: a state is what the lines before it give
pub record Behind (text : List ℕ) (all : List Line) (i reading : ℕ) (s : State) (q o l : List ℕ) : Type 0 where
  pub some : i < length all
  pub asks : Sheeted text all q o l
  pub same : s ≡ lines (sheet text all reading (length l)) (views text (take i all)) start

-- the same of a line of the text
pub record LineFed (text : List ℕ) (here : Line) (reading : ℕ) (s : State) (q o l : List ℕ) : Type 0 where
  pub all : List Line
  pub index : ℕ
  pub is : here ≡ get_or all index none
  pub behind : Behind text all index reading s q o l

-- within that line: behind so many steps of it
pub record Amid (text : List ℕ) (here : Line) (reading : ℕ) (a : Turn) (q o l : List ℕ) : Type 0 where
  pub s : State
  pub fed : LineFed text here reading s q o l
  pub count : ℕ
  pub few : count ≤ 2 * length (view_of text here).bytes
  pub same : let x = sheet text fed.all reading (length l) in let v = view_of text here in a ≡ steps count x v (begun x v s)

-- where its bytes are cut out
pub record Lined (text : List ℕ) (v : View) (reading : ℕ) (p : Parser) : Type 0 where
  pub here : Line
  pub seen : v ≡ view_of text here
  pub amid : Amid text here reading (turn p) p.queue.now p.openers.now p.labels.now
  pub labels : p.at.labels ≤ length p.labels.now

-- stopped at a brace of a line of the text, with room for one event
pub record BraceAt (text : List ℕ) (here : Line) (at : Place) (p : Parser) : Type 0 where
  pub ordered : here.start ≤ here.end
  pub within : here.end ≤ length text
  pub small : here.end ≤ largest
  pub low : here.start ≤ at.0
  pub short : at.0 - here.start < p.at.cursor.pos
  pub far : p.at.cursor.pos ≤ here.end - here.start
  pub room : Room 1 p

-- a place of the i-th line
pub record Within (text : List ℕ) (all : List Line) (i at : ℕ) : Type 0 where
  pub listed : length all ≤ largest
  pub fed : Fed text all
  pub some : i < length all
  pub low : (get_or all i none).start ≤ at
  pub high : at ≤ (get_or all i none).end

-- the line is at its end, or the sheet is refused
unfoldable pub over_of : ℕ → ℕ → Option Place → Bool
over_of n pos (Some p) = true
over_of n pos None = leb n pos

-- the end of the lines
abbrev pub ending : ℕ → State → State
ending b s = ended_at b s.inside s

-- what the end asks: a refused sheet is outside verbatim, and any other has its enter in the queue
unfoldable pub Closing : Option Place → Parser → Type 0
Closing (Some a) p = p.at.inside ≡ None
Closing None p = OpenedBy p.at.inside p
