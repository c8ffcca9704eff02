-- A sheet with the answer that it is to get: the rows of `Worked`, and of the stored answers of the Rust.
use Rattle.std.specs.Prelude.{ℕ, ◌+◌, ◌*◌, List, [], ◌∷◌, map, length, replicate}
use Prim.Native.String.{String}
use Rattle.classes.specs.Classes.{bytes}
use Rattle.reading.specs.declared.Line.{Line}
use Rattle.reading.specs.declared.Event.{Event}
use Rattle.reading.specs.declared.Located.{Located}
use Rattle.reading.specs.declared.Home.{Home}
use Rattle.reading.specs.Events.{place, link, event_numbers, queue_numbers, opener_numbers}
use Rattle.reading.specs.Reading.{sheet}
use Rattle.reading.specs.Dropped.{dropped}
use Rattle.reading.specs.Questions.{Rooms, Outcome, total, numbers, filled, zeros, outcome}

-- a sheet, and what is to be answered: code and place, the events, the label room's bytes, and how many opener records are looked at
pub record Row : Type 0 where
  pub text : String
  pub lines : List Line
  pub reading : ℕ
  pub code : ℕ
  pub at : ℕ
  pub events : List Located
  pub labels : String
  pub looks : ℕ

-- rooms as lent: of exact size, with 16 bytes for labels, and not clear
abbrev pub rooms : Row → Rooms
rooms r =
    record {
      events = replicate (event_numbers * (total r.lines + 1)) 9;
      queue = replicate (queue_numbers * (2 * total r.lines + 1)) 9;
      openers = replicate (opener_numbers * total r.lines) 9;
      labels = replicate 16 9;
    }

-- the answer and all four rooms
abbrev pub found : Row → Outcome
found r = outcome (bytes r.text) r.lines r.reading (rooms r)

abbrev pub expected : Row → Outcome
expected r =
    record {
      answer = record { code = r.code; place = r.at; events = length r.events; labels = length (bytes r.labels); looks = r.looks };
      rooms = record {
        events = filled (numbers r.events) (rooms r).events;
        queue = zeros (rooms r).queue;
        openers = zeros (rooms r).openers;
        labels = filled (bytes r.labels) (rooms r).labels;
      };
    }

-- the blanks that are dropped
abbrev pub blanks : Row → List Line
blanks r = dropped (sheet (bytes r.text) r.lines r.reading 16) r.lines

abbrev pub span : ℕ → ℕ → Line
span a b = record { start = a; end = b }

-- the home of a link's label: in the text or in the label room, from where to where, and the link's number
abbrev pub at_home : ℕ → ℕ → ℕ → ℕ → Home
at_home home a b n = record { home = home; start = place a; end = place b; link = link n }

-- events on one line
abbrev pub on : ℕ → List Event → List Located
on line es = map (λ (e : Event). record { event = e; line = line }) es

-- a sheet that is read
abbrev pub given : String → List Line → ℕ → List Located → String → Row
given text lines reading events labels =
    record { text = text; lines = lines; reading = reading; code = 0; at = 0; events = events; labels = labels; looks = 0 }

-- a text that is one line, in reading 0
abbrev pub one_line : String → List Event → String → Row
one_line text events labels = given text (span 0 (length (bytes text)) ∷ []) 0 (on 0 events) labels

-- an attribute block
abbrev pub refused_at : String → List Line → ℕ → ℕ → Row
refused_at text lines reading at =
    record { text = text; lines = lines; reading = reading; code = 7; at = at; events = []; labels = ""; looks = 0 }

-- so many opener records are looked at
abbrev pub looking_at : ℕ → Row → Row
looking_at n r =
    record {
      text = r.text;
      lines = r.lines;
      reading = r.reading;
      code = r.code;
      at = r.at;
      events = r.events;
      labels = r.labels;
      looks = n;
    }
