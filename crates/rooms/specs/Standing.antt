-- What a status and the rooms stand for: the state of the definition.
use Rattle.std.specs.Prelude.{ℕ, ◌+◌, ◌≤◌, List, true, length, take, Option, None}
use Rattle.lex.specs.declared.lex.Cursor.{Cursor}
use Rattle.reading.specs.declared.Last.{Last}
use Rattle.reading.specs.Events.{link, largest}
use Rattle.reading.specs.Machine as machine
use Rattle.reading.specs.Machine.{State, Here}
use Rattle.rooms.specs.declared.Status.{Status}
use Rattle.rooms.specs.declared.View.{View}
use Rattle.rooms.specs.declared.span.Span.{Span}
use Rattle.rooms.specs.Records.{events, opens}

-- of a status with queue room q, opener room o and label room l
abbrev pub stands : Status → List ℕ → List ℕ → List ℕ → State
stands s q o l =
    record {
      queue = events s.events q;
      openers = opens s.openers o;
      inside = s.inside;
      last = s.last;
      labels = take s.labels l;
      fits = s.fits;
      links = s.links;
      refused = s.refused;
      looks = s.looks;
    }

-- nothing queued, open or refused
abbrev pub fresh_of : Cursor → Option Last → Status
fresh_of c l =
    record {
      cursor = c;
      events = 0;
      openers = 0;
      inside = None;
      last = l;
      labels = 0;
      fits = true;
      links = link 0;
      refused = None;
      looks = 0;
    }

-- a line
abbrev pub viewed : View → machine.View
viewed v = record { base = v.base; before = v.before; bytes = v.bytes.now }

-- a token, with the cursor behind it
abbrev pub here : Span → Status → Here
here h s = record { from = h.from; to = h.to; cursor = s.cursor }

-- a token of a line, whose places are small
pub record Fits (v : machine.View) (h : Span) : Type 0 where
  pub within : h.to ≤ length v.bytes
  pub small : v.base + length v.bytes ≤ largest
