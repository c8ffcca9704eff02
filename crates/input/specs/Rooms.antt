-- The rooms in which a program reads a sheet.
use Rattle.std.specs.Prelude.{replicate}
use Rattle.reading.specs.Questions.{Rooms}
use Rattle.input.specs.declared.SheetRooms.{SheetRooms}

-- as they are lent to a call
abbrev pub lent : SheetRooms → Rooms
lent r = record { events = r.events; queue = r.queue; openers = r.openers; labels = r.labels }

-- as they are made: zero, for 1,001 events, 2,001 records of the queue, 1,000 openers and 65,536 label bytes
unfoldable pub sheet_rooms : Rooms
sheet_rooms = record { events = replicate 8008 0; queue = replicate 16008 0; openers = replicate 4000 0; labels = replicate 65536 0 }
