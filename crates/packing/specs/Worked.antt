-- Packed lists by hand from document 02's sentences (L4 and L5), and faulty ones with the place of
-- the fault.
use Rattle.std.specs.Prelude.{ℕ, List, [], ◌∷◌, ◌++◌}
use Rattle.reading.specs.declared.Located.{Located}
use Rattle.reading.specs.declared.Home.{Home}
use Rattle.reading.specs.Events.{place, link, event, homed, in_text, home_labels, str, softbreak, symbol, strong, autolink, inline_link, reference_link, enter}
use Rattle.reading.specs.Events.{exit}
use Rattle.reading.specs.Sheets.{on}
use Rattle.packing.specs.Packed.{Flaw, unknown_kind, no_such_home, backwards, early, meaning}
use Rattle.packing.specs.declared.Fault.{Fault}
use Rattle.packing.specs.declared.Fault.TheVariants.{Cut, Longer, TooLarge, Beyond, UnknownKind, WrongHome, Rest}

-- some events and their bytes
pub record Pair : Type 0 where
  pub events : List Located
  pub bytes : List ℕ

abbrev linked : ℕ → ℕ → ℕ → Home
linked a b n = record { home = 1; start = place a; end = place b; link = link n }

abbrev labelled : ℕ → ℕ → ℕ → Home
labelled a b n = record { home = home_labels; start = place a; end = place b; link = link n }

abbrev pub worked : List Pair
worked =
    -- no events
    record { events = []; bytes = 0 ∷ [] }
    -- `*a*`
    ∷ record {
      events = on 0 (event (enter strong) 0 1 ∷ event str 1 2 ∷ event (exit strong) 2 3 ∷ []);
      bytes = 3 ∷ 38 ∷ 0 ∷ 1 ∷ 0 ∷ 0 ∷ 1 ∷ 0 ∷ 1 ∷ 0 ∷ 0 ∷ 70 ∷ 0 ∷ 1 ∷ 0 ∷ 0 ∷ [];
    }
    -- `*a` and `b*`: the break is on the line that it ends
    ∷ record {
      events = on 0 (event (enter strong) 0 1 ∷ event str 1 2 ∷ event softbreak 2 3 ∷ []) ++ on 1 (event str 3 4 ∷ event (exit strong) 4 5 ∷ []);
      bytes = 5 ∷ 38 ∷ 0 ∷ 1 ∷ 0 ∷ 0 ∷ 1 ∷ 0 ∷ 1 ∷ 0 ∷ 0 ∷ 2 ∷ 0 ∷ 1 ∷ 0 ∷ 0 ∷ 1 ∷ 0 ∷ 1 ∷ 1 ∷ 0 ∷ 70 ∷ 0 ∷ 1 ∷ 1 ∷ 0 ∷ [];
    }
    -- `[a](b)`: a link has a number
    ∷ record {
      events = on 0 (homed (enter inline_link) (linked 4 5 0) 0 1 ∷ event str 1 2 ∷ homed (exit inline_link) (linked 4 5 0) 2 6 ∷ []);
      bytes = 3 ∷ 46 ∷ 0 ∷ 1 ∷ 0 ∷ 1 ∷ 4 ∷ 1 ∷ 0 ∷ 1 ∷ 0 ∷ 1 ∷ 0 ∷ 0 ∷ 78 ∷ 0 ∷ 4 ∷ 0 ∷ 1 ∷ 4 ∷ 1 ∷ 0 ∷ [];
    }
    -- `[a][]`: the label stands in the label room
    ∷ record {
      events = on 0 (homed (enter reference_link) (labelled 0 1 0) 0 1 ∷ event str 1 2 ∷ homed (exit reference_link) (labelled 0 1 0) 2 5 ∷ []);
      bytes = 3 ∷ 44 ∷ 0 ∷ 1 ∷ 0 ∷ 2 ∷ 0 ∷ 1 ∷ 0 ∷ 1 ∷ 0 ∷ 1 ∷ 0 ∷ 0 ∷ 76 ∷ 0 ∷ 3 ∷ 0 ∷ 2 ∷ 0 ∷ 1 ∷ 0 ∷ [];
    }
    -- `<a:b>`: an autolink has none
    ∷ record {
      events = on 0 (homed (enter autolink) (in_text 1 4) 0 1 ∷ event str 1 4 ∷ homed (exit autolink) (in_text 1 4) 4 5 ∷ []);
      bytes = 3 ∷ 48 ∷ 0 ∷ 1 ∷ 0 ∷ 1 ∷ 1 ∷ 3 ∷ 1 ∷ 0 ∷ 3 ∷ 0 ∷ 0 ∷ 80 ∷ 0 ∷ 1 ∷ 0 ∷ 1 ∷ 1 ∷ 3 ∷ [];
    }
    -- `::` behind 300 bytes of no line and 150 empty lines: an empty range, and a start and a line of
    -- two groups
    ∷ record { events = on 150 (homed symbol (in_text 301 301) 300 302 ∷ []); bytes = 1 ∷ 13 ∷ 172 ∷ 2 ∷ 2 ∷ 150 ∷ 1 ∷ 1 ∷ 173 ∷ 2 ∷ 0 ∷ [] }
    -- a kind with a home that has none; the largest start, link number 4,294,967,295; a line before
    -- that of the event before; lists that no sheet gave
    ∷ record { events = on 0 (event symbol 0 0 ∷ []); bytes = 1 ∷ 13 ∷ 0 ∷ 0 ∷ 0 ∷ 0 ∷ [] }
    ∷ record {
      events = on 4294967295 (event str 4294967295 4294967295 ∷ []) ++ on 0 (homed (exit inline_link) (linked 0 0 4294967295) 4294967295 4294967295 ∷ []);
      bytes = 2 ∷ 1 ∷ 255 ∷ 255 ∷ 255 ∷ 255 ∷ 15 ∷ 0 ∷ 255 ∷ 255 ∷ 255 ∷ 255 ∷ 15 ∷ 0 ∷ 78 ∷ 0 ∷ 0 ∷ 0 ∷ 1 ∷ 0 ∷ 0 ∷ 255 ∷ 255 ∷ 255 ∷ 255 ∷ 15 ∷ [];
    }
    ∷ []

-- some bytes, the fault and its place
pub record Faulty : Type 0 where
  pub bytes : List ℕ
  pub fault : Fault
  pub place : ℕ

abbrev pub faulty : List Faulty
faulty =
    -- cut short, wherever the number began: the length
    record { bytes = []; fault = Cut; place = 0 }
    ∷ record { bytes = 128 ∷ []; fault = Cut; place = 1 }
    ∷ record { bytes = 1 ∷ 38 ∷ 0 ∷ 1 ∷ []; fault = Cut; place = 4 }
    ∷ record { bytes = 1 ∷ 38 ∷ 0 ∷ 1 ∷ 0 ∷ []; fault = Cut; place = 5 }
    ∷ record { bytes = 1 ∷ 38 ∷ 0 ∷ 255 ∷ 255 ∷ []; fault = Cut; place = 5 }
    -- longer than needed
    ∷ record { bytes = 128 ∷ 0 ∷ []; fault = Longer; place = 0 }
    ∷ record { bytes = 1 ∷ 1 ∷ 129 ∷ 128 ∷ 128 ∷ 128 ∷ 0 ∷ 0 ∷ 0 ∷ []; fault = Longer; place = 2 }
    ∷ record { bytes = 1 ∷ 1 ∷ 0 ∷ 1 ∷ 128 ∷ 0 ∷ 0 ∷ []; fault = Longer; place = 4 }
    -- too large: a fifth byte over 15, with the high bit or not
    ∷ record { bytes = 255 ∷ 255 ∷ 255 ∷ 255 ∷ 16 ∷ []; fault = TooLarge; place = 0 }
    ∷ record { bytes = 1 ∷ 128 ∷ 128 ∷ 128 ∷ 128 ∷ 128 ∷ 0 ∷ []; fault = TooLarge; place = 1 }
    -- a start, an end and a home end beyond the largest
    ∷ record { bytes = 2 ∷ 1 ∷ 1 ∷ 0 ∷ 0 ∷ 0 ∷ 1 ∷ 255 ∷ 255 ∷ 255 ∷ 255 ∷ 15 ∷ 0 ∷ 0 ∷ 0 ∷ []; fault = Beyond; place = 7 }
    ∷ record { bytes = 1 ∷ 1 ∷ 1 ∷ 255 ∷ 255 ∷ 255 ∷ 255 ∷ 15 ∷ 0 ∷ []; fault = Beyond; place = 3 }
    ∷ record { bytes = 1 ∷ 13 ∷ 0 ∷ 2 ∷ 0 ∷ 1 ∷ 1 ∷ 255 ∷ 255 ∷ 255 ∷ 255 ∷ 15 ∷ []; fault = Beyond; place = 7 }
    -- unknown kinds
    ∷ record { bytes = 1 ∷ 0 ∷ []; fault = UnknownKind; place = 1 }
    ∷ record { bytes = 1 ∷ 15 ∷ []; fault = UnknownKind; place = 1 }
    ∷ record { bytes = 1 ∷ 32 ∷ []; fault = UnknownKind; place = 1 }
    ∷ record { bytes = 1 ∷ 49 ∷ []; fault = UnknownKind; place = 1 }
    ∷ record { bytes = 1 ∷ 64 ∷ []; fault = UnknownKind; place = 1 }
    ∷ record { bytes = 1 ∷ 81 ∷ []; fault = UnknownKind; place = 1 }
    ∷ record { bytes = 1 ∷ 129 ∷ 2 ∷ []; fault = UnknownKind; place = 1 }
    -- a home over 2, or on a kind without one
    ∷ record { bytes = 1 ∷ 13 ∷ 0 ∷ 2 ∷ 0 ∷ 3 ∷ []; fault = WrongHome; place = 5 }
    ∷ record { bytes = 1 ∷ 1 ∷ 0 ∷ 2 ∷ 0 ∷ 1 ∷ 0 ∷ 0 ∷ []; fault = WrongHome; place = 5 }
    -- bytes left over
    ∷ record { bytes = 0 ∷ 0 ∷ []; fault = Rest; place = 1 }
    ∷ record { bytes = 1 ∷ 1 ∷ 0 ∷ 1 ∷ 0 ∷ 0 ∷ 128 ∷ []; fault = Rest; place = 6 }
    ∷ []

-- events that the writer refuses, for what, and the index of the first such event
pub record Refusal : Type 0 where
  pub events : List Located
  pub flaw : Flaw
  pub index : ℕ

abbrev pub refused : List Refusal
refused =
    record { events = on 0 (event 32 0 1 ∷ []); flaw = unknown_kind; index = 0 }
    ∷ record { events = on 0 (event str 0 1 ∷ event 64 1 2 ∷ event 0 0 0 ∷ []); flaw = unknown_kind; index = 1 }
    ∷ record { events = on 0 (homed str (in_text 0 1) 0 1 ∷ []); flaw = no_such_home; index = 0 }
    ∷ record { events = on 0 (homed symbol (record { home = 3; start = place 0; end = place 1; link = link 0 }) 0 2 ∷ []); flaw = no_such_home; index = 0 }
    ∷ record { events = on 0 (event str 2 1 ∷ []); flaw = backwards; index = 0 }
    ∷ record { events = on 0 (homed symbol (in_text 2 1) 0 2 ∷ []); flaw = backwards; index = 0 }
    ∷ record { events = on 0 (event str 0 2 ∷ event str 1 3 ∷ []); flaw = early; index = 1 }
    ∷ record { events = on 0 (homed str (record { home = 0; start = place 0; end = place 1; link = link 0 }) 0 1 ∷ []); flaw = meaning; index = 0 }
    ∷ record { events = on 0 (homed (enter autolink) (linked 1 4 1) 0 1 ∷ []); flaw = meaning; index = 0 }
    ∷ []
