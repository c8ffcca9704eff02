-- Events (document 01, "What it reads and what it hands out"): their kinds, homes and link numbers, the numbers of a record, and the limits.
use Rattle.std.specs.Prelude.{ℕ, ◌+◌, ◌-◌}
use Rattle.reading.specs.declared.Place.{Place}
use Rattle.reading.specs.declared.Link.{Link}
use Rattle.reading.specs.declared.Event.{Event}
use Rattle.reading.specs.declared.Home.{Home}

-- a byte place and a link number are two types
abbrev pub place : ℕ → Place
place n = record { 0 = n }

abbrev pub link : ℕ → Link
link n = record { 0 = n }

-- how many 32-bit numbers a record has: an event that is handed out, one of the queue, an opener
abbrev pub event_numbers : ℕ
event_numbers = 8

abbrev pub queue_numbers : ℕ
queue_numbers = 8

abbrev pub opener_numbers : ℕ
opener_numbers = 4

-- the largest text in bytes, and the longest line list in records
abbrev pub largest : ℕ
largest = 1048576

-- of a longer label room only so many bytes count
abbrev pub label_limit : ℕ
label_limit = 4294967295

-- the longest run of backticks that opens
abbrev pub longest_run : ℕ
longest_run = 255

-- the kinds that neither open nor close
abbrev pub str : ℕ
str = 1

abbrev pub softbreak : ℕ
softbreak = 2

abbrev pub hardbreak : ℕ
hardbreak = 3

abbrev pub escape : ℕ
escape = 4

abbrev pub nbsp : ℕ
nbsp = 5

abbrev pub ellipsis : ℕ
ellipsis = 6

abbrev pub endash : ℕ
endash = 7

abbrev pub emdash : ℕ
emdash = 8

abbrev pub left_single : ℕ
left_single = 9

abbrev pub right_single : ℕ
right_single = 10

abbrev pub left_double : ℕ
left_double = 11

abbrev pub right_double : ℕ
right_double = 12

abbrev pub symbol : ℕ
symbol = 13

abbrev pub footnote : ℕ
footnote = 14

-- the containers, in the order of the Rust's `Container`
abbrev pub subscript : ℕ
subscript = 1

abbrev pub superscript : ℕ
superscript = 2

abbrev pub insert : ℕ
insert = 3

abbrev pub delete : ℕ
delete = 4

abbrev pub emphasis : ℕ
emphasis = 5

abbrev pub strong : ℕ
strong = 6

abbrev pub mark : ℕ
mark = 7

abbrev pub verbatim : ℕ
verbatim = 8

abbrev pub raw_format : ℕ
raw_format = 9

abbrev pub inline_math : ℕ
inline_math = 10

abbrev pub display_math : ℕ
display_math = 11

abbrev pub reference_link : ℕ
reference_link = 12

abbrev pub reference_image : ℕ
reference_image = 13

abbrev pub inline_link : ℕ
inline_link = 14

abbrev pub inline_image : ℕ
inline_image = 15

abbrev pub autolink : ℕ
autolink = 16

-- the kinds from here on are enters, and from there on exits
abbrev pub enter_from : ℕ
enter_from = 32

abbrev pub exit_from : ℕ
exit_from = 64

abbrev pub enter : ℕ → ℕ
enter k = enter_from + k

abbrev pub exit : ℕ → ℕ
exit k = exit_from + k

-- the homes
abbrev pub home_none : ℕ
home_none = 0

abbrev pub home_text : ℕ
home_text = 1

abbrev pub home_labels : ℕ
home_labels = 2

-- fields with no meaning are 0
abbrev pub nowhere : Home
nowhere = record { home = home_none; start = place 0; end = place 0; link = link 0 }

abbrev pub in_text : ℕ → ℕ → Home
in_text a b = record { home = home_text; start = place a; end = place b; link = link 0 }

abbrev pub home_of : Event → Home
home_of e = record { home = e.home; start = e.home_start; end = e.home_end; link = e.link }

-- an event with its span and home
abbrev pub homed : ℕ → Home → ℕ → ℕ → Event
homed kind h a b =
    record {
      kind = kind;
      start = place a;
      end = place b;
      home = h.home;
      home_start = h.start;
      home_end = h.end;
      link = h.link;
    }

abbrev pub event : ℕ → ℕ → ℕ → Event
event kind a b = homed kind nowhere a b

-- another kind and home for an event, whose span stays
abbrev pub becomes : ℕ → Home → Event → Event
becomes kind h e = homed kind h e.start.0 e.end.0

-- the same, with another end
abbrev pub becomes_to : ℕ → Home → ℕ → Event → Event
becomes_to kind h b e = homed kind h e.start.0 b

-- an event that is n bytes shorter at its end
abbrev pub shorter : ℕ → Event → Event
shorter n e = homed e.kind (home_of e) e.start.0 (e.end.0 - n)

-- the exit for an enter: the same container and home
abbrev pub exit_of : Event → ℕ → ℕ → Event
exit_of e a b = homed (e.kind + (exit_from - enter_from)) (home_of e) a b
