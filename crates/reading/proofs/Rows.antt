-- Sheets by computation: those that document 01 works through and marks P, by one statement over one table; its other ones; and a sample of
-- the Rust's answers.
use Rattle.reading.specs.Closers.{number}
use mathlib.Core.Path.{◌≡◌, refl}
use mathlib.Core.List.{map}
use Rattle.classes.specs.Classes.{bytes, among, special, blank, alphanumeric, punctuation}
use Rattle.classes.specs.Sets.{in_set, run}
use Rattle.lex.specs.Lexer.{lookup, starts, start_of, braces, hyphens_of, begun_by, escaped_of, lexed, texts, found_by, taken_of, next_by, peek_by}
use Rattle.scan.specs.Scans.{closed_at, upto_of, marked, autolink_of, symbol_of, footnote_of, raw_format_of}
use Rattle.scan.specs.Scans as scans
use Rattle.dash.specs.Dashes.{comes_out, first_from, fewest, dashes_of}
use Rattle.reading.specs.Machine.{prev, amend, amend_last, dollars_of, last_of}
use Rattle.reading.specs.Tokens.{closed_by, both_ways, unclosed, closing_of, link_sort, role_of, is_run, opens_closed_by, opens_a}
use Rattle.reading.specs.Atoms.{row, dashes}
use Rattle.reading.specs.Verbatim.{taken, opened_as, kept, format_ahead, closed_with, all_blank, another_run, blank_content, in_verbatim}
use Rattle.reading.specs.Verbatim.{moved_on, flag_of, ended_at}
use Rattle.reading.specs.Labels.{word, words, stretches, pieces, label_of, label_home}
use Rattle.reading.specs.Containers.{seek, seek_mark, may_close, takes, span_with, closes_span, close_as, blank_after, may_open, opens_or, tried}
use Rattle.attr.specs.Attributes as attributes
use Rattle.reading.specs.Blocks.{bytes_from, block_at}
use Rattle.reading.specs.Reading.{angle, colon, noted, bracketed, braced, outside, by_place, on_token, unless, steps, lines, end_of}
use Rattle.reading.specs.Dropped.{longer_or_shorter, trailing, drops_at, content_with, drops_in, content_in, drops_on, content_on, steps_drop}
use Rattle.reading.specs.Dropped.{steps_content, lines_drop}
use Rattle.reading.specs.Draining.{flushed, drained}
use Rattle.reading.specs.Located.{located, line_of}
use Rattle.reading.specs.Questions.{total, first_outside, first_early, numbers, handed_out, judged, outcome_with}
use Rattle.reading.specs.Sheets.{found, expected, blanks}
use Rattle.reading.specs.Worked.{worked, worked_blanks, others, behind_runs, searches}
use Rattle.reading.specs.Worked as worked-out
use Rattle.reading.proofs.Sampled.{sampled}
use Rattle.reading.specs.Looks.{unless_taken, noted_at, seeks_by, seeks_of, looked_mark, looked}

-- all of them at once, since they are computed by the same definitions
computed : (map found worked ≡ map expected worked)
    × (map blanks worked ≡ worked_blanks)
    × (map found others ≡ map expected others)
    × (map found sampled ≡ map expected sampled)
    × (map found worked-out.braces ≡ map expected worked-out.braces)
    × (map found behind_runs ≡ map expected behind_runs)
    × (map found searches ≡ map expected searches)
unfolding worked worked_blanks others worked-out.braces behind_runs searches sampled bytes another_run among special blank alphanumeric punctuation in_set run lookup starts start_of braces hyphens_of begun_by escaped_of lexed texts found_by taken_of next_by peek_by closed_at upto_of scans.mark marked autolink_of symbol_of footnote_of raw_format_of comes_out first_from fewest dashes_of prev amend amend_last dollars_of last_of closed_by both_ways number unclosed closing_of link_sort role_of is_run opens_closed_by opens_a row dashes taken opened_as kept format_ahead closed_with all_blank blank_content in_verbatim moved_on flag_of ended_at word words stretches pieces label_of label_home seek seek_mark may_close takes span_with closes_span close_as blank_after may_open opens_or tried angle colon noted bracketed outside unless_taken noted_at seeks_by seeks_of looked_mark looked by_place on_token unless steps lines end_of longer_or_shorter trailing drops_at content_with drops_in content_in drops_on content_on steps_drop steps_content lines_drop flushed drained first_outside first_early handed_out judged outcome_with total numbers located line_of bytes_from block_at braced attributes.name attributes.by attributes.step attributes.fed attributes.is_done
computed = (refl, refl, refl, refl, refl, refl, refl)

-- the sheets marked P, by one statement over their table: answer, all four rooms, and the blanks that are dropped
pub all-rows : (map found worked ≡ map expected worked) × (map blanks worked ≡ worked_blanks)
all-rows = (computed.0, computed.1)

-- its other sheets
pub other-rows : map found others ≡ map expected others
other-rows = computed.2

-- and answers of the Rust
pub sampled-rows : map found sampled ≡ map expected sampled
sampled-rows = computed.3

-- those with braces
pub brace-rows : map found worked-out.braces ≡ map expected worked-out.braces
brace-rows = computed.4

-- and those behind closing runs
pub behind-rows : map found behind_runs ≡ map expected behind_runs
behind-rows = computed.5

-- and how long searches get
pub search-rows : map found searches ≡ map expected searches
search-rows = computed.6
