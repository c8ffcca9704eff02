-- What is printed of a report.
use Rattle.std.specs.Prelude.{ℕ, List, ◌++◌, ◌≤◌, ◌<◌, length, Option, decimal, codes}
use Rattle.std.specs.Io.KnownBytes.{Appends, Consumes, IsAtEnd}
use Rattle.stored.specs.declared.Report.{Report}

abbrev pub report_text : Report → List ℕ
report_text r = decimal r.cases ++ codes " cases, " ++ decimal r.differ ++ codes " differ"

abbrev pub report_line : Report → List ℕ
report_line r = report_text r ++ codes "\n"

-- the front of the input is read, all of it or as much as there is room for, and replayed; its report is written, and nothing else
pub record Reported (replays : List ℕ → Report → Type 0) (room : ℕ) (input rest before after : Option (List ℕ)) : Type 0 where
  pub bytes : List ℕ
  pub report : Report
  pub read : Consumes input rest bytes
  pub within : length bytes ≤ room
  pub whole : length bytes < room → IsAtEnd rest
  pub replayed : replays bytes report
  pub written : Appends before after (report_line report)
