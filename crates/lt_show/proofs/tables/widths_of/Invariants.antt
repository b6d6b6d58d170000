use Rattle.std.proofs.Common.{◌≡◌, take}
use Rattle.lt_show.specs.Listings.{subject_name}
use Rattle.lt_show.specs.Rows.{text_in}
use Rattle.lt_show.specs.Tables.{widest}
use Rattle.lt_show.specs.declared.rows.Row.{Row}
use Rattle.lt_show.proofs.tables.widths_of.Given as goal

-- the widths are those of the longest name and the longest text of the rows so far
abbrev pub invariant-loop-row : goal.invariant-loop-row
invariant-loop-row l = record {
  subject : l.subject ≡ widest (λ (row : Row). subject_name row.subject) (take l.row-index l.rows);
  longest : l.longest ≡ widest (text_in l.text) (take l.row-index l.rows);
}
