use Rattle.std.proofs.Common.{◌≡◌, ◌++◌, take}
use Rattle.std.specs.List.{flat_map}
use Rattle.lt_show.specs.Tables.{row_text}
use Rattle.lt_show.proofs.tables.append_rows.Given as goal

-- the rows so far were appended, each with its fields
abbrev pub invariant-loop-row : goal.invariant-loop-row
invariant-loop-row l = l.told.items ≡ l.fn.told.items ++ flat_map (row_text l.widths l.text l.records) (take l.row-index l.rows)
