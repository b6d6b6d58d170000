use Rattle.std.proofs.Common.{◌≡◌, ◌++◌, drop}
use Rattle.lt_upgrade.specs.WidestRanges.{range_rows}
use Rattle.lt_upgrade.proofs.widest_ranges.range_rows.Given as goal

-- the ranges of the entries so far, and those of the entries that are left, are those of all
abbrev pub invariant-loop-entry : goal.invariant-loop-entry
invariant-loop-entry l = l.rows.items ++ range_rows (drop l.entry-index l.entries) ≡ range_rows l.entries
