use Rattle.std.proofs.Common.{◌≡◌, take}
use Rattle.lt_registry.specs.Sorted.{AreRows, range_rows, single_row}
use Rattle.lt_registry.specs.declared.rows.Row.{Row}
use Rattle.lt_registry.proofs.kind_rows.KindRows.of_entries.Given as goal

-- the rows are those of the entries before `place`: the single ones in any order, the ranges in the order of the file
abbrev pub invariant-loop-place : goal.invariant-loop-place
invariant-loop-place l = record {
  singles : AreRows (single_row l.kind) (λ (row : Row). row.place) l.entries l.place l.rows.singles.items;
  ranges : l.rows.ranges.items ≡ range_rows l.kind 0 (take l.place l.entries);
}
