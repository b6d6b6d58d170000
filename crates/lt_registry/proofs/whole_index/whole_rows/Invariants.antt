use Rattle.lt_registry.specs.Sorted.{AreRows, whole_row}
use Rattle.lt_registry.specs.declared.rows.Row.{Row}
use Rattle.lt_registry.proofs.whole_index.whole_rows.Given as goal

-- the rows are those of the entries before `place` that are of whole tags
abbrev pub invariant-loop-place : goal.invariant-loop-place
invariant-loop-place l = AreRows whole_row (λ (row : Row). row.place) l.entries l.place l.rows.items
