use Rattle.lt_range.proofs.SpellingLemmas.{RowsOn}
use Rattle.lt_range.proofs.matching_table.rows_of.Given as goal

-- the rows so far, with any after them that are those of the records left, are those of all records
abbrev pub invariant-loop-entry : goal.invariant-loop-entry
invariant-loop-entry g l = RowsOn (g.L.Lookup.listed l.checked) (g.L.Lookup.listed l.checked) l.entry-index l.rows.items
