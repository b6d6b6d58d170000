use Rattle.std.proofs.Common.{◌≡◌, ◌++◌, take}
use Rattle.lt_show.specs.Rows.{part_rows}
use Rattle.lt_show.proofs.rows.rows_of.Given as goal

-- the rows of the parts so far follow that of the whole tag, if it has one
abbrev pub invariant-loop-index : goal.invariant-loop-index
invariant-loop-index g l =
    l.rows.items ≡ l.initial.rows.items ++ part_rows (g.L.Lookup.listed l.table) l.tag l.text.items 1 (take l.index l.part-items)
