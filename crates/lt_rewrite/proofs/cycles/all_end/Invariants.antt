use Rattle.std.proofs.Common.{All, take}
use Rattle.lt_rewrite.specs.Cycles.{EndsAfterEarlier}
use Rattle.lt_rewrite.specs.declared.cycles.Order.TheVariants as orders
use Rattle.lt_rewrite.proofs.cycles.all_end.Given as goal

-- the chain of each record so far ends, if those of the records before it in the order do
abbrev pub invariant-loop-entry : goal.invariant-loop-entry
invariant-loop-entry g l = All (EndsAfterEarlier (g.L.Lookup.listed l.table) orders.Mixed) (take l.entry-index l.entry-items)
