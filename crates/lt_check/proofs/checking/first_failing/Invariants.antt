use Rattle.lt_check.proofs.FirstFaults.{AllBefore}
use Rattle.lt_check.proofs.checking.first_failing.Given as goal

-- each entry so far meets the condition
abbrev pub invariant-loop-entry : goal.invariant-loop-entry
invariant-loop-entry g l = AllBefore (g.L.Lookup.listed l.table) l.condition l.entry-index
