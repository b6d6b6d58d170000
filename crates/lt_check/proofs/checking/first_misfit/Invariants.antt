use Rattle.lt_check.specs.declared.conditions.Condition.TheVariants as conditions
use Rattle.lt_check.proofs.FirstFaults.{AllBefore}
use Rattle.lt_check.proofs.checking.first_misfit.Given as goal

-- each entry so far meets the condition on grandfathered tags
abbrev pub invariant-loop-entry : goal.invariant-loop-entry
invariant-loop-entry g l = AllBefore (g.L.Lookup.listed l.table) conditions.FittingGrandfathered l.entry-index
