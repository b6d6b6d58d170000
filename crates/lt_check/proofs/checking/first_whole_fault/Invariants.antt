use Rattle.lt_check.specs.declared.conditions.Condition.TheVariants as conditions
use Rattle.lt_check.proofs.FirstFaults.{AllBefore, IsSoFar}
use Rattle.lt_check.proofs.checking.first_whole_fault.Given as goal

-- each entry so far meets the tenth condition, and what is found is the first that fails the eleventh
abbrev pub invariant-loop-entry : goal.invariant-loop-entry
invariant-loop-entry g l =
    let R = g.L.Lookup.listed l.table in
    record {
      rests : AllBefore R conditions.RestingWhole l.entry-index;
      agrees : IsSoFar R conditions.AgreeingWhole l.entry-index l.found;
    }
