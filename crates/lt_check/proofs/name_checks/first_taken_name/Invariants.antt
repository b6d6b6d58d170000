use Rattle.lt_check.specs.declared.conditions.Condition.TheVariants as conditions
use Rattle.lt_check.proofs.FirstFaults.{AllBefore}
use Rattle.lt_check.proofs.OwnNames.{MarkedBefore, Seen}
use Rattle.lt_check.proofs.name_checks.first_taken_name.Given as goal

-- no entry so far clashes with an earlier one, and the ranges that were seen are those of these entries
abbrev pub invariant-loop-entry : goal.invariant-loop-entry
invariant-loop-entry g l =
    let R = g.L.Lookup.listed l.table in
    record {
      before : AllBefore R conditions.OwnName l.entry-index;
      flags : MarkedBefore R l.entry-index l.flags;
      seen : Seen R l.entry-index l.seen;
    }
