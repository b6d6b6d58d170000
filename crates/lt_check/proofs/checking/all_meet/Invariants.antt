use Rattle.std.proofs.Common.{◌≡◌, true}
use Rattle.lt_check.specs.Checking.{is_by_record}
use Rattle.lt_check.specs.declared.conditions.Condition.{Condition}
use Rattle.lt_check.proofs.FirstFaults.{AllBefore}
use Rattle.lt_check.proofs.checking.all_meet.Given as goal

-- each entry so far meets each condition that is decided by a look at one record after another
abbrev pub invariant-loop-entry : goal.invariant-loop-entry
invariant-loop-entry g l = (condition : Condition) → is_by_record condition ≡ true
    → AllBefore (g.L.Lookup.listed l.table) condition l.entry-index
