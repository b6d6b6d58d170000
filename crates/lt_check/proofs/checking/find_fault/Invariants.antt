use Rattle.lt_check.specs.WholeChecks.{MeetsBelow}
use Rattle.lt_check.proofs.Judging.{rank_at}
use Rattle.lt_check.proofs.checking.find_fault.Given as goal

-- all records meet the conditions judged so far
abbrev pub invariant-loop-condition : goal.invariant-loop-condition
invariant-loop-condition g l = MeetsBelow (rank_at l.condition-index) (g.L.Lookup.listed l.table)
