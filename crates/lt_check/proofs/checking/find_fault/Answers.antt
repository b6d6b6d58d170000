use Rattle.std.proofs.Common.{suc, subst, add-one}
use Rattle.lt_check.specs.Checking.{IsVerdictBelow}
use Rattle.lt_check.proofs.Judging.{all_below, lower_at, rank_at}
use Rattle.lt_check.proofs.checking.find_fault.Goals as goal

-- `lowest_fault` may be called, as all records meet the conditions of lower rank: these are the ones of the turns
-- before
pub lowest_fault-requires-clause-lower : goal.lowest_fault-requires-clause-lower
lowest_fault-requires-clause-lower g c = lower_at _ _ c.loop-condition-test.true c.loop-condition.invariant

-- a turn without a finding has one condition more that all records meet (two, where C10 is judged with C11)
pub loop-condition-preserved : goal.loop-condition-preserved
loop-condition-preserved g c = rw (add-one c.loop-condition.condition-index)
    (subst (IsVerdictBelow (rank_at (suc c.loop-condition.condition-index)) (g.L.Lookup.listed c.args.table.now))
    c.in_default.is c.in_ok-finding.ensures)

-- None is answered, so the registry must pass: all conditions were judged, and all records meet them
pub returns : goal.returns
returns g c = all_below _ _ c.loop-condition-test.false c.loop-condition.auto.condition-index-end c.loop-condition.invariant
