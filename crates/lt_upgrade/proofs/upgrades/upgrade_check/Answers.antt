use Rattle.lt_upgrade.proofs.UpgradeChecks.{one_more}
use Rattle.lt_upgrade.proofs.upgrades.upgrade_check.Goals as goal

-- after a turn without a fault all records meet one condition more, and so all judged so far
pub loop-condition-preserved : goal.loop-condition-preserved
loop-condition-preserved g c =
    one_more (g.A.Lookup.listed c.args.older.now) (g.B.Lookup.listed c.args.newer.now) c.loop-condition.condition-index
    c.loop-condition.invariant (rw c.in_default.is at c.in_ok-number.ensures)
