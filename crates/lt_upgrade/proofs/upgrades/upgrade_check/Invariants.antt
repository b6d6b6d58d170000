use Rattle.std.proofs.Common.{◌+◌}
use Rattle.lt_upgrade.specs.UpgradeChecking.{MeetsUpgradeBelow}
use Rattle.lt_upgrade.proofs.upgrades.upgrade_check.Given as goal

-- all records meet the conditions judged so far
abbrev pub invariant-loop-condition : goal.invariant-loop-condition
invariant-loop-condition g l = MeetsUpgradeBelow (l.condition-index + 1) (g.A.Lookup.listed l.older) (g.B.Lookup.listed l.newer)
