use Rattle.lt_upgrade.proofs.UpgradeChecks.{EachBefore}
use Rattle.lt_upgrade.proofs.upgrades.lowest_fault.Given as goal

-- each record so far meets the condition
abbrev pub invariant-loop-entry : goal.invariant-loop-entry
invariant-loop-entry g l = EachBefore (g.A.Lookup.listed l.older) (g.B.Lookup.listed l.newer) l.condition l.entry-index
