use Rattle.lt_upgrade.proofs.UpgradeChecks.{ends_compared}
use Rattle.lt_upgrade.proofs.upgrade_checks.have_same_end.Goals as goal

-- both chains end, and true exactly if they end alike: each has one end, so they do exactly if the two are equal
pub returns-in-Ok-chain_end : goal.returns-in-Ok-chain_end
returns-in-Ok-chain_end g c =
    ends_compared (g.L.Lookup.listed c.args.table.now) c.args.kind c.requires.kind c.args.left.now c.args.right.now
    c.in-Ok.end c.in-Ok-chain_end.other c.eq.result (c.in-Ok.ensures {u = tt}).end
    (c.in-Ok-chain_end.ensures {u = tt}).end c.eq.ensures
