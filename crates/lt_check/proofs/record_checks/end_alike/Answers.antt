use Rattle.lt_check.proofs.RecordChecks.{ends_compared}
use Rattle.lt_check.proofs.record_checks.end_alike.Goals as goal

-- both chains end, and true exactly if they end alike: each chain has one end, so that is so exactly if the two ends
-- are equal
pub returns-in-Ok-chain_end : goal.returns-in-Ok-chain_end
returns-in-Ok-chain_end g c =
    ends_compared (g.L.Lookup.listed c.args.table.now) c.args.left.now c.args.right.now c.in-Ok.end
    c.in-Ok-chain_end.other c.eq.result c.in-Ok.ensures.end c.in-Ok-chain_end.ensures.end c.eq.ensures
