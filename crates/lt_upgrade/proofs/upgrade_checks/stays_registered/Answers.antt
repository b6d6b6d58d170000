use Rattle.lt_upgrade.proofs.RangeCoverage.{covered_compared}
use Rattle.lt_upgrade.proofs.upgrade_checks.stays_registered.Goals as goal

-- true exactly if the record, of a range, meets U1: one of the newer ranges holds its range exactly if a newer record
-- names one that does
pub returns-in-Range : goal.returns-in-Range
returns-in-Range g c =
    covered_compared (g.L.Lookup.listed c.args.newer.now) c.args.entry.now c.kind-in-Range.result c.in-Range.first
    c.in-Range.last c.cover.result (cc (c.name.ensures.value, c.in-Range.is)) c.kind-in-Range.ensures.value
    (c.cover.ensures _ c.requires)
