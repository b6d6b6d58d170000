use Rattle.lt_upgrade.proofs.UpgradeChecks.{ends_kept}
use Rattle.lt_upgrade.proofs.upgrade_checks.keeps_ends.Goals as goal

-- true exactly if the record meets U2: it has this one subtag and a value of the same kind, so U2 asks just that their
-- chains end alike
pub returns-in-Single-Some : goal.returns-in-Single-Some
returns-in-Single-Some g c =
    ends_kept (g.L.Lookup.listed c.args.newer.now) c.args.entry.now c.in-Single-Some.subtag c.in-Single-Some.value.now
    c.have_same_end.result (cc (c.name.ensures.value, c.in-Single-Some.is-0)) c.in-Single-Some.ensures.value
    (rw c.kind.ensures.value at (c.keeps_kind.ensures.0 c.if-keeps_kind.true))
    (rw c.kind-in-Single-Some.ensures.value at c.have_same_end.ensures)
