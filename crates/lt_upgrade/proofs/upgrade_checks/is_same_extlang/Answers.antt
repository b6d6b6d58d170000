use Rattle.lt_upgrade.proofs.UpgradeChecks.{extlang_compared}
use Rattle.lt_upgrade.proofs.upgrade_checks.is_same_extlang.Goals as goal

-- true exactly if the extlang is the same: the Prefixes are, so U3 asks just that the chains of the replacements end
-- alike
pub returns-then-same_prefixes : goal.returns-then-same_prefixes
returns-then-same_prefixes g c =
    extlang_compared (g.L.Lookup.listed c.args.newer.now) c.args.entry.now c.in-Some.other.now c.args.subtag.now
    c.replacement-old.result.now c.replacement-new.result.now c.have_same_end.result c.in-Some.ensures
    (cc (c.prefixes.ensures.value, c.same_prefixes.ensures.0 c.if-same_prefixes.true, c.prefixes-2.ensures.value))
    c.replacement-old.ensures c.replacement-new.ensures c.have_same_end.ensures
