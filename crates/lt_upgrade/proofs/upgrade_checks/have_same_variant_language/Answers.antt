use Rattle.lt_upgrade.proofs.UpgradeChecks.{variant_language_compared}
use Rattle.lt_upgrade.proofs.upgrade_checks.have_same_variant_language.Goals as goal

-- true exactly if U4 is met: the value is a language and the Prefixes are the same, so it asks just that the chains end
-- alike
pub returns-then-same_languages : goal.returns-then-same_languages
returns-then-same_languages g c =
    variant_language_compared (g.L.Lookup.listed c.args.newer.now) c.args.entry.now c.in-Some.other.now
    c.args.subtag.now c.args.value.now c.in-Some-one_value.language.now c.have_same_end.result
    c.in-Some.ensures c.in-Some-one_value.ensures.value (cc (c.is_short.ensures, c.if-is_short.true))
    (c.same_languages.ensures.0 c.if-same_languages.true) c.have_same_end.ensures
