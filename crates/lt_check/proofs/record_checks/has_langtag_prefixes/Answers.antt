use Rattle.std.proofs.Common.{sym}
use Rattle.lt_check.proofs.RecordChecks.{langtags_compared}
use Rattle.lt_check.proofs.record_checks.has_langtag_prefixes.Goals as goal

-- true exactly if the record meets C7, by any registry `R`: of a variant it asks just that each Prefix is a langtag and
-- a core alone
pub returns-in-Variant : goal.returns-in-Variant
returns-in-Variant c R =
    langtags_compared R c.args.entry.now c.are_langtags.result (sym c.in-Variant.ensures.value)
    (rw (← c.prefixes.ensures.value) c.are_langtags.ensures)
