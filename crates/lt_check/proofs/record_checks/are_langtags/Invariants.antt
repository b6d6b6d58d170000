use Rattle.lt_check.proofs.RecordChecks.{PlainBefore}
use Rattle.lt_check.proofs.record_checks.are_langtags.Given as goal

-- each Prefix so far is a langtag without extensions and private use
abbrev pub invariant-loop-prefix : goal.invariant-loop-prefix
invariant-loop-prefix l = PlainBefore l.prefixes l.prefix-index
