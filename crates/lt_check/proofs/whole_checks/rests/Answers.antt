use Rattle.std.proofs.Common.{subst}
use Rattle.lt_registry.specs.Validity.{Distinct}
use Rattle.lt_check.proofs.WholeRecords.{rest_verdict}
use Rattle.lt_check.proofs.whole_checks.rests.Goals as goal

-- true exactly if the core rests (C10): no variant occurs twice, so it does exactly if no value is found for it as a tag
pub returns-then-are_distinct : goal.returns-then-are_distinct
returns-then-are_distinct g c =
    let distinct = subst Distinct c.variants.ensures.value (c.are_distinct.ensures.0 c.if-are_distinct.true) in
    rest_verdict _ c.requires.lower c.know_entries.ensures _ distinct _ c.value_of.ensures _ c.is_none.ensures
