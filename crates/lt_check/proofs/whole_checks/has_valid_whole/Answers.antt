use Rattle.lt_check.proofs.WholeRecords.{invalid_whole}
use Rattle.lt_check.proofs.whole_checks.has_valid_whole.Goals as goal

-- false is right: the value is not a valid langtag that is a core alone, so the record does not meet C9
pub returns-else-is_valid_plain : goal.returns-else-is_valid_plain
returns-else-is_valid_plain g c =
    invalid_whole (g.L.Lookup.listed c.args.table.now) c.args.entry.now c.in-Some.tag.now c.in-Some.value.now
    c.in-Some.ensures.0 c.in-Some.ensures.1 c.is_valid_plain.result c.is_valid_plain.ensures
    c.if-is_valid_plain.false
