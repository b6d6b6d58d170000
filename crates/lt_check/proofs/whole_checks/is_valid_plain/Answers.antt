use Rattle.lt_check.proofs.WholeRecords.{plain_verdict}
use Rattle.lt_check.proofs.whole_checks.is_valid_plain.Goals as goal

-- true exactly if the tag is valid: of a core alone `validate` needs no memory, so it refuses exactly what is not valid
pub returns-in-Some : goal.returns-in-Some
returns-in-Some g c =
    rw c.is_ok.ensures.value (plain_verdict (g.L.Lookup.listed c.args.table.now) _ _ c.in-Some.ensures.value
    c.in-Some.ensures.tag _ c.validate.ensures.ok c.validate.ensures.err)
