use Rattle.lt_registry.proofs.ValidityLaws.{valid_law}
use Rattle.lt_canon.proofs.canonical_tags.needs_settling.Goals as goal

-- where the tag is not of the usual kind, it is valid: `validate` found no fault
pub returns-in_ok-validate-in-None-clause-valid : goal.returns-in_ok-validate-in-None-clause-valid
returns-in_ok-validate-in-None-clause-valid g c =
    (valid_law (g.L.Lookup.listed c.args.table.now) c.args.tag.now c.in-None.ensures.tag).1 c.in_ok-validate-in-None.ensures.ok
