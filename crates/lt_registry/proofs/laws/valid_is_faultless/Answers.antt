use Rattle.lt_registry.proofs.ValidityLaws.{valid_law}
use Rattle.lt_registry.proofs.laws.valid_is_faultless.Goals as goal

-- valid is the same as without a fault: without a fault but repeated variants a tag is proper, and without that fault
-- its variants are distinct
pub returns : goal.returns
returns c = valid_law
