use Rattle.lt_tag.proofs.PartsLaws.{t_decided}
use Rattle.lt_tag.proofs.parts_laws.transform_is_decided.Goals as goal

-- `transform_of` gives parts exactly if they have their forms and spell the subtags: those that it finds do so, and all
-- parts with their forms are found in what they spell
pub returns : goal.returns
returns c = t_decided
