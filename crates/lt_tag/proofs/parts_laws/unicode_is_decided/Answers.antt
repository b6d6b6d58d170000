use Rattle.lt_tag.proofs.PartsLaws.{u_decided}
use Rattle.lt_tag.proofs.parts_laws.unicode_is_decided.Goals as goal

-- `unicode_of` gives parts exactly if they have their forms and spell the subtags: those that it finds do so, and all
-- parts with their forms are found in what they spell
pub returns : goal.returns
returns c = u_decided
