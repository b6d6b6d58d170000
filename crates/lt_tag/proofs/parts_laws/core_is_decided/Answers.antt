use Rattle.lt_tag.proofs.PartsLaws.{core_decided}
use Rattle.lt_tag.proofs.parts_laws.core_is_decided.Goals as goal

-- `core_of_list` gives a core exactly if that is shaped and spells the subtags: what it finds does so, and each shaped
-- core is found in the subtags that it spells
pub returns : goal.returns
returns c = core_decided
