use Rattle.lt_tag.proofs.FaultLemmas.{fault_excludes_tag}
use Rattle.lt_tag.proofs.reading_laws.fault_excludes_tag.Goals as goal

-- a text with a fault has no tag: what causes a fault, such as a piece that is no subtag, isn't true of a text with a
-- tag
pub returns : goal.returns
returns c = fault_excludes_tag
