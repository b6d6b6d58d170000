use Rattle.lt_tag.proofs.FaultLemmas.{tag_or_fault}
use Rattle.lt_tag.proofs.reading_laws.tag_or_fault.Goals as goal

-- each text has a tag or a fault: if it is short, and its pieces are subtags, of which none is misplaced and none
-- missing, it is read as a tag
pub returns : goal.returns
returns c = tag_or_fault
