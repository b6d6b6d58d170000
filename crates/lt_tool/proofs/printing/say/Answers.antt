use Rattle.lt_tool.proofs.ResultLemmas.{text_said}
use Rattle.lt_tool.proofs.printing.say.Goals as goal

-- the errors got the text, or a front of it where a write failed, which the device counts: so its result may be
-- dropped
pub returns : goal.returns
returns g c = text_said _ _ _ c.write_text.ensures
