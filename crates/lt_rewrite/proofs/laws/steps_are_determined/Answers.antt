use Rattle.lt_rewrite.proofs.TagLeading.{steps_determined}
use Rattle.lt_rewrite.proofs.laws.steps_are_determined.Goals as goal

-- a step's record and result are determined: the kind and the place give the part on which the step is taken, and the
-- part gives the record and the result
pub returns : goal.returns
returns c = steps_determined
