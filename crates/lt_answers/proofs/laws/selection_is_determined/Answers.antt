use Rattle.lt_answers.proofs.SelectionLemmas.{selection_determined}
use Rattle.lt_answers.proofs.laws.selection_is_determined.Goals as goal

-- the law: each line is selected or not, so two lists that the same ranges select of the same lines are equal
pub returns : goal.returns
returns c = selection_determined
