use Rattle.lt_jar.proofs.ReadLemmas.{same_fault}
use Rattle.lt_jar.proofs.laws.one_fault.Goals as goal

-- a text has one fault at most: it is in the lowest line with any, and of the faults of a line one alone has the least
-- rank
pub returns : goal.returns
returns c = same_fault
