use Rattle.lt_jar.proofs.ReadLemmas.{nothing_wrong_at}
use Rattle.lt_jar.proofs.laws.records_without_fault.Goals as goal

-- nothing is wrong with a text that has records and keeps the limits: its lines, those of groups of fields, fit into
-- their places, and the limits exclude the other faults
pub returns : goal.returns
returns c = nothing_wrong_at
