use Rattle.lt_jar.proofs.GroupLemmas.{one_list}
use Rattle.lt_jar.proofs.laws.one_list_of_records.Goals as goal

-- a text has one list of records at most, since the records can be computed from what its lines are
pub returns : goal.returns
returns c = one_list
