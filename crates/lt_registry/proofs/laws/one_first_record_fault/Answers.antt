use Rattle.lt_registry.proofs.EntryLaws.{one_record_fault}
use Rattle.lt_registry.proofs.laws.one_first_record_fault.Goals as goal

-- two first faults are the same: the number of each is at most that of the other, and then so is its rank
pub returns : goal.returns
returns c = one_record_fault
