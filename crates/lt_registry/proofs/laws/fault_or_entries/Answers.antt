use Rattle.lt_registry.proofs.EntryLaws.{entries_or_fault}
use Rattle.lt_registry.proofs.laws.fault_or_entries.Goals as goal

-- a fault and entries together can't be: each record but the header has an entry, and a record that gives an entry has
-- no fault
pub returns : goal.returns
returns c = entries_or_fault
