use Rattle.lt_registry.proofs.EntryLaws.{Made}
use Rattle.lt_registry.proofs.registry.Registry.from_records.Given as goal

-- the entries so far are those of the records so far, of which none has a fault
abbrev pub invariant-loop-index : goal.invariant-loop-index
invariant-loop-index l = Made l.records l.index l.entries.items
