-- Why records give no entries: the fault of the first record that has one, or OutOfMemory, if memory ran out before.
use Rattle.std.specs.Prelude.{◌≡◌, ◌⊎◌, List}
use Rattle.lt_jar.specs.Records.{Field}
use Rattle.lt_registry.specs.Records.{IsFirstOfRecord, IsFirstRecordFault, IsRecordReached}
use Rattle.lt_registry.specs.declared.faults.RecordFault.{RecordFault}
use Rattle.lt_registry.specs.declared.faults.RecordFaultKind.{RecordFaultKind}
use Rattle.lt_registry.specs.declared.faults.RecordFaultKind.TheVariants as faults

-- the first fault of a record, or OutOfMemory
abbrev pub IsRefused : List Field → RecordFaultKind → Type 0
IsRefused r kind = (kind ≡ faults.OutOfMemory) ⊎ IsFirstOfRecord r kind

-- The fault of the record with the least number of those that have one. Or OutOfMemory at a record, not the header,
-- before which no record has a fault.
abbrev pub IsRecordRefusal : List (List Field) → RecordFault → Type 0
IsRecordRefusal records fault =
    ((fault.kind ≡ faults.OutOfMemory) × IsRecordReached records fault.number)
    ⊎ IsFirstRecordFault records fault.kind fault.number
