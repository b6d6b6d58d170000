-- The names of the faults of the header Accept-Language, as they are printed.
use Rattle.std.specs.Prelude.{ℕ, List, codes}
use Rattle.lt_range.specs.Names as ranges
use Rattle.lt_range.specs.declared.faults.RangeFault.{RangeFault}
use Rattle.lt_range.specs.declared.faults.RangeFault.TheVariants as range_faults
use Rattle.lt_range.specs.declared.accept_faults.AcceptFault.{AcceptFault}
use Rattle.lt_range.specs.declared.accept_faults.AcceptFaultKind.{AcceptFaultKind}
use Rattle.lt_range.specs.declared.accept_faults.AcceptFaultKind.TheVariants as kinds

-- the name of a fault; for a fault of a range it is that fault's name
abbrev pub name_of : AcceptFaultKind → List ℕ
name_of (kinds.BadRange fault) = ranges.name_of fault
name_of kinds.ExtendedRange = codes "ExtendedRange"
name_of kinds.BadWeight = codes "BadWeight"
name_of kinds.OutOfMemory = codes "OutOfMemory"

-- the fault of an element whose range has this fault
abbrev pub of_range_fault : RangeFault → AcceptFaultKind
of_range_fault range_faults.OutOfMemory = kinds.OutOfMemory
of_range_fault fault = kinds.BadRange fault

-- the fault of running out of memory
abbrev pub no_memory : AcceptFault
no_memory = record { kind = kinds.OutOfMemory; place = 0 }
