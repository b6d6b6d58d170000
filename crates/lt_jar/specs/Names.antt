-- The names of the faults of the record-jar format and of its reader, as they are printed.
use Rattle.std.specs.Prelude.{ℕ, List, codes}
use Rattle.lt_jar.specs.declared.faults.JarFaultKind.{JarFaultKind}
use Rattle.lt_jar.specs.declared.faults.JarFaultKind.TheVariants as kinds

-- the name of a kind of fault, as it is printed
abbrev pub name_of : JarFaultKind → List ℕ
name_of kinds.LineTooLong = codes "LineTooLong"
name_of kinds.NotUtf8 = codes "NotUtf8"
name_of kinds.LeadingContinuation = codes "LeadingContinuation"
name_of kinds.BadLine = codes "BadLine"
name_of kinds.TooManyRecords = codes "TooManyRecords"
name_of kinds.OutOfMemory = codes "OutOfMemory"
name_of kinds.Read = codes "Read"
name_of kinds.TooManyTurns = codes "TooManyTurns"
name_of kinds.Failed = codes "Failed"
