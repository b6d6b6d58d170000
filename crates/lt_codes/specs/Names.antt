-- The names of the faults of a table of codes, as they are printed.
use Rattle.std.specs.Prelude.{ℕ, List, codes}
use Rattle.lt_codes.specs.declared.faults.TableFaultKind.{TableFaultKind}
use Rattle.lt_codes.specs.declared.faults.TableFaultKind.TheVariants as kinds

-- the name of a kind, as it is printed
abbrev pub name_of : TableFaultKind → List ℕ
name_of kinds.NotUtf8 = codes "NotUtf8"
name_of kinds.BadRow = codes "BadRow"
name_of kinds.BadCode = codes "BadCode"
name_of kinds.RepeatedCode = codes "RepeatedCode"
name_of kinds.TableTooLong = codes "TableTooLong"
name_of kinds.Read = codes "Read"
name_of kinds.OutOfMemory = codes "OutOfMemory"
