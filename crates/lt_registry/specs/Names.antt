-- The names of the faults of tags, records and registries, as they are printed.
use Rattle.std.specs.Prelude.{ℕ, List, codes}
use Rattle.lt_registry.specs.declared.faults.ValidFaultKind.{ValidFaultKind}
use Rattle.lt_registry.specs.declared.faults.ValidFaultKind.TheVariants as faults
use Rattle.lt_registry.specs.declared.faults.ValidRefusal.{ValidRefusal}
use Rattle.lt_registry.specs.declared.faults.ValidRefusal.TheVariants as valid_refusals
use Rattle.lt_registry.specs.declared.faults.RecordFaultKind.{RecordFaultKind}
use Rattle.lt_registry.specs.declared.faults.RecordFaultKind.TheVariants as records
use Rattle.lt_registry.specs.declared.faults.RegistryFault.{RegistryFault}
use Rattle.lt_registry.specs.declared.faults.RegistryFault.TheVariants as refusals
use Rattle.lt_jar.specs.Names as jars

-- the name of a fault of a tag that is not valid
abbrev pub name_of : ValidFaultKind → List ℕ
name_of faults.UnknownLanguage = codes "UnknownLanguage"
name_of faults.UnknownExtlang = codes "UnknownExtlang"
name_of faults.ExtlangPrefix = codes "ExtlangPrefix"
name_of faults.TooManyExtlangs = codes "TooManyExtlangs"
name_of faults.UnknownScript = codes "UnknownScript"
name_of faults.UnknownRegion = codes "UnknownRegion"
name_of faults.UnknownVariant = codes "UnknownVariant"
name_of faults.DuplicateVariant = codes "DuplicateVariant"
name_of faults.DuplicateSingleton = codes "DuplicateSingleton"
name_of faults.BadTransform = codes "BadTransform"

-- the name of why a tag is refused: its fault, or OutOfMemory
abbrev pub refusal_name_of : ValidRefusal → List ℕ
refusal_name_of (valid_refusals.Fault fault) = name_of fault.kind
refusal_name_of valid_refusals.OutOfMemory = codes "OutOfMemory"

-- the name of a fault of a record
abbrev pub record_name_of : RecordFaultKind → List ℕ
record_name_of records.RepeatedField = codes "RepeatedField"
record_name_of records.MissingType = codes "MissingType"
record_name_of records.UnknownType = codes "UnknownType"
record_name_of records.MissingName = codes "MissingName"
record_name_of records.BadRange = codes "BadRange"
record_name_of records.BadSubtag = codes "BadSubtag"
record_name_of records.BadTag = codes "BadTag"
record_name_of records.BadPreferred = codes "BadPreferred"
record_name_of records.BadPrefix = codes "BadPrefix"
record_name_of records.OutOfMemory = codes "OutOfMemory"

-- the name of a fault of a registry: that of its file or of a record
abbrev pub registry_name_of : RegistryFault → List ℕ
registry_name_of (refusals.Jar fault) = jars.name_of fault.kind
registry_name_of (refusals.Record fault) = record_name_of fault.kind
