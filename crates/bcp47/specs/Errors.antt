-- How a registry, and the error for which bytes are none, are printed.
use Rattle.std.specs.Prelude.{ℕ, List, [], ◌∷◌, ◌++◌, length, codes}
use Rattle.std.specs.Fmt.{decimal}
use Rattle.lt_jar.specs.Names as jar_names
use Rattle.lt_registry.specs.Names as record_names
use Rattle.lt_registry.specs.Parts.{EntryParts}
use Rattle.lt_check.specs.Codes as condition_codes
use Rattle.bcp47.specs.declared.errors.RegistryError.{RegistryError}
use Rattle.bcp47.specs.declared.errors.RegistryError.TheVariants as errors

-- what a registry is printed as: the number of its entries
abbrev pub registry_shown : List EntryParts → List ℕ
registry_shown R = codes "Registry { entries: " ++ decimal (length R) ++ codes " }"

-- the name of an error: that of the fault's kind, or the code of the condition that fails
abbrev pub error_name_of : RegistryError → List ℕ
error_name_of (errors.Jar fault) = jar_names.name_of fault.kind
error_name_of (errors.Record fault) = record_names.record_name_of fault.kind
error_name_of (errors.Check finding) = condition_codes.code_of finding.condition
error_name_of errors.OutOfMemory = codes "OutOfMemory"

-- what an error is printed as: its name, with the line of the file (`jar`) or the record at which it was found
abbrev pub error_text : RegistryError → List ℕ
error_text (errors.Jar fault) = codes "jar " ++ jar_names.name_of fault.kind ++ codes " line " ++ decimal fault.line
error_text (errors.Record fault) =
    codes "record " ++ decimal fault.number ++ 32 ∷ [] ++ record_names.record_name_of fault.kind
error_text (errors.Check finding) =
    codes "check " ++ condition_codes.code_of finding.condition ++ codes " record " ++ decimal finding.number
error_text errors.OutOfMemory = codes "OutOfMemory"
