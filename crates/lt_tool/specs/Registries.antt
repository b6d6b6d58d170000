-- The registry that a file holds, and why the program refuses it.
use Rattle.std.specs.Prelude.{◌≡◌, ◌≢◌, ℕ, List, Result, Ok, Err}
use Rattle.lt_jar.specs.declared.faults.JarFaultKind.{JarFaultKind}
use Rattle.lt_jar.specs.declared.faults.JarFaultKind.TheVariants as jar_kinds
use Rattle.lt_registry.specs.Parts.{EntryParts}
use Rattle.lt_registry.specs.ReadRegistry.{Reading, ReadsRegistry}
use Rattle.lt_registry.specs.declared.faults.RecordFaultKind.TheVariants as record_kinds
use Rattle.lt_registry.specs.declared.faults.RegistryFault.TheVariants as registry_faults
use Rattle.lt_check.specs.declared.conditions.Condition.{Condition}
use Rattle.lt_check.specs.Conditions.{IsChecked, IsFinding}
use Rattle.lt_tool.specs.Results.{Then}
use Rattle.lt_tool.specs.Streams.{Stream}
use Rattle.lt_tool.specs.declared.faults.Fault.{Fault}
use Rattle.lt_tool.specs.declared.faults.Fault.TheVariants as faults
use Rattle.lt_tool.specs.declared.faults.Role.{Role}
use Rattle.lt_tool.specs.declared.faults.Role.TheVariants as roles
use Rattle.lt_tool.specs.declared.registries.RegistryRefusal.{RegistryRefusal}
use Rattle.lt_tool.specs.declared.registries.RegistryRefusal.TheVariants as refusals
use Rattle.lt_tool.specs.declared.status.Status.{Status}
use Rattle.lt_tool.specs.declared.status.Status.TheVariants as status

-- the file was read as these entries, and they pass the check
pub record HoldsRegistry (reading : Reading) (entries : List EntryParts) : Type 0 where
  pub gave : reading ≡ Ok entries
  pub checked : IsChecked entries

-- the entries of the file fail the check: the first condition in order that fails, and the record with the least number
-- that fails it
pub record FailsCheck (reading : Reading) (condition : Condition) (number : ℕ) : Type 0 where
  pub entries : List EntryParts
  pub gave : reading ≡ Ok entries
  pub finding : IsFinding entries condition number

-- why the file holds no registry that passes the check; OutOfMemory may be answered for any file
abbrev pub IsRegistryRefusal : Reading → RegistryRefusal → Type 0
IsRegistryRefusal reading (refusals.Jar fault) =
    (reading ≡ Err (registry_faults.Jar fault)) × (fault.kind ≢ jar_kinds.OutOfMemory)
IsRegistryRefusal reading (refusals.Record fault) =
    (reading ≡ Err (registry_faults.Record fault)) × (fault.kind ≢ record_kinds.OutOfMemory)
IsRegistryRefusal reading (refusals.Check finding) = FailsCheck reading finding.condition finding.number
IsRegistryRefusal reading refusals.OutOfMemory = Unit {0}

-- the file holds a registry that passes the check, or is refused
abbrev pub IsJudged : Reading → Result (List EntryParts) RegistryRefusal → Type 0
IsJudged reading (Ok entries) = HoldsRegistry reading entries
IsJudged reading (Err refusal) = IsRegistryRefusal reading refusal

-- the registry with this role is refused, and this is the fault for that
abbrev pub IsRefusedAs : Role → Reading → Fault → Type 0
IsRefusedAs role reading fault =
    (refusal : RegistryRefusal) × IsRegistryRefusal reading refusal × (fault ≡ faults.Registry role refusal)

-- what a command gets from the file of the registry with this role: its entries, which pass the check, or why it is
-- refused
abbrev pub IsHad : Role → Reading → Result (List EntryParts) Fault → Type 0
IsHad role reading (Ok entries) = HoldsRegistry reading entries
IsHad role reading (Err fault) = IsRefusedAs role reading fault

-- A file was read, and `Holds` is true of the reading, which is entries or a fault. `ReadsRegistry` relates the reading
-- to the bytes of the file.
pub record ReadsFile {F : Type 0} (file : Stream F) (Holds : Reading → Type 0) : Type 0 where
  pub reading : Reading
  pub reads : ReadsRegistry file.bytes file.before file.after reading
  pub holds : Holds reading

-- a file was read and judged as the registry of this role
abbrev pub ReadsJudged : {F : Type 0} → Stream F → Role → Result (List EntryParts) Fault → Type 0
ReadsJudged file role had = ReadsFile file (λ reading. IsHad role reading had)

-- the status for a fault in the file's format: Failed where the file couldn't be read to its end, else RegistryRefused
abbrev pub jar_end : JarFaultKind → Status
jar_end jar_kinds.Read = status.Failed
jar_end jar_kinds.TooManyTurns = status.Failed
jar_end kind = status.RegistryRefused

-- the status of a run that refuses a registry
abbrev pub refused_end : RegistryRefusal → Status
refused_end (refusals.Jar fault) = jar_end fault.kind
refused_end refusal = status.RegistryRefused

-- what a command gives by the only registry that it names: the registry is refused, or `Goes` is true of its entries
-- and of what the command gives
pub record ByRegistry {F A : Type 0} (file : Stream F) (Goes : List EntryParts → Result A Fault → Type 0)
    (result : Result A Fault) : Type 0 where
  pub had : Result (List EntryParts) Fault
  pub reads : ReadsJudged file roles.Only had
  pub goes_on : Then Goes had result
