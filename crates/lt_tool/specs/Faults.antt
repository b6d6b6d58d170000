-- What is printed for what was refused, and the status with which a run ends that refused it or failed.
use Rattle.std.specs.Prelude.{◌≡◌, ◌≢◌, ℕ, List, [], ◌∷◌, ◌++◌, codes}
use Rattle.std.specs.Fmt.{decimal}
use Rattle.lt_jar.specs.Names as jar_names
use Rattle.lt_registry.specs.Names as record_names
use Rattle.lt_check.specs.Codes as condition_codes
use Rattle.lt_codes.specs.Names.{name_of}
use Rattle.lt_codes.specs.declared.faults.TableFault.{TableFault}
use Rattle.lt_codes.specs.declared.faults.TableFaultKind.{TableFaultKind}
use Rattle.lt_codes.specs.declared.faults.TableFaultKind.TheVariants as table_kinds
use Rattle.lt_upgrade.specs.Codes.{upgrade_code_of}
use Rattle.lt_upgrade.specs.declared.conditions.UpgradeCondition.{UpgradeCondition}
use Rattle.lt_answers.specs.declared.verdicts.Verdict.{Verdict}
use Rattle.lt_answers.specs.declared.verdicts.Verdict.TheVariants as verdicts
use Rattle.lt_lines.specs.Refusals.{IsRefusalLine}
use Rattle.lt_tool.specs.Registries.{refused_end}
use Rattle.lt_tool.specs.declared.faults.Fault.{Fault}
use Rattle.lt_tool.specs.declared.faults.Fault.TheVariants as faults
use Rattle.lt_tool.specs.declared.faults.Role.{Role}
use Rattle.lt_tool.specs.declared.faults.Role.TheVariants as roles
use Rattle.lt_tool.specs.declared.registries.RegistryRefusal.{RegistryRefusal}
use Rattle.lt_tool.specs.declared.registries.RegistryRefusal.TheVariants as refusals
use Rattle.lt_tool.specs.declared.status.Status.{Status}
use Rattle.lt_tool.specs.declared.status.Status.TheVariants as status

-- what the line of a refused registry begins with, to tell two registries apart
abbrev pub mark_of : Role → List ℕ
mark_of roles.Only = []
mark_of roles.Older = codes "old "
mark_of roles.Newer = codes "new "

-- The line for the refusal of a registry. It tells a fault of the format (RFC 5646, 3.1.1) and its line, a fault of a
-- record and the record, or a condition of the check and a record. OutOfMemory has no line.
abbrev pub IsRegistryLine : Role → RegistryRefusal → List ℕ → Type 0
IsRegistryLine role (refusals.Jar fault) line =
    line ≡ mark_of role ++ codes "jar " ++ jar_names.name_of fault.kind ++ codes " line " ++ decimal fault.line ++ 10 ∷ []
IsRegistryLine role (refusals.Record fault) line =
    line ≡ mark_of role ++ codes "record " ++ decimal fault.number ++ 32 ∷ []
    ++ record_names.record_name_of fault.kind ++ 10 ∷ []
IsRegistryLine role (refusals.Check finding) line =
    line ≡ mark_of role ++ codes "check " ++ condition_codes.code_of finding.condition ++ codes " record "
    ++ decimal finding.number ++ 10 ∷ []
IsRegistryLine role refusals.OutOfMemory line = ⊥

-- the line for the refusal of a table of codes: the fault's name and the number of the line; OutOfMemory has none
pub record IsTableLine (fault : TableFault) (line : List ℕ) : Type 0 where
  pub told : fault.kind ≢ table_kinds.OutOfMemory
  pub line_is : line ≡ codes "codes " ++ name_of fault.kind ++ codes " line " ++ decimal fault.line ++ 10 ∷ []

-- the line for a registry that is no upgrade: the code of the condition that fails, and the record's number
abbrev pub upgrade_line : UpgradeCondition → ℕ → List ℕ
upgrade_line condition number =
    codes "upgrade " ++ upgrade_code_of condition ++ codes " record " ++ decimal number ++ 10 ∷ []

-- the line of a verdict on an explanation
abbrev pub verdict_line : Verdict → List ℕ
verdict_line verdicts.Right = codes "ok" ++ 10 ∷ []
verdict_line (verdicts.NoSuchStep n) = codes "! NoSuchStep " ++ decimal n ++ 10 ∷ []
verdict_line verdicts.WrongEnd = codes "! WrongEnd" ++ 10 ∷ []
verdict_line (verdicts.BadStep n) = codes "! BadStep " ++ decimal n ++ 10 ∷ []

-- the line that is printed for a fault; it is empty for wrong usage, a file that can't be opened and a run that failed,
-- which the standard error is told instead
abbrev pub IsFaultLine : Fault → List ℕ → Type 0
IsFaultLine (faults.Text refusal) line = IsRefusalLine refusal line
IsFaultLine (faults.OtherText refusal) line = IsRefusalLine refusal line
IsFaultLine (faults.Registry role refusal) line = IsRegistryLine role refusal line
IsFaultLine (faults.Table fault) line = IsTableLine fault line
IsFaultLine (faults.Upgrade condition number) line = line ≡ upgrade_line condition number
IsFaultLine (faults.Explanation verdict) line = line ≡ verdict_line verdict
IsFaultLine fault line = line ≡ []

-- the status for a fault of a table of codes: Failed where the file couldn't be read to its end, else RegistryRefused
abbrev pub table_end : TableFaultKind → Status
table_end table_kinds.Read = status.Failed
table_end kind = status.RegistryRefused

-- the status of a run that ends with a fault
abbrev pub status_of : Fault → Status
status_of (faults.Text refusal) = status.Refused
status_of (faults.OtherText refusal) = status.Refused
status_of (faults.Registry role refusal) = refused_end refusal
status_of (faults.Table fault) = table_end fault.kind
status_of (faults.Upgrade condition number) = status.RegistryRefused
status_of (faults.Explanation verdict) = status.Refused
status_of (faults.Usage text) = status.Usage
status_of (faults.File told) = status.Failed
status_of (faults.Run fault) = status.Failed
