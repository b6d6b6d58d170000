-- What each call of the C library answers, and what it leaves in its buffers and handles.
use Rattle.std.specs.Prelude.{ℕ, ◌≡◌, ◌≢◌, ◌⊎◌, if◌then◌else◌, Bool, List, [], Some, None, Ok, Err}
use Rattle.lt_tag.specs.Classes.{class_of}
use Rattle.lt_tag.specs.Conventional.{conventional}
use Rattle.lt_tag.specs.Faults.{HasTag}
use Rattle.lt_tag.specs.Parts.{TagForm}
use Rattle.lt_tag.specs.WellFormed.{spell}
use Rattle.lt_jar.specs.Records.{Field, HasRecords}
use Rattle.lt_jar.specs.Views.{IsFaultOf}
use Rattle.lt_jar.specs.declared.faults.JarFault.{JarFault}
use Rattle.lt_jar.specs.declared.faults.JarFaultKind.TheVariants as jar_kinds
use Rattle.lt_registry.specs.Parts.{EntryParts}
use Rattle.lt_canon.specs.Texts.{IsTextRefusal}
use Rattle.lt_upgrade.specs.Laws.{UpgradeKeepsTags}
use Rattle.lt_upgrade.specs.Upgrade.{Upgrades}
use Rattle.lt_upgrade.specs.UpgradeChecking.{IsUpgradeFault}
use Rattle.lt_upgrade.specs.declared.upgrades.UpgradeFault.{UpgradeFault}
use Rattle.lt_upgrade.specs.declared.upgrades.UpgradeFault.TheVariants as upgrade_faults
use Rattle.bcp47.specs.Errors.{error_text}
use Rattle.bcp47.specs.Promise.{ReadsBytes}
use Rattle.bcp47.specs.declared.errors.RegistryError.{RegistryError}
use Rattle.bcp47.specs.declared.errors.RegistryError.TheVariants as errors
use Rattle.bcp47_c.specs.Handles.{Held}
use Rattle.bcp47_c.specs.Numbers.{class, condition, file_fault, record_fault, upgrade_condition}
use Rattle.bcp47_c.specs.Outcomes.{ended, outcome, IsDelivered, IsRefusedAsOwed}
use Rattle.bcp47_c.specs.Records.{Kept, alone, with_records}
use Rattle.lt_canon.specs.TextAnswers.{IsEqualityOf, IsPairRefusal, IsValidityRefusal}
use Rattle.bcp47_c.specs.Texts.{IsReadingRefusal, IsStepCount, IsValidText}
use Rattle.bcp47_c.specs.declared.outcomes.Outcome.{Outcome}
use Rattle.bcp47_c.specs.declared.outcomes.Said.{Said}

-- ---- opening, sharing and keeping

-- the status, detail and place for bytes that are no registry: BadFile (7), BadRecord (8), Rejected (9) or OutOfMemory
-- (4)
abbrev pub error_said : RegistryError → Said
error_said (errors.Jar fault) = record { status = 7; detail = file_fault fault.kind; place = fault.line }
error_said (errors.Record fault) = record { status = 8; detail = record_fault fault.kind; place = fault.number }
error_said (errors.Check finding) = record { status = 9; detail = condition finding.condition; place = finding.number }
error_said errors.OutOfMemory = ended 4

-- the handle holds the registry whose text the bytes are, with nothing kept with it, and the status is Done (0); the
-- buffer was `before` and is `after`
pub record IsOpened (held : Held) (bytes before after : List ℕ) (o : Outcome) : Type 0 where
  pub registry : List EntryParts
  pub holds : held ≡ Some (alone registry)
  pub read : ReadsBytes bytes (Ok registry)
  pub delivered : IsDelivered (ended 0) [] before after o

-- the error is answered, and the line that the program prints for it is written; the buffer was `before` and is `after`
abbrev pub IsTold : RegistryError → List ℕ → List ℕ → Outcome → Type 0
IsTold error before after o = IsDelivered (error_said error) (error_text error) before after o

-- the error is answered, with its line, or else OutOfMemory; the buffer was `before` and is `after`
abbrev pub IsRefusedRegistry : RegistryError → List ℕ → List ℕ → Outcome → Type 0
IsRefusedRegistry error before after o = IsTold error before after o ⊎ IsTold errors.OutOfMemory before after o

-- the handle holds no registry, and the error for which the bytes are none is answered; the buffer was `before` and is
-- `after`
pub record IsNotOpened (held : Held) (bytes before after : List ℕ) (o : Outcome) : Type 0 where
  pub holds : held ≡ None
  pub error : RegistryError
  pub read : ReadsBytes bytes (Err error)
  pub told : IsTold error before after o

-- the handle holds the registry whose text the bytes are, or the error for which they are none is answered; in order:
-- what is held, the bytes, the buffer before and after, the outcome
abbrev pub Opens : Held → List ℕ → List ℕ → List ℕ → Outcome → Type 0
Opens held bytes before after o = IsOpened held bytes before after o ⊎ IsNotOpened held bytes before after o

-- the other handle, too, holds the registry (status Done, 0), or memory ran out for that (4); in order: the registry,
-- what the other handle holds, the status
abbrev pub Shares : Kept → Held → ℕ → Type 0
Shares registry held status = ((status ≡ 0) × (held ≡ Some registry)) ⊎ ((status ≡ 4) × (held ≡ None))

-- the handle holds the same registry with the records of the bytes (RFC 5646, 3.1.1)
pub record IsKept (registry : Kept) (held : Held) (bytes : List ℕ) : Type 0 where
  pub records : List (List Field)
  pub read : HasRecords bytes records
  pub holds : held ≡ Some (with_records registry records)

-- the bytes are not in the record-jar format: they have a fault, which is not lack of memory
pub record HasNoRecords (bytes : List ℕ) : Type 0 where
  pub fault : JarFault
  pub owed : IsFaultOf bytes fault
  pub named : fault.kind ≢ jar_kinds.OutOfMemory

-- The handle holds the registry with the records of the bytes (status Done, 0). Or it holds what it held, since the
-- bytes are not in the format (BadFile, 7) or memory ran out (4). In order: what was held, what is held, the bytes, the
-- status.
abbrev pub Keeps : Kept → Held → List ℕ → ℕ → Type 0
Keeps registry held bytes status =
    ((status ≡ 0) × IsKept registry held bytes)
    ⊎ ((((status ≡ 7) × HasNoRecords bytes) ⊎ (status ≡ 4)) × (held ≡ Some registry))

-- ---- tags

-- the text of the tag in conventional case is written, and its class is answered as the detail (RFC 5646, 2.1); the
-- buffer was `before` and is `after`
pub record IsClassified (text before after : List ℕ) (o : Outcome) : Type 0 where
  pub tag : TagForm
  pub read : HasTag text tag
  pub delivered :
      IsDelivered (record { status = 0; detail = class (class_of tag); place = 0 }) (conventional (spell tag)) before
      after o

-- the tag is classified, or why the text is no tag is answered; in order: the text, the buffer before and after, the
-- outcome
abbrev pub Classifies : List ℕ → List ℕ → List ℕ → Outcome → Type 0
Classifies text before after o =
    IsClassified text before after o ⊎ IsRefusedAsOwed (IsReadingRefusal text) before after o

-- that the tag is valid is answered (status Done, 0), or why not; no text is written
abbrev pub Validates : List EntryParts → List ℕ → Outcome → Type 0
Validates R text o =
    (IsValidText R text × (o ≡ outcome (ended 0) 0)) ⊎ IsRefusedAsOwed (IsValidityRefusal R text) [] [] o

-- the number of steps to the canonical form is answered as the place, and nothing is written; the buffer was `before`
-- and is `after`
pub record IsCounted (R : List EntryParts) (text before after : List ℕ) (o : Outcome) : Type 0 where
  pub count : ℕ
  pub is_count : IsStepCount R text count
  pub delivered : IsDelivered (record { status = 0; detail = 0; place = count }) [] before after o

-- the number of steps to the canonical form is answered, or why the text is refused; in order: the entries, the text,
-- the buffer before and after, the outcome
abbrev pub CountsSteps : List EntryParts → List ℕ → List ℕ → List ℕ → Outcome → Type 0
CountsSteps R text before after o =
    IsCounted R text before after o ⊎ IsRefusedAsOwed (IsTextRefusal R text) before after o

-- the status says whether the tags are equivalent: Done (0) if so, Different (6) if not; the buffer was `before` and is
-- `after`
pub record IsCompared (R : List EntryParts) (first second before after : List ℕ) (o : Outcome) : Type 0 where
  pub answer : Bool
  pub is_answer : IsEqualityOf R first second answer
  pub delivered : IsDelivered (ended (if answer then 0 else 6)) [] before after o

-- whether the tags are equivalent is answered, or why one of the texts is refused; in order: the entries, the two
-- texts, the buffer before and after, the outcome
abbrev pub Compares : List EntryParts → List ℕ → List ℕ → List ℕ → List ℕ → Outcome → Type 0
Compares R first second before after o =
    IsCompared R first second before after o ⊎ IsRefusedAsOwed (IsPairRefusal R first second) before after o

-- ---- upgrades

-- the status, detail and place for a registry that is no upgrade: NoUpgrade (10) with the condition and the record, or
-- OutOfMemory (4)
abbrev pub upgrade_said : UpgradeFault → Said
upgrade_said (upgrade_faults.Fails failing number) =
    record { status = 10; detail = upgrade_condition failing; place = number }
upgrade_said upgrade_faults.OutOfMemory = ended 4

-- the newer registry upgrades the older one, so that tags keep their meaning, and the status is Done (0)
pub record IsUpgrade (older newer : List EntryParts) (o : Outcome) : Type 0 where
  pub upgrades : Upgrades older newer
  pub keeps : UpgradeKeepsTags older newer
  pub told : o ≡ outcome (ended 0) 0

-- the newer registry does not upgrade the older one, or memory ran out: the fault is answered
pub record IsNoUpgrade (older newer : List EntryParts) (o : Outcome) : Type 0 where
  pub fault : UpgradeFault
  pub owed : IsUpgradeFault older newer fault
  pub told : o ≡ outcome (upgrade_said fault) 0

-- that the newer registry upgrades the older one is answered, or a fault of the upgrade
abbrev pub ChecksUpgrade : List EntryParts → List EntryParts → Outcome → Type 0
ChecksUpgrade older newer o = IsUpgrade older newer o ⊎ IsNoUpgrade older newer o
