-- What reading a registry from a device answers: its entries, or the fault for which there are none. `before` and
-- `after` are the device before and after the reading, and `remaining` tells what a device has left to read.
use Rattle.std.specs.Prelude.{◌≡◌, ◌≢◌, ◌≤◌, ◌<◌, ◌*◌, ℕ, List, length, Option, Some, Result, Ok, Err}
use Rattle.std.specs.Io.KnownBytes.{Consumes, IsAtEnd}
use Rattle.lt_jar.specs.Devices.{HasFailed, after_reads, failures_of, inner_of, last_given_of, reads_of}
use Rattle.lt_jar.specs.Lines.{HoldsOfWhole}
use Rattle.lt_jar.specs.Records.{Field, HasRecords, IsWithin}
use Rattle.lt_jar.specs.Faults.{Fault, IsLineReached, IsTheFault}
use Rattle.lt_jar.specs.Lending.{BreaksOff}
use Rattle.lt_jar.specs.Sources.{most_reads}
use Rattle.lt_jar.specs.Views.{fault_in}
use Rattle.lt_jar.specs.declared.devices.Device.{Device}
use Rattle.lt_jar.specs.declared.faults.JarFault.{JarFault}
use Rattle.lt_jar.specs.declared.faults.JarFaultKind.TheVariants as jars
use Rattle.lt_registry.specs.Parts.{EntryParts}
use Rattle.lt_registry.specs.Records.{HasEntries}
use Rattle.lt_registry.specs.RecordRefusals.{IsRecordRefusal}
use Rattle.lt_registry.specs.declared.faults.RegistryFault.{RegistryFault}
use Rattle.lt_registry.specs.declared.faults.RegistryFault.TheVariants as faults

-- the answer of a reading: the entries, or the fault for which there are none
abbrev pub Reading : Type 0
Reading = Result (List EntryParts) RegistryFault

-- the bytes have these records (`has`) and keep the limits of lines and records (`within`), nothing is left to read
-- (`end`), and the device did not fail (`works`)
pub record IsReadWhole {R : Type 0} (remaining : R → Option (List ℕ))
    (before after : Device R) (bytes : List ℕ) (records : List (List Field)) : Type 0 where
  pub has : HasRecords bytes records
  pub within : IsWithin bytes records
  pub end : IsAtEnd (remaining (inner_of after))
  pub works : failures_of after ≡ failures_of before

-- Why the bytes that these reads gave have no records, or were not read to the end. A fault of the format is the first
-- of the text: of every text that begins with these bytes, or of the bytes if they are the whole text. OutOfMemory
-- names a line that was reached. Read follows a failure of the device. TooManyTurns follows the most reads, the last of
-- which gave bytes. Failed, which comes only after another fault, is never the answer.
pub record IsJarRefusal {R : Type 0} (remaining : R → Option (List ℕ))
    (before after : Device R) (bytes : List ℕ) (reads : ℕ) (fault : JarFault) : Type 0 where
  pub format : (kind : Fault) → fault_in fault.kind ≡ Some kind
      → HoldsOfWhole (λ text. IsTheFault 0 text kind fault.line) (IsAtEnd (remaining (inner_of after))) bytes
  pub memory : fault.kind ≡ jars.OutOfMemory → IsLineReached 0 bytes fault.line
  pub device : fault.kind ≡ jars.Read → HasFailed before after × BreaksOff 0 bytes fault.line
  pub all_made : fault.kind ≡ jars.TooManyTurns → (reads ≡ most_reads)
      × (reads ≤ length bytes) × (0 < last_given_of after) × BreaksOff 0 bytes fault.line
  pub first : fault.kind ≢ jars.Failed

-- The answer is the entries of the records, or the fault of the first record that has one. A fault of the file is
-- answered before any of a record. The last two arguments are the bytes that were read and the count of reads.
abbrev pub AnswersAs : {R : Type 0} → (R → Option (List ℕ)) → Reading → (before after : Device R)
    → List ℕ → ℕ → Type 0
AnswersAs remaining (Ok registry) before after bytes reads =
    (records : List (List Field)) × IsReadWhole remaining before after bytes records × HasEntries records registry
AnswersAs remaining (Err (faults.Record fault)) before after bytes reads =
    (records : List (List Field)) × IsReadWhole remaining before after bytes records × IsRecordRefusal records fault
AnswersAs remaining (Err (faults.Jar fault)) before after bytes reads =
    IsJarRefusal remaining before after bytes reads fault

-- the answer is the fault that a read failed
abbrev pub IsReadFailure : Reading → Type 0
IsReadFailure (Ok registry) = ⊥
IsReadFailure (Err (faults.Record fault)) = ⊥
IsReadFailure (Err (faults.Jar fault)) = fault.kind ≡ jars.Read

-- Some reads gave some bytes (`consumes`), and were counted (`calls`). They were at most as many as a reader makes
-- (`bounded`), and gave on average at most 65,536 bytes, which is more than a reader's buffer holds (`each`). `Answers`
-- is true of them, and if the device failed, `IsFailure` is true (`rises`).
pub record Reads {R : Type 0} (remaining : R → Option (List ℕ)) (before after : Device R)
    (Answers : (before after : Device R) → (bytes : List ℕ) → (reads : ℕ) → Type 0) (IsFailure : Type 0) : Type 0 where
  pub bytes : List ℕ
  pub reads : ℕ
  pub consumes : Consumes (remaining (inner_of before)) (remaining (inner_of after)) bytes
  pub calls : reads_of after ≡ after_reads (reads_of before) reads
  pub bounded : reads ≤ most_reads
  pub each : length bytes ≤ 65536 * reads
  pub answers : Answers before after bytes reads
  pub rises : failures_of before < failures_of after → IsFailure

-- a registry was read from a device, with this answer
unfoldable pub ReadsRegistry : {R : Type 0} → (R → Option (List ℕ)) → (before after : Device R) → Reading → Type 0
ReadsRegistry remaining before after result =
    Reads remaining before after (AnswersAs remaining result) (IsReadFailure result)
