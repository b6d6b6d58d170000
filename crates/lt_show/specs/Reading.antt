-- What reading a registry together with its records answers.
use Rattle.std.specs.Prelude.{◌≡◌, ℕ, List, Option, Result, Ok, Err, map}
use Rattle.lt_jar.specs.Records.{Field}
use Rattle.lt_jar.specs.declared.devices.Device.{Device}
use Rattle.lt_registry.specs.Parts.{EntryParts}
use Rattle.lt_registry.specs.Records.{HasEntries}
use Rattle.lt_registry.specs.ReadRegistry.{AnswersAs, IsReadFailure, IsReadWhole, Reads}
use Rattle.lt_show.specs.Fields.{kept_fields}
use Rattle.lt_show.specs.declared.reading.RecordsFault.{RecordsFault}
use Rattle.lt_show.specs.declared.reading.RecordsFault.TheVariants as faults

-- the answer of a reading: the entries, and of each record the fields that are kept; or why there are none
abbrev pub RecordsReading : Type 0
RecordsReading = Result (List EntryParts × List (List Field)) RecordsFault

-- What is true of an answer after `reads` reads of a device that gave `bytes`. Either the bytes have records, of which
-- these are the entries and the fields that are kept; or the bytes are refused as when only the entries are read; or
-- memory ran out. `remaining` is what a reader has left, where that is known.
abbrev pub AnswersWith : {R : Type 0} → (R → Option (List ℕ)) → RecordsReading → (before after : Device R)
    → List ℕ → ℕ → Type 0
AnswersWith remaining (Ok both) before after bytes reads =
    (records : List (List Field)) × IsReadWhole remaining before after bytes records × HasEntries records both.0
    × (both.1 ≡ map kept_fields records)
AnswersWith remaining (Err (faults.Registry fault)) before after bytes reads =
    AnswersAs remaining (Err fault) before after bytes reads
AnswersWith remaining (Err faults.OutOfMemory) before after bytes reads = Unit {0}

-- the answer is the fault that a read failed, as it must be if the device counts a failure
abbrev pub IsFailure : RecordsReading → Type 0
IsFailure (Ok both) = ⊥
IsFailure (Err (faults.Registry fault)) = IsReadFailure (Err fault)
IsFailure (Err faults.OutOfMemory) = ⊥

-- a registry was read with its records from a device, with this answer; `remaining` is what a reader has left, where
-- that is known
unfoldable pub ReadsRecords : {R : Type 0} → (R → Option (List ℕ)) → (before after : Device R) → RecordsReading → Type 0
ReadsRecords remaining before after result =
    Reads remaining before after (AnswersWith remaining result) (IsFailure result)
