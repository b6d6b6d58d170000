-- The records of a registry that are kept while it is read. A draft has the records so far, and its `lacks` tells
-- whether memory ran out for one. No public contract cites this.
use Rattle.std.specs.Prelude.{◌≡◌, ℕ, Bool, true, false, List, [], ◌∷◌, ◌++◌, Option, Result, Ok, Err, map}
use Rattle.lt_jar.specs.Records.{Field}
use Rattle.lt_jar.specs.Sources.{Advances, record_in}
use Rattle.lt_jar.specs.declared.devices.Device.{Device}
use Rattle.lt_jar.specs.declared.faults.JarFault.{JarFault}
use Rattle.lt_jar.specs.declared.faults.JarFaultKind.TheVariants as jars
use Rattle.lt_jar.specs.declared.readers.JarReader.{JarReader}
use Rattle.lt_jar.specs.declared.sources.JarSource.{JarSource}
use Rattle.lt_registry.specs.ReadRegistry.{IsJarRefusal, IsReadWhole, Reads}
use Rattle.lt_show.specs.Fields.{kept_fields}
use Rattle.lt_show.specs.declared.reading.Draft.{Draft}

-- memory has not run out before, and what is kept of the record `r` is put behind those of the draft `old`, which gives
-- `new`
pub record KeepsMore (r : List Field) (old new : Draft) : Type 0 where
  pub before : old.lacks ≡ false
  pub more : new.records.items ≡ old.records.items ++ kept_fields r ∷ []

-- what is kept of the record `r` is put behind the records of the draft `old`, which gives `new`, unless memory ran
-- out for it or for one before
abbrev pub Keeps : List Field → (old new : Draft) → Type 0
Keeps r old new = new.lacks ≡ false → KeepsMore r old new

-- A call for the next record, from the reader `old` to `new`, which `advances` describes: the draft `draft` took the
-- record that the reader lent, and became `drafted` (`takes`), or is as it was where there was none (`keeps`). The
-- reader's device is the same (`same_reference`). `remaining` is what a reader has left, where that is known.
pub record KeepsNext {R : Type 0} (remaining : R → Option (List ℕ)) (old new : JarReader R JarSource)
    (draft drafted : Draft) (result : Result Bool JarFault) : Type 0 where
  pub same_reference : new.device.ghost_name ≡ old.device.ghost_name
  pub advances : Advances remaining old.source new.source old.device.now new.device.now result
  pub takes : result ≡ Ok true → Keeps (record_in new.source) draft drafted
  pub keeps : result ≡ Ok false → drafted ≡ draft

-- the draft has what is kept of these records, unless memory ran out for one
abbrev pub HasKept : Draft → List (List Field) → Type 0
HasKept draft records = draft.lacks ≡ false → draft.records.items ≡ map kept_fields records

-- What is true of an answer after `reads` reads of a device that gave `bytes`. Either the draft has kept the records
-- of the bytes, or the fault is why they have none or were not read to their end. `remaining` is what a reader has
-- left, where that is known.
abbrev pub AnswersDraft : {R : Type 0} → (R → Option (List ℕ)) → Result Draft JarFault → (before after : Device R)
    → List ℕ → ℕ → Type 0
AnswersDraft remaining (Ok draft) before after bytes reads =
    (records : List (List Field)) × IsReadWhole remaining before after bytes records × HasKept draft records
AnswersDraft remaining (Err fault) before after bytes reads = IsJarRefusal remaining before after bytes reads fault

-- the answer is the fault that a read failed, as it must be if the device counts a failure
abbrev pub IsJarFailure : Result Draft JarFault → Type 0
IsJarFailure (Ok draft) = ⊥
IsJarFailure (Err fault) = fault.kind ≡ jars.Read

-- the records of a registry were read from a device, with this answer; `remaining` is what a reader has left, where
-- that is known
unfoldable pub ReadsDraft : {R : Type 0} → (R → Option (List ℕ)) → (before after : Device R)
    → Result Draft JarFault → Type 0
ReadsDraft remaining before after result =
    Reads remaining before after (AnswersDraft remaining result) (IsJarFailure result)
