-- What a registry of this crate promises, on one page: what is true of every one, and how one is read.
use Rattle.std.specs.Prelude.{◌≡◌, ◌≢◌, ℕ, List, Option, Result, Ok, Err}
use Rattle.lt_jar.specs.Records.{Field, HasRecords, IsWithin}
use Rattle.lt_jar.specs.Views.{IsFaultOf}
use Rattle.lt_jar.specs.declared.devices.Device.{Device}
use Rattle.lt_jar.specs.declared.faults.JarFaultKind.TheVariants as jar_kinds
use Rattle.lt_registry.specs.Parts.{EntryParts}
use Rattle.lt_registry.specs.ReadRegistry.{Reading, ReadsRegistry}
use Rattle.lt_registry.specs.Records.{HasEntries}
use Rattle.lt_registry.specs.RecordRefusals.{IsRecordRefusal}
use Rattle.lt_registry.specs.declared.faults.RecordFaultKind.TheVariants as record_kinds
use Rattle.lt_registry.specs.declared.faults.RegistryFault.TheVariants as faults
use Rattle.lt_check.specs.Conditions.{IsChecked, IsFinding}
use Rattle.lt_canon.specs.Laws.{CanonicalOrRepeats, CanonicalTwiceIsOnce, CanonicalTextTwiceIsOnce}
use Rattle.lt_canon.specs.Laws.{EquivalenceIsEqualText}
use Rattle.lt_canon.specs.Corollaries.{RepeatsHaveNoForm}
use Rattle.lt_canon.specs.RepeatLaws.{RepeatsAreNamed}
use Rattle.bcp47.specs.declared.errors.RegistryError.{RegistryError}
use Rattle.bcp47.specs.declared.errors.RegistryError.TheVariants as errors

-- ---- the promise (RFC 5646, 4.5)

-- What holds of every registry of this crate.
pub record Promise (R : List EntryParts) : Type 0 where
  -- each record meets each of the twelve conditions
  pub checked : IsChecked R
  -- Of a valid tag one of two things is true: steps lead from it to a canonical tag, from which no step leads, and can
  -- repeat no variant of it; or steps can repeat a variant of it.
  pub canonical : CanonicalOrRepeats R
  -- a valid tag of which steps can repeat a variant is equivalent to no canonical tag
  pub formless : RepeatsHaveNoForm R
  -- where steps can repeat a variant, the refusal names one, and no other
  pub named : RepeatsAreNamed R
  -- a canonical form is its own canonical form
  pub twice : CanonicalTwiceIsOnce R
  -- a canonical text of at most 1,024 bytes, which is not too long to be read, is its own canonical text
  pub text_twice : CanonicalTextTwiceIsOnce R
  -- Valid tags that are not refused are equivalent exactly if the texts of their canonical forms are equal.
  pub equivalence : EquivalenceIsEqualText R

-- ---- how it is read (RFC 5646, 3.1)

-- what bytes are read as: the entries of their records, or the fault for which there are none: that of the file as
-- record-jar (RFC 5646, 3.1.1), or else that of a record
abbrev pub IsReadingOf : List ℕ → Reading → Type 0
IsReadingOf bytes (Ok R) =
    (records : List (List Field)) × HasRecords bytes records × IsWithin bytes records × HasEntries records R
IsReadingOf bytes (Err (faults.Record fault)) =
    (records : List (List Field)) × HasRecords bytes records × IsWithin bytes records × IsRecordRefusal records fault
IsReadingOf bytes (Err (faults.Jar fault)) = IsFaultOf bytes fault

-- why a reading gives no registry that passes the check; OutOfMemory may be answered for any reading
abbrev pub IsRefusal : Reading → RegistryError → Type 0
IsRefusal reading (errors.Jar fault) = (reading ≡ Err (faults.Jar fault)) × (fault.kind ≢ jar_kinds.OutOfMemory)
IsRefusal reading (errors.Record fault) =
    (reading ≡ Err (faults.Record fault)) × (fault.kind ≢ record_kinds.OutOfMemory)
IsRefusal reading (errors.Check finding) =
    (R : List EntryParts) × (reading ≡ Ok R) × IsFinding R finding.condition finding.number
IsRefusal reading errors.OutOfMemory = Unit {0}

-- the answer is the entries that were read, which pass the check, or why there is no such registry; in order: the
-- reading, the answer
abbrev pub IsJudged : Reading → Result (List EntryParts) RegistryError → Type 0
IsJudged reading (Ok R) = (reading ≡ Ok R) × IsChecked R
IsJudged reading (Err error) = IsRefusal reading error

-- a registry was read from bytes, with this answer
abbrev pub ReadsBytes : List ℕ → Result (List EntryParts) RegistryError → Type 0
ReadsBytes bytes result = (reading : Reading) × IsReadingOf bytes reading × IsJudged reading result

-- A registry was read from a device, with this answer; `ReadsRegistry` relates the reading to the bytes that were read.
-- `remaining` is what a reader has left, where that is known.
abbrev pub ReadsDevice : {F : Type 0} → (F → Option (List ℕ)) → (before after : Device F)
    → Result (List EntryParts) RegistryError → Type 0
ReadsDevice remaining before after result =
    (reading : Reading) × ReadsRegistry remaining before after reading × IsJudged reading result
