-- What each further record adds to the entries of those before it, and to the draft, which is the registry that is
-- being read. No public contract cites this.
use Rattle.std.specs.Prelude.{ℕ, ◌≡◌, ◌+◌, ◌⊎◌, Bool, true, false, List, [], ◌∷◌, ◌++◌, Option, Some, None, Result, Ok}
use Rattle.std.specs.Prelude.{Err}
use Rattle.lt_jar.specs.Records.{Field}
use Rattle.lt_jar.specs.Sources.{Advances, record_in}
use Rattle.lt_jar.specs.declared.faults.JarFault.{JarFault}
use Rattle.lt_jar.specs.declared.readers.JarReader.{JarReader}
use Rattle.lt_jar.specs.declared.sources.JarSource.{JarSource}
use Rattle.lt_registry.specs.Parts.{EntryParts}
use Rattle.lt_registry.specs.Entries.{IsEntry}
use Rattle.lt_registry.specs.Records.{IsEntryOf, is_header_at}
use Rattle.lt_registry.specs.RecordRefusals.{IsRefused}
use Rattle.lt_registry.specs.declared.drafts.Draft.{Draft}
use Rattle.lt_registry.specs.declared.faults.RecordFault.{RecordFault}

-- the entry of the record `r`, which has this number, was appended: `new` is `old` and the entry
abbrev pub IsPut : List Field → ℕ → List EntryParts → List EntryParts → Type 0
IsPut r number old new = (e : EntryParts) × IsEntryOf r number e × IsEntry e × (new ≡ old ++ e ∷ [])

-- the record's entry was appended, or nothing, if the record is the registry's header; `old` and `new` are the entries
-- before and after
abbrev pub IsAdded : List Field → ℕ → List EntryParts → List EntryParts → Type 0
IsAdded r number old new =
    ((is_header_at number r ≡ true) × (new ≡ old)) ⊎ ((is_header_at number r ≡ false) × IsPut r number old new)

-- the record `r`, which has this number and is not the header, is refused with this fault
pub record IsRefusedAt (r : List Field) (number : ℕ) (fault : RecordFault) : Type 0 where
  pub numbered : fault.number ≡ number
  pub judged : is_header_at number r ≡ false
  pub refused : IsRefused r fault.kind

-- A draft without a fault takes the record's entry or its fault, and a draft with a fault keeps that. `old` and `new`
-- are its entries before and after, and the last two arguments are its faults before and after.
abbrev pub TakesFrom : List Field → ℕ → List EntryParts
    → List EntryParts → Option RecordFault → Option RecordFault → Type 0
TakesFrom r number old new None None = IsAdded r number old new
TakesFrom r number old new None (Some fault) = IsRefusedAt r number fault
TakesFrom r number old new (Some first) fault = fault ≡ Some first

-- the draft took a further record, `r`: it counted that, and took its entry or its fault, as `TakesFrom` tells
pub record Takes (r : List Field) (old new : Draft) : Type 0 where
  pub numbered : new.number ≡ old.number + 1
  pub takes : TakesFrom r new.number old.entries.items new.entries.items old.fault new.fault

-- A call for the next record: the draft took the record that the reader lent (`draft` to `drafted`), or is as it was if
-- there was none. The reader is on the same device (`same_reference`), and did what `Advances` tells. `remaining` is
-- what a device has left to read.
pub record TakesNext {R : Type 0} (remaining : R → Option (List ℕ)) (old new : JarReader R JarSource)
    (draft drafted : Draft) (result : Result Bool JarFault) : Type 0 where
  pub same_reference : new.device.ghost_name ≡ old.device.ghost_name
  pub advances : Advances remaining old.source new.source old.device.now new.device.now result
  pub takes : result ≡ Ok true → Takes (record_in new.source) draft drafted
  pub keeps : result ≡ Ok false → drafted ≡ draft

-- what reading records gives: the entries, or the first fault
abbrev pub finished : {A : Type 0} → A → Option RecordFault → Result A RecordFault
finished entries None = Ok entries
finished entries (Some fault) = Err fault
