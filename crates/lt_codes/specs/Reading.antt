-- The table of codes that a reader gives, or why it gives none.
use Rattle.std.specs.Prelude.{◌≡◌, ◌≤◌, ◌<◌, ◌⊎◌, ℕ, List, Option, Result, Ok, Err, length}
use Rattle.std.specs.Io.KnownBytes.{Consumes, IsAtEnd}
use Rattle.lt_jar.specs.Devices.{HasFailed, failures_of, inner_of}
use Rattle.lt_jar.specs.Sources.{most_reads}
use Rattle.lt_jar.specs.declared.devices.Device.{Device}
use Rattle.lt_stream.specs.Running.{HasRead}
use Rattle.lt_stream.specs.declared.faults.ToolFault.{ToolFault}
use Rattle.lt_stream.specs.declared.faults.ToolFault.TheVariants as faults
use Rattle.lt_codes.specs.Tables.{IsTable, RefusesTable, line_reached, longest_table}
use Rattle.lt_codes.specs.declared.codes.Code.{Code}
use Rattle.lt_codes.specs.declared.faults.TableFault.{TableFault}
use Rattle.lt_codes.specs.declared.faults.TableFaultKind.{TableFaultKind}
use Rattle.lt_codes.specs.declared.faults.TableFaultKind.TheVariants as kinds
use Rattle.lt_codes.specs.declared.reading.Whole.{Whole}

-- a read failed, and the fault names the line up to which bytes were read; `before` and `after` are the device
pub record FailsRead {I : Type 0} (before after : Device I) (read : List ℕ) (fault : TableFault) : Type 0 where
  pub kind : fault.kind ≡ kinds.Read
  pub failed : HasFailed before after
  pub line : fault.line ≡ line_reached read

-- the bytes that were read are all of the reader, or more than a table may have
abbrev pub AreAll : {I : Type 0} → (I → Option (List ℕ)) → (after : Device I) → (read : List ℕ) → Type 0
AreAll remaining after read = IsAtEnd (remaining (inner_of after)) ⊎ (longest_table < length read)

-- no read failed, and the bytes that were read are no table, or memory ran out
pub record RefusesRead {I : Type 0} (remaining : I → Option (List ℕ)) (before after : Device I) (read : List ℕ)
    (fault : TableFault) : Type 0 where
  pub same : failures_of after ≡ failures_of before
  pub refuses : (fault.kind ≡ kinds.OutOfMemory) ⊎ (AreAll remaining after read × RefusesTable read fault)

-- the bytes that were read are all of the reader, and they are a table of these codes
pub record HoldsTable {I : Type 0} (remaining : I → Option (List ℕ)) (before after : Device I) (read : List ℕ)
    (codes : List Code) : Type 0 where
  pub end : IsAtEnd (remaining (inner_of after))
  pub same : failures_of after ≡ failures_of before
  pub table : IsTable read codes

-- how the reading of a table ended: with its codes, or with a fault
abbrev pub EndsTable : {I : Type 0} → (I → Option (List ℕ)) → (before after : Device I) → (read : List ℕ)
    → Result (List Code) TableFault → Type 0
EndsTable remaining before after read (Ok codes) = HoldsTable remaining before after read codes
EndsTable remaining before after read (Err fault) =
    FailsRead before after read fault ⊎ RefusesRead remaining before after read fault

-- A table was read from a device, which was `before` and is `after`: the bytes `read` in as many calls as `reads`,
-- which are at most `most_reads`. `remaining` tells what the reader of the device has still to give.
pub record ReadsTable {I : Type 0} (remaining : I → Option (List ℕ)) (before after : Device I)
    (result : Result (List Code) TableFault) : Type 0 where
  pub read : List ℕ
  pub reads : ℕ
  pub consumes : Consumes (remaining (inner_of before)) (remaining (inner_of after)) read
  pub calls : HasRead before after reads
  pub bounded : reads ≤ most_reads
  pub ends : EndsTable remaining before after read result

-- ---- within a reading

-- the fault of a table whose reading was ended by this fault
abbrev pub kind_of : ToolFault → TableFaultKind
kind_of faults.OutOfMemory = kinds.OutOfMemory
kind_of fault = kinds.Read

-- What Whole keeps of the pieces that run_pieces (lt_stream) hands to it: IsWhole after each piece that it takes,
-- IsCutOff after one that ends the run, EndsBytes where the reader has no more.

-- all bytes that were read are kept, and they are not more than a table may have
pub record IsWhole (read : List ℕ) (here : Whole) : Type 0 where
  pub bytes : here.bytes.items ≡ read
  pub few : length read ≤ longest_table

-- the bytes that were read are more than a table may have, or memory ran out
abbrev pub IsCutOff : List ℕ → Whole → Result (Unit {0}) ToolFault → Type 0
IsCutOff read here (Ok done) = (here.bytes.items ≡ read) × (longest_table < length read)
IsCutOff read here (Err fault) = fault ≡ faults.OutOfMemory

-- the reader has no more bytes, and all that were read are kept
abbrev pub EndsBytes : List ℕ → Whole → Result (Unit {0}) ToolFault → Type 0
EndsBytes read here (Ok done) = here.bytes.items ≡ read
EndsBytes read here (Err fault) = ⊥
