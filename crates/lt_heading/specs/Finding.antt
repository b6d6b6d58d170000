-- Which column of a reader's rows has a given name in the heading.
use Rattle.std.specs.Prelude.{◌≡◌, ◌<◌, ◌≤◌, ◌⊎◌, ℕ, List, Option, Result, Ok, Err, codes, string_bytes}
use Rattle.std.specs.Io.KnownBytes.{Consumes}
use Rattle.lt_jar.specs.Devices.{failures_of, inner_of}
use Rattle.lt_jar.specs.Sources.{most_reads}
use Rattle.lt_jar.specs.declared.devices.Device.{Device}
use Rattle.lt_rows.specs.declared.rows.Separator.{Separator}
use Rattle.lt_stream.specs.Running.{HasRead}
use Rattle.lt_stream.specs.declared.faults.ToolFault.TheVariants as faults
use Rattle.lt_heading.specs.Headings.{KnowsHeading, StopsHeading}
use Rattle.lt_heading.specs.Names.{AreNamesIn, IsOnly, IsRepeated, Lacks, name_line}
use Rattle.lt_heading.specs.declared.finding.ColumnFault.{ColumnFault}
use Rattle.lt_heading.specs.declared.finding.ColumnFault.TheVariants as refusals
use Rattle.lt_heading.specs.declared.finding.FoundColumn.{FoundColumn}

-- none of the names of the columns is `name`, or more than one is, and `line` says so
abbrev pub IsNameFault : (name : List ℕ) → List (List ℕ) → (line : List ℕ) → Type 0
IsNameFault name names line =
    (Lacks name names × (line ≡ name_line (codes "no column") name names))
    ⊎ (IsRepeated name names × (line ≡ name_line (codes "more than one column") name names))

-- the heading of a reader, of which `read` was read, gives the names of the columns, and `Holds` is true of them
pub record ReadsNames {I : Type 0} (S : Separator) (remaining : I → Option (List ℕ)) (after : Device I) (read : List ℕ)
    (Holds : List (List ℕ) → Type 0) : Type 0 where
  pub heading : Option (List ℕ)
  pub known : KnowsHeading S remaining after read heading
  pub names : List (List ℕ)
  pub are_names : AreNamesIn S heading names
  pub holds : Holds names

-- How the search for a column ended. The column found is the only one with the name, and all bytes that were read are
-- kept (`front`). Or the line `said` says why there is no such column. Or the heading was not read, by the fault `f`.
abbrev pub EndsFinding : {I : Type 0} → Separator → (name : List ℕ) → (I → Option (List ℕ)) → (before after : Device I)
    → (reads : ℕ) → (read : List ℕ) → Result FoundColumn ColumnFault → Type 0
EndsFinding S name remaining before after reads read (Ok found) = (found.front.items ≡ read)
    × ReadsNames S remaining after read (λ names. IsOnly name names found.number)
EndsFinding S name remaining before after reads read (Err (refusals.Name said)) =
    ReadsNames S remaining after read (λ names. IsNameFault name names (string_bytes said))
EndsFinding S name remaining before after reads read (Err (refusals.Heading f)) =
    StopsHeading S remaining before after reads read f

-- The column with a name was looked for in the heading of a reader's rows. So many `reads`, at most 10,000,000, gave
-- the bytes `read`. If the count of failures rises, the result says so (`read_rises`). `before` and `after` are the
-- reader's device, and `remaining` tells what a reader has still to give.
pub record FindsColumn {I : Type 0} (S : Separator) (name : List ℕ) (remaining : I → Option (List ℕ))
    (before after : Device I) (result : Result FoundColumn ColumnFault) : Type 0 where
  pub read : List ℕ
  pub reads : ℕ
  pub consumes : Consumes (remaining (inner_of before)) (remaining (inner_of after)) read
  pub calls : HasRead before after reads
  pub bounded : reads ≤ most_reads
  pub ends : EndsFinding S name remaining before after reads read result
  pub read_rises : failures_of before < failures_of after → result ≡ Err (refusals.Heading faults.Read)

-- ---- the steps

-- the number of the only column with the name was picked from these names; or a line says why there is no such column;
-- or memory ran out
abbrev pub PicksColumn : (name : List ℕ) → List (List ℕ) → Result ℕ ColumnFault → Type 0
PicksColumn name names (Ok number) = IsOnly name names number
PicksColumn name names (Err (refusals.Name said)) = IsNameFault name names (string_bytes said)
PicksColumn name names (Err (refusals.Heading f)) = f ≡ faults.OutOfMemory
