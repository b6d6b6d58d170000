-- What a run that searches one of the lines of a reader reads, and how it ends.
use Rattle.std.specs.Prelude.{◌≡◌, ◌<◌, ◌≤◌, ◌⊎◌, ℕ, List, Option, Result, Ok, Err, Vec}
use Rattle.std.specs.Io.KnownBytes.{Consumes, IsAtEnd}
use Rattle.std.specs.declared.alloc.Global.{Global}
use Rattle.lt_jar.specs.Devices.{HasFailed, failures_of, inner_of, last_given_of}
use Rattle.lt_jar.specs.Lines.{lines_of}
use Rattle.lt_jar.specs.Sources.{most_reads}
use Rattle.lt_jar.specs.declared.devices.Device.{Device}
use Rattle.lt_rows.specs.Marks.{IsWide, SplitsMark}
use Rattle.lt_stream.specs.Running.{HasRead}
use Rattle.lt_stream.specs.declared.faults.ToolFault.{ToolFault}
use Rattle.lt_stream.specs.declared.faults.ToolFault.TheVariants as faults

-- a statement on lines and on the line that is found among them, or on None if no line is found
abbrev pub Finding : Type 1
Finding = List (List ℕ) → Option (Vec ℕ Global) → Type 0

-- How a run ended: with what is found among all lines of `text`, or with a fault. The run read the bytes `read` in
-- `reads` reads, and `text` is those after the mark. Utf16 says that the bytes begin with a byte order mark of UTF-16,
-- and OutOfMemory says nothing more.
abbrev pub EndsAs : {I : Type 0} → Finding → (I → Option (List ℕ)) → (input input' : Device I)
    → ℕ → (read text : List ℕ) → Result (Option (Vec ℕ Global)) ToolFault → Type 0
EndsAs Finds remaining input input' reads read text (Ok found) =
    IsAtEnd (remaining (inner_of input')) × Finds (lines_of text) found
EndsAs Finds remaining input input' reads read text (Err faults.Read) = HasFailed input input'
EndsAs Finds remaining input input' reads read text (Err faults.TooManyTurns) =
    (reads ≡ most_reads) × (0 < last_given_of input')
EndsAs Finds remaining input input' reads read text (Err faults.Write) = ⊥
EndsAs Finds remaining input input' reads read text (Err (faults.BadCsv line)) = ⊥
EndsAs Finds remaining input input' reads read text (Err (faults.BadTsv line)) = ⊥
EndsAs Finds remaining input input' reads read text (Err faults.Utf16) = IsWide read
EndsAs Finds remaining input input' reads read text (Err faults.OutOfMemory) = Unit {0}

-- A run that searches one of the lines of a reader; `Finds` says which one is to be found. It read the bytes `read` in
-- `reads` reads, at most 10,000,000. A byte order mark of UTF-8 before the text is passed over, and bytes that begin
-- with one of UTF-16 are refused (`narrow`). If the count of failures of the reader rises, the result is Read
-- (`read_rises`). `remaining` gives the bytes that a reader has left, and `input` and `input'` are the reader before
-- and after the run.
pub record SearchesLines {I : Type 0} (Finds : Finding) (remaining : I → Option (List ℕ))
    (input input' : Device I) (result : Result (Option (Vec ℕ Global)) ToolFault) : Type 0 where
  pub read : List ℕ
  pub mark : List ℕ
  pub text : List ℕ
  pub split : SplitsMark read mark text
  pub narrow : IsWide read → (result ≡ Err faults.Utf16) ⊎ (result ≡ Err faults.OutOfMemory)
  pub reads : ℕ
  pub consumes : Consumes (remaining (inner_of input)) (remaining (inner_of input')) read
  pub calls : HasRead input input' reads
  pub bounded : reads ≤ most_reads
  pub ends : EndsAs Finds remaining input input' reads read text result
  pub read_rises : failures_of input < failures_of input' → result ≡ Err faults.Read
