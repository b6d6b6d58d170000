-- What a run that selects lines of a reader reads and writes, and how it ends.
use Rattle.std.specs.Prelude.{◌≡◌, ◌<◌, ◌≤◌, ◌⊎◌, ℕ, List, [], length, Option, Result, Ok, Err}
use Rattle.std.specs.Io.KnownBytes.{Appends, Consumes, IsAtEnd}
use Rattle.lt_jar.specs.Devices.{HasFailed, failures_of, inner_of, last_given_of}
use Rattle.lt_jar.specs.Sources.{most_reads}
use Rattle.lt_jar.specs.declared.devices.Device.{Device}
use Rattle.lt_rows.specs.Marks.{IsWide, SplitsMark}
use Rattle.lt_stream.specs.Running.{HasRead}
use Rattle.lt_stream.specs.declared.faults.ToolFault.{ToolFault}
use Rattle.lt_stream.specs.declared.faults.ToolFault.TheVariants as faults
use Rattle.lt_answers.specs.Selection.{IsBegun, IsOwed, IsOwedToLastFeed, Selection}

-- the reader was read to its end, and all lines of the text that are selected, `count` of them, were written
pub record IsDone {I : Type 0} (P : Selection) (remaining : I → Option (List ℕ)) (input' : Device I)
    (text written : List ℕ) (count : ℕ) : Type 0 where
  pub end : IsAtEnd (remaining (inner_of input'))
  pub owed : IsOwed P text written count

-- the reader failed, and the lines of the text that are selected up to the last line feed were written
pub record IsStoppedByRead {I : Type 0} (P : Selection) (input input' : Device I) (text written : List ℕ) : Type 0 where
  pub failed : HasFailed input input'
  pub owed : IsOwedToLastFeed P text written

-- all reads that a run may make were made, they gave at least as many bytes, the last gave some; the lines of the text
-- that are selected up to the last line feed were written
pub record IsStoppedByTurns {I : Type 0} (P : Selection) (input' : Device I) (reads : ℕ)
    (read text written : List ℕ) : Type 0 where
  pub all_made : reads ≡ most_reads
  pub gave_bytes : most_reads ≤ length read
  pub last_gave : 0 < last_given_of input'
  pub owed : IsOwedToLastFeed P text written

-- How a run ended: with how many lines it wrote, or with a fault. The run read the bytes `read` in `reads` reads, and
-- `text` is those after the mark. Utf16 says that the bytes begin with a byte order mark of UTF-16 and that nothing was
-- written. Of an end by Write only the failure of the output is said, and of an end by OutOfMemory nothing.
abbrev pub EndsAs : {I O : Type 0} → Selection → (I → Option (List ℕ)) → (input input' : Device I)
    → (output output' : Device O) → ℕ → (read text written : List ℕ) → Result ℕ ToolFault → Type 0
EndsAs P remaining input input' output output' reads read text written (Ok count) =
    IsDone P remaining input' text written count
EndsAs P remaining input input' output output' reads read text written (Err faults.Read) =
    IsStoppedByRead P input input' text written
EndsAs P remaining input input' output output' reads read text written (Err faults.TooManyTurns) =
    IsStoppedByTurns P input' reads read text written
EndsAs P remaining input input' output output' reads read text written (Err faults.Write) = HasFailed output output'
EndsAs P remaining input input' output output' reads read text written (Err faults.OutOfMemory) = Unit {0}
EndsAs P remaining input input' output output' reads read text written (Err (faults.BadCsv line)) = ⊥
EndsAs P remaining input input' output output' reads read text written (Err (faults.BadTsv line)) = ⊥
EndsAs P remaining input input' output output' reads read text written (Err faults.Utf16) =
    IsWide read × (written ≡ [])

-- A run that writes the lines of a reader that are selected. It read the bytes `read` in `reads` reads, at most
-- 10,000,000. A byte order mark of UTF-8 before the text is passed over, and bytes that begin with one of UTF-16 are
-- refused (`narrow`). Whatever ended the run, `written` is a front of the selected lines (`begun`). If the count of
-- failures of the reader or the output rises, the result says so (`read_rises`, `write_rises`). `remaining` gives the
-- bytes that a reader has left, and `contents` those that an output was given; `input'` and `output'` are the reader
-- and the output after the run.
pub record SelectsLines {I O : Type 0} (P : Selection) (remaining : I → Option (List ℕ))
    (contents : O → Option (List ℕ)) (input input' : Device I) (output output' : Device O)
    (result : Result ℕ ToolFault) : Type 0 where
  pub read : List ℕ
  pub mark : List ℕ
  pub text : List ℕ
  pub split : SplitsMark read mark text
  pub narrow : IsWide read → (result ≡ Err faults.Utf16) ⊎ (result ≡ Err faults.OutOfMemory)
  pub written : List ℕ
  pub reads : ℕ
  pub consumes : Consumes (remaining (inner_of input)) (remaining (inner_of input')) read
  pub appends : Appends (contents (inner_of output)) (contents (inner_of output')) written
  pub begun : IsBegun P text written
  pub calls : HasRead input input' reads
  pub bounded : reads ≤ most_reads
  pub ends : EndsAs P remaining input input' output output' reads read text written result
  pub read_rises : failures_of input < failures_of input' → result ≡ Err faults.Read
  pub write_rises : failures_of output < failures_of output' → result ≡ Err faults.Write
