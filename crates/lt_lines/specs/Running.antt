-- What a run over the lines of a reader read and wrote, and how it ended. What is owed for lines is the answers that a
-- run has to write, and a front of that is its first bytes, perhaps none or all.
use Rattle.std.specs.Prelude.{◌≡◌, ◌<◌, ◌≤◌, ◌⊎◌, ℕ, List, [], length, Option, Result, Ok, Err}
use Rattle.std.specs.Io.KnownBytes.{Appends, Consumes, IsAtEnd}
use Rattle.lt_jar.specs.Devices.{HasFailed, failures_of, inner_of, last_given_of}
use Rattle.lt_jar.specs.Sources.{most_reads}
use Rattle.lt_jar.specs.declared.devices.Device.{Device}
use Rattle.lt_rows.specs.Marks.{IsWide}
use Rattle.lt_lines.specs.Owed.{AfterMark, IsBegunText, MayHaveMark, Terms, long_fault}
use Rattle.lt_lines.specs.Tallied.{OwesAll, TalliesInQuotes, TalliesToLastFeed, TalliesTooLong}
use Rattle.lt_stream.specs.Running.{HasRead}
use Rattle.lt_stream.specs.declared.faults.ToolFault.{ToolFault}
use Rattle.lt_stream.specs.declared.faults.ToolFault.TheVariants as faults
use Rattle.lt_lines.specs.declared.runs.Counts.{Counts}
use Rattle.lt_stream.specs.declared.tallies.Tally.{Tally}

-- the reader was read to its end, all that is owed was written, and the tallies count the refused lines
pub record IsDone {I : Type 0} (T : Terms) (remaining : I → Option (List ℕ)) (input' : Device I)
    (read written : List ℕ) (tallies : List Tally) (counts : Counts) : Type 0 where
  pub end : IsAtEnd (remaining (inner_of input'))
  pub owed : AfterMark T (λ text more. OwesAll T text more counts tallies) read written

-- the reader failed; what is owed up to the last line feed was written, and the tallies count its refused lines
pub record IsStoppedByRead {I : Type 0} (T : Terms) (input input' : Device I) (read written : List ℕ)
    (tallies : List Tally) : Type 0 where
  pub failed : HasFailed input input'
  pub owed : AfterMark T (TalliesToLastFeed T tallies) read written

-- the most reads that a run may make were made, they gave at least as many bytes, the last gave some; what is owed up
-- to the last line feed was written, and the tallies count its refused lines
pub record IsStoppedByTurns {I : Type 0} (T : Terms)
    (input' : Device I) (reads : ℕ) (read written : List ℕ) (tallies : List Tally) : Type 0 where
  pub all_made : reads ≡ most_reads
  pub gave_bytes : most_reads ≤ length read
  pub last_gave : 0 < last_given_of input'
  pub owed : AfterMark T (TalliesToLastFeed T tallies) read written

-- the reader's bytes end within quotes; what is owed for the records before the unfinished one, which begins in this
-- line, was written and tallied
pub record IsStoppedByQuotes {I : Type 0} (T : Terms) (remaining : I → Option (List ℕ)) (input' : Device I)
    (read written : List ℕ) (tallies : List Tally) (line : ℕ) : Type 0 where
  pub end : IsAtEnd (remaining (inner_of input'))
  pub ends : AfterMark T (TalliesInQuotes T line tallies) read written

-- the row or record that begins in this line is too long; what is owed for those before it was written and tallied
pub record IsStoppedByLength (T : Terms) (read written : List ℕ) (tallies : List Tally) (f : ToolFault)
    (line : ℕ) : Type 0 where
  pub named : f ≡ long_fault T.form line
  pub ends : AfterMark T (TalliesTooLong T line tallies) read written

-- the bytes begin with a byte order mark of UTF-16, before rows or records, and nothing was written or tallied
pub record IsStoppedByMark (T : Terms) (read written : List ℕ) (tallies : List Tally) : Type 0 where
  pub looked : MayHaveMark T.form
  pub wide : IsWide read
  pub nothing : written ≡ []
  pub none : tallies ≡ []

-- How a run ended that read the bytes `read` in `reads` reads: with its counts, or with a fault. Of an end by Write
-- only the failure of the output is said, and of an end by OutOfMemory nothing.
abbrev pub EndsAs : {I O : Type 0} → Terms → (I → Option (List ℕ))
    → (input input' : Device I) → (output output' : Device O)
    → ℕ → (read written : List ℕ) → List Tally → Result Counts ToolFault → Type 0
EndsAs T remaining input input' output output' reads read written tallies (Ok counts) =
    IsDone T remaining input' read written tallies counts
EndsAs T remaining input input' output output' reads read written tallies (Err faults.Read) =
    IsStoppedByRead T input input' read written tallies
EndsAs T remaining input input' output output' reads read written tallies (Err faults.TooManyTurns) =
    IsStoppedByTurns T input' reads read written tallies
EndsAs T remaining input input' output output' reads read written tallies (Err (faults.BadCsv line)) =
    IsStoppedByQuotes T remaining input' read written tallies line
    ⊎ IsStoppedByLength T read written tallies (faults.BadCsv line) line
EndsAs T remaining input input' output output' reads read written tallies (Err (faults.BadTsv line)) =
    IsStoppedByLength T read written tallies (faults.BadTsv line) line
EndsAs T remaining input input' output output' reads read written tallies (Err faults.Utf16) =
    IsStoppedByMark T read written tallies
EndsAs T remaining input input' output output' reads read written tallies (Err faults.Write) = HasFailed output output'
EndsAs T remaining input input' output output' reads read written tallies (Err faults.OutOfMemory) = Unit {0}

-- A run over the lines of a reader: it read the bytes `read` in `reads` reads, at most 10,000,000. Whatever ended it,
-- `written` is a front of what is owed (`begun`). The tallies are those of the lines that were answered, unless a write
-- failed or memory ran out. If the count of failures of the input or the output rises, the result says so
-- (`read_rises`, `write_rises`). `remaining` gives the bytes that a reader has left, and `contents` those that an
-- output was given; `input'` and `output'` are the reader and the output after the run.
pub record RunsLines {I O : Type 0} (T : Terms) (remaining : I → Option (List ℕ)) (contents : O → Option (List ℕ))
    (input input' : Device I) (output output' : Device O) (tallies : List Tally)
    (result : Result Counts ToolFault) : Type 0 where
  pub read : List ℕ
  pub written : List ℕ
  pub reads : ℕ
  pub consumes : Consumes (remaining (inner_of input)) (remaining (inner_of input')) read
  pub appends : Appends (contents (inner_of output)) (contents (inner_of output')) written
  pub begun : IsBegunText T read written
  pub calls : HasRead input input' reads
  pub bounded : reads ≤ most_reads
  pub ends : EndsAs T remaining input input' output output' reads read written tallies result
  pub read_rises : failures_of input < failures_of input' → result ≡ Err faults.Read
  pub write_rises : failures_of output < failures_of output' → result ≡ Err faults.Write
