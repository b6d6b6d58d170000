-- A run over lines that are tags: what is owed for them, and how the run ends.
use Rattle.std.specs.Prelude.{◌≡◌, ◌<◌, ◌≤◌, ◌⊎◌, ℕ, List, [], ◌∷◌, ◌++◌, length, Option, Result, Ok, Err}
use Rattle.std.specs.Io.KnownBytes.{Appends, Consumes, IsAtEnd}
use Rattle.std.specs.List.{AllByRecursion, concat, count_by}
use Rattle.lt_jar.specs.Devices.{HasFailed, failures_of, inner_of, last_given_of}
use Rattle.lt_jar.specs.Lines.{IsOneLine, content_of, lines_of}
use Rattle.lt_jar.specs.Sources.{most_reads}
use Rattle.lt_jar.specs.declared.devices.Device.{Device}
use Rattle.lt_registry.specs.Parts.{EntryParts}
use Rattle.lt_rows.specs.Marks.{Begins}
use Rattle.lt_stream.specs.Running.{HasRead}
use Rattle.lt_stream.specs.declared.faults.ToolFault.{ToolFault}
use Rattle.lt_stream.specs.declared.faults.ToolFault.TheVariants as faults
use Rattle.lt_lines.specs.Owed.{AnswersText, RefusesText, ended, is_refusal}
use Rattle.lt_lines.specs.declared.runs.Counts.{Counts}

-- the line that is owed for a text: its canonical text, or `! ` and why it has none, ended by a line feed
abbrev pub IsOwedLine : List EntryParts → (text line : List ℕ) → Type 0
IsOwedLine R text line = AnswersText R text line ⊎ RefusesText R text line

-- the lines that are owed for lines, in order; a carriage return that ends a line is no part of its text
abbrev pub AreOwedLines : List EntryParts → (lines owed : List (List ℕ)) → Type 0
AreOwedLines R [] owed = owed ≡ []
AreOwedLines R (line ∷ lines) [] = ⊥
AreOwedLines R (line ∷ lines) (answer ∷ owed) = IsOwedLine R (content_of line) answer × AreOwedLines R lines owed

-- `written` is what is owed for these lines
pub record Owes (R : List EntryParts) (lines : List (List ℕ)) (written : List ℕ) : Type 0 where
  pub owed : List (List ℕ)
  pub each : AreOwedLines R lines owed
  pub all : written ≡ concat owed

-- `written` is what is owed for the lines of the bytes, and the counts are the number of lines that were written, and of
-- those that begin with `! `
pub record OwesAll (R : List EntryParts) (bytes written : List ℕ) (counts : Counts) : Type 0 where
  pub owes : Owes R (lines_of bytes) written
  pub lines : counts.lines ≡ length owes.owed
  pub refused : counts.refused ≡ count_by is_refusal owes.owed

-- `written` is what is owed for the lines of the bytes up to and with the last line feed
pub record OwesToLastFeed (R : List EntryParts) (bytes written : List ℕ) : Type 0 where
  pub lines : List (List ℕ)
  pub last : List ℕ
  pub cut : bytes ≡ ended lines ++ last
  pub each_one : AllByRecursion IsOneLine lines
  pub last_one : IsOneLine last
  pub owes : Owes R lines written

-- `written` is a front, that is, the first bytes, of `all`, which is owed for some first lines of the bytes
pub record OwesFront (R : List EntryParts) (bytes written : List ℕ) : Type 0 where
  pub lines : List (List ℕ)
  pub others : List (List ℕ)
  pub cut : lines_of bytes ≡ lines ++ others
  pub all : List ℕ
  pub owes : Owes R lines all
  pub front : Begins written all

-- how a run ended that read the bytes `read` in `reads` reads: with its counts, or by one of these four faults and no
-- other, and how much of what is owed was written
abbrev pub EndsTags : {I O : Type 0} → List EntryParts → (I → Option (List ℕ)) → (input input' : Device I)
    → (output output' : Device O) → ℕ → (read written : List ℕ) → Result Counts ToolFault → Type 0
EndsTags R remaining input input' output output' reads read written (Ok counts) =
    IsAtEnd (remaining (inner_of input')) × OwesAll R read written counts
EndsTags R remaining input input' output output' reads read written (Err faults.Read) =
    HasFailed input input' × OwesToLastFeed R read written
EndsTags R remaining input input' output output' reads read written (Err faults.TooManyTurns) =
    (reads ≡ most_reads) × (0 < last_given_of input') × OwesToLastFeed R read written
EndsTags R remaining input input' output output' reads read written (Err faults.Write) =
    HasFailed output output' × OwesFront R read written
EndsTags R remaining input input' output output' reads read written (Err faults.OutOfMemory) = OwesFront R read written
EndsTags R remaining input input' output output' reads read written (Err fault) = ⊥

-- A run over the lines of a reader, each a tag: it read `read` in at most `most_reads` reads, and wrote `written` and nothing
-- else. `remaining` gives the bytes that a reader has left, and `contents` those that an output was given.
pub record RunsTags {I O : Type 0} (R : List EntryParts) (remaining : I → Option (List ℕ))
    (contents : O → Option (List ℕ)) (input input' : Device I) (output output' : Device O)
    (result : Result Counts ToolFault) : Type 0 where
  pub read : List ℕ
  pub written : List ℕ
  pub reads : ℕ
  pub consumes : Consumes (remaining (inner_of input)) (remaining (inner_of input')) read
  pub appends : Appends (contents (inner_of output)) (contents (inner_of output')) written
  pub calls : HasRead input input' reads
  pub bounded : reads ≤ most_reads
  pub ends : EndsTags R remaining input input' output output' reads read written result
  pub read_rises : failures_of input < failures_of input' → result ≡ Err faults.Read
  pub write_rises : failures_of output < failures_of output' → result ≡ Err faults.Write
