-- What a run over the lines of a reader reads and writes, and how it ends.
use Rattle.std.specs.Prelude.{◌≡◌, ◌<◌, ◌≤◌, ◌+◌, ◌^◌, ◌++◌, ◌∷◌, ℕ, List, [], length, take, Option, Result, Ok, Err}
use Rattle.std.specs.List.{AllByRecursion}
use Rattle.std.specs.Io.KnownBytes.{Appends, Consumes, IsAtEnd}
use Rattle.lt_jar.specs.Devices.{HasFailed, failures_of, inner_of, last_given_of}
use Rattle.lt_jar.specs.Lines.{IsOneLine, lines_of, whole_lines}
use Rattle.lt_jar.specs.Sources.{most_reads}
use Rattle.lt_jar.specs.declared.devices.Device.{Device}
use Rattle.lt_stream.specs.Running.{HasRead}
use Rattle.lt_stream.specs.declared.faults.ToolFault.{ToolFault}
use Rattle.lt_stream.specs.declared.faults.ToolFault.TheVariants as faults

-- a statement on what answers lines: that it has answered these lines, by these bytes in all
abbrev pub Answered : Type 0 → Type 1
Answered A = A → List (List ℕ) → List ℕ → Type 0

-- What answers lines, `answers` now and `first` at the beginning, has answered so few lines that 64 bits count them
-- with one line more.
pub record HasLine {A : Type 0} (Q : A → Answered A) (answers : A) : Type 0 where
  pub first : A
  pub lines : List (List ℕ)
  pub bytes : List ℕ
  pub answered : Q first answers lines bytes
  pub few : length lines + 1 < 2 ^ 64

-- The bytes `part` were appended. They answer each line whose first bytes, at most `longest`, are `front`, whatever
-- lines were answered before. `owed` and `owed'` are the answers that wait before and after, `old` and `new` is what
-- answers, before and after.
pub record TakesLine {A : Type 0} (Q : A → Answered A) (longest : ℕ) (front owed owed' : List ℕ)
    (old new : A) : Type 0 where
  pub part : List ℕ
  pub grown : owed' ≡ owed ++ part
  pub taken : (line : List ℕ) → IsOneLine line → front ≡ take longest line
      → (first : A) (lines : List (List ℕ)) (bytes : List ℕ) → Q first old lines bytes
      → Q first new (lines ++ line ∷ []) (bytes ++ part)

-- what was written answers the lines of the bytes up to the last line feed (10), and `last`, which none ends, is not
-- answered yet; `answers` is the state of what answers them
pub record IsAnsweredToLastFeed {A : Type 0} (Q : Answered A) (bytes written : List ℕ) (answers : A) : Type 0 where
  pub lines : List (List ℕ)
  pub last : List ℕ
  pub cut : bytes ≡ whole_lines lines ++ last
  pub each_one : AllByRecursion IsOneLine lines
  pub last_one : IsOneLine last
  pub answered : Q answers lines written

-- what was written is a front of the bytes `all`, that is, the first of them, perhaps none or all; and `all` answer
-- some first lines, `lines`, of the bytes that were read
pub record IsBegun {A : Type 0} (Q : Answered A) (bytes written : List ℕ) : Type 0 where
  pub lines : List (List ℕ)
  pub others : List (List ℕ)
  pub cut : lines_of bytes ≡ lines ++ others
  pub answers : A
  pub all : List ℕ
  pub answered : Q answers lines all
  pub rest : List ℕ
  pub front : all ≡ written ++ rest

-- the device was read to its end, and the answers to all lines of the text were written
pub record IsDone {I A : Type 0} (Q : Answered A) (remaining : I → Option (List ℕ)) (input' : Device I)
    (text written : List ℕ) (answers : A) : Type 0 where
  pub end : IsAtEnd (remaining (inner_of input'))
  pub answered : Q answers (lines_of text) written

-- a read failed, and the lines of the text up to its last line feed (10) are answered
pub record IsStoppedByRead {I A : Type 0} (Q : Answered A) (input input' : Device I) (text written : List ℕ)
    (answers : A) : Type 0 where
  pub failed : HasFailed input input'
  pub owed : IsAnsweredToLastFeed Q text written answers

-- the most reads that a run may make were made, they gave at least as many bytes, the last gave some, and the lines of
-- the text up to its last line feed (10) are answered
pub record IsStoppedByTurns {I A : Type 0} (Q : Answered A) (input' : Device I) (reads : ℕ)
    (read text written : List ℕ) (answers : A) : Type 0 where
  pub all_made : reads ≡ most_reads
  pub gave_bytes : most_reads ≤ length read
  pub last_gave : 0 < last_given_of input'
  pub owed : IsAnsweredToLastFeed Q text written answers

-- How the run ended, by its result: done, or with the fault Read, TooManyTurns, Write or OutOfMemory, and no other. It
-- made so many `reads`, which gave the bytes `read`, and `text` are the bytes of these that are cut into lines. Of an
-- end by Write only the failure of the output is said, and of an end by OutOfMemory nothing. Names with ' are of the
-- devices after the run.
abbrev pub EndsAs : {I O A : Type 0} → Answered A → (I → Option (List ℕ)) → (input input' : Device I)
    → (output output' : Device O) → ℕ → (read text written : List ℕ) → A → Result (Unit {0}) ToolFault → Type 0
EndsAs Q remaining input input' output output' reads read text written answers (Ok _) =
    IsDone Q remaining input' text written answers
EndsAs Q remaining input input' output output' reads read text written answers (Err faults.Read) =
    IsStoppedByRead Q input input' text written answers
EndsAs Q remaining input input' output output' reads read text written answers (Err faults.TooManyTurns) =
    IsStoppedByTurns Q input' reads read text written answers
EndsAs Q remaining input input' output output' reads read text written answers (Err faults.Write) =
    HasFailed output output'
EndsAs Q remaining input input' output output' reads read text written answers (Err faults.OutOfMemory) = Unit {0}
EndsAs Q remaining input input' output output' reads read text written answers (Err _) = ⊥

-- A run that answers the lines of a reader. It made so many `reads`, at most 10,000,000, which gave the bytes `read`.
-- Whatever ended it, the bytes `written` are a front of the answers (`begun`). If the count of failures of the input or
-- the output rises, the result says so (`read_rises`, `write_rises`). Names with ' are of the devices after the run;
-- `remaining` tells what a reader has still to give, `contents` what a writer has taken.
pub record RunsOverLines {I O A : Type 0} (Q : Answered A) (remaining : I → Option (List ℕ))
    (contents : O → Option (List ℕ)) (input input' : Device I) (output output' : Device O) (answers : A)
    (result : Result (Unit {0}) ToolFault) : Type 0 where
  pub read : List ℕ
  pub written : List ℕ
  pub reads : ℕ
  pub consumes : Consumes (remaining (inner_of input)) (remaining (inner_of input')) read
  pub appends : Appends (contents (inner_of output)) (contents (inner_of output')) written
  pub begun : IsBegun Q read written
  pub calls : HasRead input input' reads
  pub bounded : reads ≤ most_reads
  pub ends : EndsAs Q remaining input input' output output' reads read read written answers result
  pub read_rises : failures_of input < failures_of input' → result ≡ Err faults.Read
  pub write_rises : failures_of output < failures_of output' → result ≡ Err faults.Write
