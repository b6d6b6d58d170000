-- What a run over the lines of a text reads and writes, and how it ends, where a byte order mark may stand before them.
use Rattle.std.specs.Prelude.{◌≡◌, ◌<◌, ◌≤◌, ◌⊎◌, ℕ, List, [], Option, Result, Err}
use Rattle.std.specs.Io.KnownBytes.{Appends, Consumes}
use Rattle.lt_jar.specs.Devices.{failures_of, inner_of}
use Rattle.lt_jar.specs.Sources.{most_reads}
use Rattle.lt_jar.specs.declared.devices.Device.{Device}
use Rattle.lt_rows.specs.Marks.{IsWide, SplitsMark}
use Rattle.lt_stream.specs.Lines.{Answered, EndsAs, IsBegun}
use Rattle.lt_stream.specs.Running.{HasRead}
use Rattle.lt_stream.specs.declared.faults.ToolFault.{ToolFault}
use Rattle.lt_stream.specs.declared.faults.ToolFault.TheVariants as faults

-- the first bytes are refused: they begin with a byte order mark of UTF-16, or memory ran out
abbrev pub IsRefusedFront : List ℕ → ToolFault → Type 0
IsRefusedFront bytes fault = ((fault ≡ faults.Utf16) × IsWide bytes) ⊎ (fault ≡ faults.OutOfMemory)

-- How the run ended. Its `reads` gave the bytes `read`, of which `text` follows the mark. It ended as a run over the
-- lines of `text` does, or by a mark of UTF-16 (Utf16), and then nothing was written.
abbrev pub EndsAfterMark : {I O A : Type 0} → Answered A → (I → Option (List ℕ)) → (input input' : Device I)
    → (output output' : Device O) → ℕ → (read text written : List ℕ) → A → Result (Unit {0}) ToolFault → Type 0
EndsAfterMark Q remaining input input' output output' reads read text written answers (Err faults.Utf16) =
    IsWide read × (written ≡ [])
EndsAfterMark Q remaining input input' output output' reads read text written answers result =
    EndsAs Q remaining input input' output output' reads read text written answers result

-- A run that answers the lines of a text. Its `reads`, at most 10,000,000, gave the bytes `read`. A byte order mark of
-- UTF-8 at their beginning is no part of the text, and bytes that begin with one of UTF-16 are refused (`narrow`).
-- Whatever ended the run, the bytes `written` are a front of the answers (`begun`). If the count of failures of the
-- input or the output rises, the result says so (`read_rises`, `write_rises`). Names with ' are of the devices after
-- the run; `remaining` tells what a reader has still to give, `contents` what a writer has taken.
pub record RunsOverText {I O A : Type 0} (Q : Answered A) (remaining : I → Option (List ℕ))
    (contents : O → Option (List ℕ)) (input input' : Device I) (output output' : Device O) (answers : A)
    (result : Result (Unit {0}) ToolFault) : Type 0 where
  pub read : List ℕ
  pub mark : List ℕ
  pub text : List ℕ
  pub split : SplitsMark read mark text
  pub narrow : IsWide read → (result ≡ Err faults.Utf16) ⊎ (result ≡ Err faults.OutOfMemory)
  pub written : List ℕ
  pub reads : ℕ
  pub consumes : Consumes (remaining (inner_of input)) (remaining (inner_of input')) read
  pub appends : Appends (contents (inner_of output)) (contents (inner_of output')) written
  pub begun : IsBegun Q text written
  pub calls : HasRead input input' reads
  pub bounded : reads ≤ most_reads
  pub ends : EndsAfterMark Q remaining input input' output output' reads read text written answers result
  pub read_rises : failures_of input < failures_of input' → result ≡ Err faults.Read
  pub write_rises : failures_of output < failures_of output' → result ≡ Err faults.Write
