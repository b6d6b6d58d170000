-- What the standard output or the standard error (`errors`) of a run got when a text was written to it. A front of a
-- text is its first bytes, from none to all. A device counts its failures, and has failed if that count rose.
use Rattle.std.specs.Prelude.{◌≡◌, ◌⊎◌, ◌++◌, ℕ, List, Result, Err, IfErr, IfOk}
use Rattle.std.specs.Io.KnownBytes.{Appends}
use Rattle.lt_jar.specs.Devices.{HasFailed, failures_of, inner_of}
use Rattle.lt_canon.specs.ExplanationTexts.{AreLinesLeft, StepsLeft}
use Rattle.lt_lines.specs.Answering.{IsStop}
use Rattle.lt_stream.specs.DeviceOutput.{IsFrontOf, WritesText}
use Rattle.lt_stream.specs.declared.faults.ToolFault.{ToolFault}
use Rattle.lt_stream.specs.declared.faults.ToolFault.TheVariants as faults
use Rattle.lt_tool.specs.Streams.{IsUntouched, Stream}

-- the standard error got the text and nothing else, or a front of it if a write failed
pub record Says {E : Type 0} (errors : Stream E) (text : List ℕ) : Type 0 where
  pub written : List ℕ
  pub appends : Appends (errors.bytes (inner_of errors.before)) (errors.bytes (inner_of errors.after)) written
  pub front : IsFrontOf written text
  pub all : ((written ≡ text) × (failures_of errors.after ≡ failures_of errors.before))
      ⊎ HasFailed errors.before errors.after

-- a text was written to the output; or a write failed or memory ran out, and a front of it was
pub record WritesAll {O : Type 0} (output : Stream O) (text : List ℕ) (result : Result (Unit {0}) ToolFault) : Type 0 where
  pub written : List ℕ
  pub appends : Appends (output.bytes (inner_of output.before)) (output.bytes (inner_of output.after)) written
  pub front : IsFrontOf written text
  pub done : IfOk result (λ _. (written ≡ text) × (failures_of output.after ≡ failures_of output.before))
  pub stopped : IfErr result (IsStop output.before output.after)

-- the bytes `head`, the lines of `left`, the rest of an explanation, and the bytes `tail` were written to the output; or
-- a write failed or memory ran out, and a front of them was
abbrev pub WritesLines : {O : Type 0} → (head : List ℕ) → StepsLeft → (tail : List ℕ) → Stream O
    → Result (Unit {0}) ToolFault → Type 0
WritesLines head left tail output result =
    (lines : List ℕ) × AreLinesLeft left lines × WritesAll output (head ++ (lines ++ tail)) result

-- a line of which `IsLine` is true was printed, or a front of it where a write failed; or memory ran out before that
abbrev pub Prints : {O : Type 0} → (List ℕ → Type 0) → Stream O → Result (Unit {0}) ToolFault → Type 0
Prints IsLine output printed =
    ((printed ≡ Err faults.OutOfMemory) × IsUntouched output)
    ⊎ ((line : List ℕ) × IsLine line × WritesText output.bytes line output.before output.after printed)
