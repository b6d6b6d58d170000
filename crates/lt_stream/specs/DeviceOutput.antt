-- What a call writes to a device: a text, or a front of it if the device fails.
use Rattle.std.specs.Prelude.{◌≡◌, ◌++◌, ℕ, List, Option, Result, IfErr, IfOk}
use Rattle.std.specs.Io.KnownBytes.{Appends}
use Rattle.lt_jar.specs.Devices.{HasFailed, failures_of, inner_of}
use Rattle.lt_jar.specs.declared.devices.Device.{Device}
use Rattle.lt_stream.specs.declared.faults.ToolFault.{ToolFault}
use Rattle.lt_stream.specs.declared.faults.ToolFault.TheVariants as faults

-- `written` is a front of the text: its first bytes, perhaps none or all of them
abbrev pub IsFrontOf : List ℕ → List ℕ → Type 0
IsFrontOf written text = (rest : List ℕ) × (text ≡ written ++ rest)

-- The whole text was written and no write failed (`done`), or a write failed, the result is the fault Write
-- (`stopped`), and `written`, a front of the text, was written. `before` and `after` are the device. `contents` tells
-- what the writer in the device has taken, where that is known.
pub record WritesText {W : Type 0} (contents : W → Option (List ℕ)) (text : List ℕ) (before after : Device W)
    (result : Result (Unit {0}) ToolFault) : Type 0 where
  pub written : List ℕ
  pub appends : Appends (contents (inner_of before)) (contents (inner_of after)) written
  pub front : IsFrontOf written text
  pub done : IfOk result (λ _. (written ≡ text) × (failures_of after ≡ failures_of before))
  pub stopped : IfErr result (λ f. (f ≡ faults.Write) × HasFailed before after)
