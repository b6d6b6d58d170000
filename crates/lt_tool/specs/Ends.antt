-- How a run ends: what is printed on the standard output, and what is told on the standard error, which is `errors`.
use Rattle.std.specs.Prelude.{◌≡◌, [], ◌∷◌, ◌++◌, Result, Ok, Err, codes, string_bytes}
use Rattle.lt_stream.specs.DeviceOutput.{WritesText}
use Rattle.lt_stream.specs.Faults.{fault_said}
use Rattle.lt_stream.specs.declared.faults.ToolFault.{ToolFault}
use Rattle.lt_tool.specs.Answers as of_answers
use Rattle.lt_tool.specs.Faults as of_faults
use Rattle.lt_tool.specs.Faults.{IsFaultLine}
use Rattle.lt_tool.specs.Streams.{IsUntouched, Stream}
use Rattle.lt_tool.specs.Written.{Prints, Says}
use Rattle.lt_tool.specs.declared.answers.Answer.{Answer}
use Rattle.lt_tool.specs.declared.faults.Fault.{Fault}
use Rattle.lt_tool.specs.declared.faults.Fault.TheVariants as faults
use Rattle.lt_tool.specs.declared.status.Status.{Status}

-- what a run came to: an answer, or what was refused or failed
abbrev pub End : Type 0
End = Result Answer Fault

-- the status of a run that came to this
abbrev pub status_at : End → Status
status_at (Ok answer) = of_answers.status_of answer
status_at (Err fault) = of_faults.status_of fault

-- what a run came to was printed, its answer or the line of its fault; `printed` is the fault if a write failed or
-- memory ran out for the line
abbrev pub PrintsEnd : {O : Type 0} → End → Stream O → Result (Unit {0}) ToolFault → Type 0
PrintsEnd (Ok answer) output printed =
    WritesText output.bytes (of_answers.line_of answer) output.before output.after printed
PrintsEnd (Err fault) output printed = Prints (IsFaultLine fault) output printed

-- what a run comes to once its end was to be printed: that end, or the fault of printing if that failed
abbrev pub end_after : End → (printed : Result (Unit {0}) ToolFault) → End
end_after end (Ok done) = end
end_after end (Err fault) = Err (faults.Run fault)

-- the standard error was told what failed, or how the words are wrong; nothing was written to it for a fault whose line
-- is printed
abbrev pub SaysFault : {E : Type 0} → Fault → Stream E → Type 0
SaysFault (faults.Usage text) errors = Says errors (string_bytes text)
SaysFault (faults.File told) errors = Says errors (codes "! File" ++ 10 ∷ [])
SaysFault (faults.Run fault) errors = Says errors (fault_said fault)
SaysFault fault errors = IsUntouched errors

-- the standard error was told what a run came to, if it failed or its words are wrong; else nothing was written to it
abbrev pub SaysEnd : {E : Type 0} → End → Stream E → Type 0
SaysEnd (Ok answer) errors = IsUntouched errors
SaysEnd (Err fault) errors = SaysFault fault errors

-- The end of a run was printed and told. The run came to `end` before that was printed, and to `last` after it: they
-- differ only if printing failed. It is `last` that the standard error is told.
pub record Finishes {O E : Type 0} (end : End) (output : Stream O) (errors : Stream E) (last : End) : Type 0 where
  pub printed : Result (Unit {0}) ToolFault
  pub prints : PrintsEnd end output printed
  pub after : last ≡ end_after end printed
  pub says : SaysEnd last errors
