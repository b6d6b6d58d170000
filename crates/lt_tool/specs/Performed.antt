-- What a command does with its files and the standard streams, and what it comes to. The files are `files` before that
-- and `files'` after it; `between` is a device as it stands between two parts of the run; `before` and `after` are the
-- tallies, which say how many lines were refused for each fault.
use Rattle.std.specs.Prelude.{◌≡◌, ℕ, List, [], Option, Result, Ok, Err}
use Rattle.lt_jar.specs.declared.devices.Device.{Device}
use Rattle.lt_stream.specs.declared.tallies.Tally.{Tally}
use Rattle.lt_words.specs.declared.commands.Command.{Command}
use Rattle.lt_tool.specs.Codes.{code_of}
use Rattle.lt_tool.specs.Ends.{End, Finishes, status_at}
use Rattle.lt_tool.specs.Plans.{Plans}
use Rattle.lt_tool.specs.Runs.{Runs}
use Rattle.lt_tool.specs.Streams.{IsUntouched, Stream, stream}
use Rattle.lt_tool.specs.declared.faults.Fault.{Fault}
use Rattle.lt_tool.specs.declared.outcomes.Outcome.{Outcome}
use Rattle.lt_tool.specs.declared.plans.Plan.{Plan}
use Rattle.lt_tool.specs.declared.streams.Files.{Files}

-- the plan was run; or there is none, and the run comes to that fault with nothing more read or written
abbrev pub RunsPlanned : {I O : Type 0} → Result Plan Fault → Stream I → Stream O → (before after : List Tally)
    → End → Type 0
RunsPlanned (Ok plan) input output before after end = Runs plan input output before after end
RunsPlanned (Err fault) input output before after end =
    IsUntouched input × IsUntouched output × (after ≡ before) × (end ≡ Err fault)

-- The files were read and judged, which gave the plan `planned` or a fault, and the plan was then run. The answer is
-- not printed yet. `bytes` gives the bytes of a file, where they are known.
pub record Answers {F I O : Type 0} (bytes : F → Option (List ℕ)) (command : Command) (files files' : Files F)
    (input : Stream I) (output : Stream O) (before after : List Tally) (end : End) : Type 0 where
  pub planned : Result Plan Fault
  pub between : Device I
  pub plans : Plans bytes command files files' (stream input.bytes input.before between) planned
  pub runs : RunsPlanned planned (stream input.bytes between input.after) output before after end

-- the command was performed, with no tallies at first, and what it came to (`end`) was printed or told
pub record Performs {F I O E : Type 0} (bytes : F → Option (List ℕ)) (command : Command) (files files' : Files F)
    (input : Stream I) (output : Stream O) (errors : Stream E) (outcome : Outcome) : Type 0 where
  pub end : End
  pub between : Device O
  pub answers : Answers bytes command files files' input (stream output.bytes output.before between) []
      outcome.tallies end
  pub finishes : Finishes end (stream output.bytes between output.after) errors outcome.end

-- the command was performed, with this exit status
pub record PerformsTo {F I O E : Type 0} (bytes : F → Option (List ℕ)) (command : Command) (files files' : Files F)
    (input : Stream I) (output : Stream O) (errors : Stream E) (status : ℕ) : Type 0 where
  pub outcome : Outcome
  pub performs : Performs bytes command files files' input output errors outcome
  pub status_is : status ≡ code_of (status_at outcome.end)
