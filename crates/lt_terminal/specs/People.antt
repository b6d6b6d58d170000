-- A run of the program for a person, who may be told after it what it came to.
use Rattle.std.specs.Prelude.{◌≡◌, ◌||◌, ℕ, Bool, false, List, Option, Result, Ok, Err}
use Rattle.std.specs.declared.io.Error.{Error}
use Rattle.lt_words.specs.Reading.{has_summary}
use Rattle.lt_words.specs.declared.commands.Command.{Command}
use Rattle.lt_words.specs.declared.faults.WordsFault.{WordsFault}
use Rattle.lt_tool.specs.Codes.{code_of}
use Rattle.lt_tool.specs.Ends.{status_at}
use Rattle.lt_tool.specs.Program.{Reports, RunsProgram}
use Rattle.lt_tool.specs.Streams.{IsUntouched, Stream}
use Rattle.lt_tool.specs.declared.outcomes.Outcome.{Outcome}

-- whether a person is told of the run of a command: at a terminal, or if the command line asks for a summary
abbrev pub is_told : (at_terminal : Bool) → Command → Bool
is_told at_terminal command = at_terminal || has_summary command

-- whether a person is told of a run with these words; nobody is told if the words name no command
abbrev pub is_asked : (at_terminal : Bool) → Result Command WordsFault → Bool
is_asked at_terminal (Ok command) = is_told at_terminal command
is_asked at_terminal (Err fault) = false

-- The command that the words name was run; or they name none, nothing was opened or read, and the run says why. `calls`
-- relates the opener's state, a path, its answer and its next state; its state was `before` and is `after`.
abbrev pub ComesTo : {P F I O E : Type 0} → (P → List ℕ → Result F Error → P → Type 0) → (F → Option (List ℕ))
    → Result Command WordsFault → (registry : List ℕ) → (before after : P) → Stream I → Stream O → Stream E → Outcome
    → Type 0
ComesTo calls bytes (Ok command) registry before after input output errors outcome =
    RunsProgram calls bytes command registry before after input output errors outcome
ComesTo calls bytes (Err fault) registry before after input output errors outcome =
    (after ≡ before) × IsUntouched input × Reports fault output errors outcome

-- a run of the program by its words, and its exit status; `registry` is the path of the file that `@` means, and
-- `calls` and `bytes` say what the opener does and which bytes a file has
pub record RunsWords {P F I O E : Type 0} (calls : P → List ℕ → Result F Error → P → Type 0)
    (bytes : F → Option (List ℕ)) (words : Result Command WordsFault) (registry : List ℕ) (before after : P)
    (input : Stream I) (output : Stream O) (errors : Stream E) (status : ℕ) : Type 0 where
  pub outcome : Outcome
  pub comes_to : ComesTo calls bytes words registry before after input output errors outcome
  pub status_is : status ≡ code_of (status_at outcome.end)
