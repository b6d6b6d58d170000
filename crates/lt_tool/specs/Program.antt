-- A whole run of the program, from its command to what it came to. The opener is the function that opens files. `calls`
-- relates its state, a path, its answer and its next state; `before`, `between` and `after` are such states, unless
-- something else is said of them. `registry` is the path that `@` means, and `taken` says that the command reads the
-- standard input as its lines.
use Rattle.std.specs.Prelude.{◌≡◌, ◌≢◌, ◌⊎◌, ℕ, Bool, true, false, List, [], Option, Some, None, String, Vec}
use Rattle.std.specs.Prelude.{Result, Ok, Err, IfErr, IfOk, length, codes, string_bytes}
use Rattle.std.specs.IoError.{error_kind}
use Rattle.std.specs.Io.KnownBytes.{ReadConsumes}
use Rattle.std.specs.declared.alloc.Global.{Global}
use Rattle.std.specs.declared.io.Error.{Error}
use Rattle.std.specs.declared.io.ErrorKind.{ErrorKind}
use Rattle.std.specs.declared.io.ErrorKind.TheVariants as kinds
use Rattle.lt_jar.specs.Devices.{HasFailed, failures_of, inner_of, one_more, reads_of}
use Rattle.lt_jar.specs.declared.devices.Device.{Device}
use Rattle.lt_stream.specs.declared.faults.ToolFault.TheVariants as tool_faults
use Rattle.lt_words.specs.Reading.{first_file_of, reads_input_of, second_file_of}
use Rattle.lt_words.specs.declared.commands.Command.{Command}
use Rattle.lt_words.specs.declared.faults.WordsFault.{WordsFault}
use Rattle.lt_words.specs.declared.faults.WordsFault.TheVariants as words
use Rattle.lt_tool.specs.Ends.{End, Finishes}
use Rattle.lt_tool.specs.Performed.{Performs}
use Rattle.lt_tool.specs.Results.{Then, no_memory}
use Rattle.lt_tool.specs.Streams.{IsUntouched, Stream, stream}
use Rattle.lt_tool.specs.declared.answers.Answer.TheVariants as answers
use Rattle.lt_tool.specs.declared.faults.Fault.{Fault}
use Rattle.lt_tool.specs.declared.faults.Fault.TheVariants as faults
use Rattle.lt_tool.specs.declared.outcomes.Outcome.{Outcome}
use Rattle.lt_tool.specs.declared.streams.Files.{Files}
use Rattle.lt_tool.specs.declared.streams.Source.{Source}
use Rattle.lt_tool.specs.declared.streams.Source.TheVariants as sources

-- the path of the file that a name on the command line means: `@` is the file with the path `registry`, and `-` is the
-- standard input, unless the command reads that as its lines (`taken`)
abbrev pub IsPath : (taken : Bool) → (registry name path : List ℕ) → Type 0
IsPath taken registry name path =
    ((name ≡ codes "@") × (path ≡ registry))
    ⊎ ((taken ≡ false) × (name ≡ codes "-") × (path ≡ codes "/dev/stdin"))
    ⊎ ((name ≢ codes "@") × ((taken ≡ true) ⊎ (name ≢ codes "-")) × (path ≡ name))

-- the fault of a file that can't be opened, by the kind of the error: that memory ran out, or a `File` fault
abbrev pub IsFileFault : ErrorKind → Fault → Type 0
IsFileFault kinds.OutOfMemory fault = fault ≡ no_memory
IsFileFault kind fault = (told : Option (String Global)) × (fault ≡ faults.File told)

-- what the answer of an opener gives: its file, or the fault of a file that can't be opened
abbrev pub IsOpened : {F : Type 0} → Result F Error → Result (Source F) Fault → Type 0
IsOpened (Ok file) result = result ≡ Ok (sources.File file)
IsOpened (Err error) result = (fault : Fault) × IsFileFault (error_kind error) fault × (result ≡ Err fault)

-- the opener was called once, with the path of the file that a name means, and `result` is what its answer gives
pub record OpensNamed {P F : Type 0} (calls : P → List ℕ → Result F Error → P → Type 0) (before after : P)
    (taken : Bool) (registry name : List ℕ) (result : Result (Source F) Fault) : Type 0 where
  pub path : List ℕ
  pub is_path : IsPath taken registry name path
  pub answer : Result F Error
  pub called : calls before path answer after
  pub is_opened : IsOpened answer result

-- the file of a name is opened, if there is a name; if not, the opener is not called, and the source is empty
abbrev pub OpensFile : {P F : Type 0} → (P → List ℕ → Result F Error → P → Type 0) → (before after : P)
    → (taken : Bool) → (registry : List ℕ) → Option (List ℕ) → Result (Source F) Fault → Type 0
OpensFile calls before after taken registry None result = (after ≡ before) × (result ≡ Ok sources.Empty)
OpensFile calls before after taken registry (Some name) result =
    OpensNamed calls before after taken registry name result

-- a device around `inner` that counts no reads and no failures so far
pub record IsNew {T : Type 0} (inner : T) (device : Device T) : Type 0 where
  pub holds : inner_of device ≡ inner
  pub failures : failures_of device ≡ 0
  pub reads : reads_of device ≡ 0

-- the files are open, and nothing was read from them
pub record AreOpen {F : Type 0} (first second : Source F) (files : Files F) : Type 0 where
  pub is_first : IsNew first files.first
  pub is_second : IsNew second files.second

-- after the first file was opened, which is `first`, the second one was to be opened, from the opener's state `between`
-- to `after`: both files are open and unread, or the second can't be opened
abbrev pub OpensSecond : {P F : Type 0} → (P → List ℕ → Result F Error → P → Type 0) → Command → (registry : List ℕ)
    → (between after : P) → (first : Source F) → Result (Files F) Fault → Type 0
OpensSecond calls command registry between after first (Ok files) = (second : Source _)
    × OpensFile calls between after (reads_input_of command) registry (second_file_of command) (Ok second)
    × AreOpen first second files
OpensSecond calls command registry between after first (Err fault) =
    OpensFile calls between after (reads_input_of command) registry (second_file_of command) (Err fault)

-- the files that a command names were opened, the second one only if the first could be; the opener's state is
-- `between` after the first
abbrev pub OpensFiles : {P F : Type 0} → (P → List ℕ → Result F Error → P → Type 0) → Command → (registry : List ℕ)
    → (before after : P) → Result (Files F) Fault → Type 0
OpensFiles {P} {F} calls command registry before after result =
    ((between : P) × (first : Source F)
    × OpensFile calls before between (reads_input_of command) registry (first_file_of command) (Ok first)
    × OpensSecond calls command registry between after first result)
    ⊎ ((fault : Fault)
    × OpensFile calls before after (reads_input_of command) registry (first_file_of command) (Err fault)
    × (result ≡ Err fault))

-- the input was read once, into a buffer of no bytes, with this answer, and it counts a failure if the answer is an
-- error
pub record Asks {I : Type 0} (input : Stream I) (answer : Result ℕ Error) : Type 0 where
  pub buffer : List ℕ
  pub empty : length buffer ≡ 0
  pub consumes : ReadConsumes (input.bytes (inner_of input.before)) (input.bytes (inner_of input.after)) answer buffer
  pub called : reads_of input.after ≡ one_more (reads_of input.before)
  pub failed : IfErr answer (λ _. HasFailed input.before input.after)
  pub worked : IfOk answer (λ _. failures_of input.after ≡ failures_of input.before)

-- what the answer of that read says of the run: it goes on, or it ends with the fault `Read`
abbrev pub asked : Result ℕ Error → Result (Unit {0}) Fault
asked (Ok n) = Ok tt
asked (Err error) = Err (faults.Run tool_faults.Read)

-- the input was read into an empty buffer, if the command reads it; if not, it is untouched
abbrev pub AsksIf : {I : Type 0} → (reads : Bool) → Stream I → Result (Unit {0}) Fault → Type 0
AsksIf false input result = IsUntouched input × (result ≡ Ok tt)
AsksIf true input result = (answer : Result ℕ Error) × Asks input answer × (result ≡ asked answer)

-- what is done before a command is performed: if it reads the input, that is read into an empty buffer, to see whether
-- it can be read; if it can, the files are opened, and else the opener is not called
pub record Prepares {P F I : Type 0} (calls : P → List ℕ → Result F Error → P → Type 0) (command : Command)
    (registry : List ℕ) (before after : P) (input : Stream I) (result : Result (Files F) Fault) : Type 0 where
  pub asks : Result (Unit {0}) Fault
  pub is_asked : AsksIf (reads_input_of command) input asks
  pub unopened : IfErr asks (λ fault. after ≡ before)
  pub goes_on : Then (λ done result. OpensFiles calls command registry before after result) asks result

-- the command was performed on its files; or they could not be had, and the run ends with that fault and reads no input
abbrev pub GoesOnTo : {F I O E : Type 0} → (F → Option (List ℕ)) → Command → Stream I → Stream O → Stream E
    → Outcome → Result (Files F) Fault → Type 0
GoesOnTo {F} bytes command input output errors outcome (Ok files) =
    (files' : Files F) × Performs bytes command files files' input output errors outcome
GoesOnTo bytes command input output errors outcome (Err fault) =
    IsUntouched input × (outcome.tallies ≡ []) × Finishes (Err fault) output errors outcome.end

-- A run of the program: which files it opened, what it read and wrote, and what it came to. The input is `between` once
-- the files are opened, and before the command is performed. `bytes` gives the bytes of a file, where they are known.
pub record RunsProgram {P F I O E : Type 0} (calls : P → List ℕ → Result F Error → P → Type 0)
    (bytes : F → Option (List ℕ)) (command : Command) (registry : List ℕ) (before after : P) (input : Stream I)
    (output : Stream O) (errors : Stream E) (outcome : Outcome) : Type 0 where
  pub files : Result (Files F) Fault
  pub between : Device I
  pub prepares : Prepares calls command registry before after (stream input.bytes input.before between) files
  pub goes_on : GoesOnTo bytes command (stream input.bytes between input.after) output errors outcome files

-- what a run comes to if its words name no command: help and the version are answers, wrong usage and lack of memory
-- are faults
abbrev pub EndsWords : WordsFault → End → Type 0
EndsWords (words.Help text) end = (line : Vec ℕ Global) × (line.items ≡ string_bytes text) × (end ≡ Ok (answers.Text line))
EndsWords (words.Version text) end =
    (line : Vec ℕ Global) × (line.items ≡ string_bytes text) × (end ≡ Ok (answers.Text line))
EndsWords (words.Usage text) end = end ≡ Err (faults.Usage text)
EndsWords words.OutOfMemory end = end ≡ Err no_memory

-- what a run wrote if its words name no command, and what it came to (`outcome`); it has no tallies
pub record Reports {O E : Type 0} (fault : WordsFault) (output : Stream O) (errors : Stream E)
    (outcome : Outcome) : Type 0 where
  pub end : End
  pub is_end : EndsWords fault end
  pub tallies : outcome.tallies ≡ []
  pub finishes : Finishes end output errors outcome.end
