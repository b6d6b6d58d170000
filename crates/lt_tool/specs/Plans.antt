-- What each command reads before it answers, and what is then left to do.
use Rattle.std.specs.Prelude.{◌≡◌, ℕ, true, false, List, Option, Result, Ok, string_bytes}
use Rattle.lt_rows.specs.declared.rows.Separator.TheVariants as separators
use Rattle.lt_words.specs.declared.commands.Command.{Command}
use Rattle.lt_words.specs.declared.commands.Command.TheVariants as command
use Rattle.lt_tool.specs.Registries.{ByRegistry}
use Rattle.lt_tool.specs.Rows.{PlansRows, PlansTags}
use Rattle.lt_tool.specs.Selected.{PlansMatch, PlansServing}
use Rattle.lt_tool.specs.Shown.{PlansShown}
use Rattle.lt_tool.specs.Streams.{IsUntouched, Stream, bytes_of, stream}
use Rattle.lt_tool.specs.TagCommands.{Checks, Classifies, Compares, FormsExtlang, PlansExplanation, PlansVerifying}
use Rattle.lt_tool.specs.TagCommands.{UpgradesFiles}
use Rattle.lt_tool.specs.declared.faults.Fault.{Fault}
use Rattle.lt_tool.specs.declared.plans.Plan.{Plan}
use Rattle.lt_tool.specs.declared.plans.Plan.TheVariants as plans
use Rattle.lt_tool.specs.declared.streams.Files.{Files}
use Rattle.lt_tool.specs.declared.streams.Source.{Source}

-- each line is to be answered with a JSON object, by the registry of a file
abbrev pub PlansJson : {F : Type 0} → Stream F → Result Plan Fault → Type 0
PlansJson file result = ByRegistry file (λ R result. result ≡ Ok (plans.Json R)) result

-- only the first of the files was read, not the second one nor the input, and `Gives` is true of the first one before
-- and after that; the files were `before` and are `after`
abbrev pub ReadsFirst : {F I : Type 0} → (F → Option (List ℕ)) → (before after : Files F) → Stream I
    → (Stream (Source F) → Type 0) → Type 0
ReadsFirst bytes before after input Gives =
    (after.second ≡ before.second) × IsUntouched input × Gives (stream (bytes_of bytes) before.first after.first)

-- For each command, what was read of its files and of its input, and what is then left to do, or why the run ends.
-- `bytes` gives the bytes of a file, where they are known; the files were `before` and are `after`.
abbrev pub Plans : {F I : Type 0} → (F → Option (List ℕ)) → Command → (before after : Files F) → Stream I
    → Result Plan Fault → Type 0
Plans bytes (command.Classify tag) before after input result =
    (after ≡ before) × IsUntouched input × Classifies (string_bytes tag) result
Plans bytes (command.Check name) before after input result =
    ReadsFirst bytes before after input (λ file. ByRegistry file Checks result)
Plans bytes (command.Canon run) before after input result =
    IsUntouched input × PlansTags bytes false before after result
Plans bytes (command.Codes run table) before after input result =
    IsUntouched input × PlansTags bytes true before after result
Plans bytes (command.Tsv run rows) before after input result =
    PlansRows bytes separators.Tab rows before after input result
Plans bytes (command.Csv run rows delimiter) before after input result =
    PlansRows bytes (separators.Delimiter delimiter) rows before after input result
Plans bytes (command.Match name ranges) before after input result =
    ReadsFirst bytes before after input (λ file. ByRegistry file (PlansMatch ranges) result)
Plans bytes (command.Serve name header) before after input result =
    ReadsFirst bytes before after input (λ file. ByRegistry file (PlansServing (string_bytes header)) result)
Plans bytes (command.Extlang name tag) before after input result =
    ReadsFirst bytes before after input (λ file. ByRegistry file (FormsExtlang (string_bytes tag)) result)
Plans bytes (command.Equal name tag other) before after input result = ReadsFirst bytes before after input
    (λ file. ByRegistry file (Compares (string_bytes tag) (string_bytes other)) result)
Plans bytes (command.Explain name tag) before after input result =
    ReadsFirst bytes before after input (λ file. ByRegistry file (PlansExplanation (string_bytes tag)) result)
Plans bytes (command.Verify name tag) before after input result =
    ReadsFirst bytes before after input (λ file. ByRegistry file (PlansVerifying (string_bytes tag)) result)
Plans bytes (command.Upgrade old new) before after input result =
    IsUntouched input × UpgradesFiles bytes before after result
Plans bytes (command.Show name tags) before after input result =
    ReadsFirst bytes before after input (λ file. PlansShown file tags result)
Plans bytes (command.Json name) before after input result =
    ReadsFirst bytes before after input (λ file. PlansJson file result)
