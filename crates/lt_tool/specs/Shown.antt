-- What `show` reads, what it writes of tags, and how it ends. What it writes for one text is a block, and `refused`
-- says whether the text of a block is refused.
use Rattle.std.specs.Prelude.{◌≡◌, ◌⊎◌, ◌||◌, ℕ, Bool, true, false, List, [], ◌∷◌, ◌++◌, map, Result, Ok, Err}
use Rattle.std.specs.Prelude.{string_bytes}
use Rattle.std.specs.Borrow.{Bor}
use Rattle.lt_jar.specs.Records.{Field}
use Rattle.lt_jar.specs.declared.devices.Device.{Device}
use Rattle.lt_tag.specs.Faults.{HasFault, HasTag}
use Rattle.lt_tag.specs.Parts.{TagForm}
use Rattle.lt_tag.specs.declared.faults.TagFault.{TagFault}
use Rattle.lt_registry.specs.Parts.{EntryParts}
use Rattle.lt_check.specs.Conditions.{IsChecked}
use Rattle.lt_rewrite.specs.declared.steps.Step.{Step}
use Rattle.lt_canon.specs.Explaining.{IsExplanation}
use Rattle.lt_canon.specs.ExplanationTexts.{IsExplanationTextOf}
use Rattle.lt_canon.specs.Refusals.{IsRefusedWith}
use Rattle.lt_canon.specs.declared.refusals.Refusal.{Refusal}
use Rattle.lt_canon.specs.declared.refusals.TextRefusal.{TextRefusal}
use Rattle.lt_canon.specs.declared.refusals.TextRefusal.TheVariants as refusals
use Rattle.lt_stream.specs.declared.faults.ToolFault.{ToolFault}
use Rattle.lt_stream.specs.declared.faults.ToolFault.TheVariants as tool_faults
use Rattle.lt_lines.specs.Owed.{RefusesText}
use Rattle.lt_lines.specs.Refusals.{IsRefusalLine}
use Rattle.lt_show.specs.Reading as kept
use Rattle.lt_show.specs.Reading.{ReadsRecords}
use Rattle.lt_show.specs.Tables.{shown_byte, table_of}
use Rattle.lt_show.specs.declared.reading.RecordsFault.{RecordsFault}
use Rattle.lt_show.specs.declared.reading.RecordsFault.TheVariants as kept_faults
use Rattle.lt_words.specs.declared.commands.Tags.{Tags}
use Rattle.lt_tool.specs.Answers.{status_if}
use Rattle.lt_tool.specs.Ends.{End}
use Rattle.lt_tool.specs.Registries.{IsRegistryRefusal}
use Rattle.lt_tool.specs.Streams.{IsUntouched, Stream, stream}
use Rattle.lt_tool.specs.Written.{WritesAll}
use Rattle.lt_tool.specs.declared.answers.Answer.TheVariants as answers
use Rattle.lt_tool.specs.declared.faults.Fault.{Fault}
use Rattle.lt_tool.specs.declared.faults.Fault.TheVariants as faults
use Rattle.lt_tool.specs.declared.faults.Role.TheVariants as roles
use Rattle.lt_tool.specs.declared.plans.Plan.{Plan}
use Rattle.lt_tool.specs.declared.plans.Plan.TheVariants as plans
use Rattle.lt_tool.specs.declared.registries.RegistryRefusal.{RegistryRefusal}
use Rattle.lt_tool.specs.declared.registries.RegistryRefusal.TheVariants as registry_refusals

-- ---- for people

-- the lines that end what is shown of a text: its explanation, or why it is refused
abbrev pub EndsShown : List EntryParts → (text ending : List ℕ) → (refused : Bool) → Type 0
EndsShown R text ending false = IsExplanationTextOf R text ending
EndsShown R text ending true = RefusesText R text ending

-- what is shown of a text that is a tag, after the bytes `head`: its explanation or why it is refused, and an empty line
abbrev pub EndsBlock : List EntryParts → (text head block : List ℕ) → (refused : Bool) → Type 0
EndsBlock R text head block refused =
    (ending : List ℕ) × EndsShown R text ending refused × (block ≡ head ++ (ending ++ 10 ∷ []))

-- what is shown of a text with this refusal, after the bytes `head`: the line of the refusal, and an empty line; the
-- text is refused
abbrev pub EndsRefused : TextRefusal → (head block : List ℕ) → (refused : Bool) → Type 0
EndsRefused refusal head block refused =
    (line : List ℕ) × IsRefusalLine refusal line × (block ≡ head ++ (line ++ 10 ∷ [])) × (refused ≡ true)

-- what is shown of a text that is a tag: its table, its explanation or why it is refused, and an empty line
pub record ShowsTag (R : List EntryParts) (records : List (List Field)) (text block : List ℕ)
    (refused : Bool) : Type 0 where
  pub tag : TagForm
  pub read : HasTag text tag
  pub ending : List ℕ
  pub ends : EndsShown R text ending refused
  pub block_is : block ≡ table_of R records tag ++ (ending ++ 10 ∷ [])

-- what is shown of a text that is no tag: the text, the line that says why, and an empty line
pub record ShowsFault (text block : List ℕ) (refused : Bool) : Type 0 where
  pub fault : TagFault
  pub is_fault : HasFault text fault.kind fault.place
  pub line : List ℕ
  pub line_is : IsRefusalLine (refusals.NotATag fault) line
  pub block_is : block ≡ map shown_byte text ++ 10 ∷ (line ++ 10 ∷ [])
  pub refused_is : refused ≡ true

-- ---- as JSON

-- whether a tag is refused: if not, it has an explanation
abbrev pub EndsTag : List EntryParts → TagForm → (refused : Bool) → Type 0
EndsTag R tag false = (steps : List Step) × (end : TagForm) × IsExplanation R tag steps end
EndsTag R tag true = (refusal : Refusal) × IsRefusedWith R tag refusal

-- whether a text that is shown as a JSON object is refused, since it is no tag or its tag is refused; the bytes of the
-- object are not stated
abbrev pub ShowsObject : List EntryParts → List ℕ → (refused : Bool) → Type 0
ShowsObject R text refused = ((tag : TagForm) × HasTag text tag × EndsTag R tag refused)
    ⊎ ((fault : TagFault) × HasFault text fault.kind fault.place × (refused ≡ true))

-- ---- all of them

-- what is shown of a text, for people or as JSON, and whether the text is refused
abbrev pub ShowsAs : (json : Bool) → List EntryParts → List (List Field) → (text block : List ℕ)
    → (refused : Bool) → Type 0
ShowsAs false R records text block refused = ShowsTag R records text block refused ⊎ ShowsFault text block refused
ShowsAs true R records text block refused = ShowsObject R text refused

-- whether the text of a block is refused, if the block was written; or why the run ended before all of it was
abbrev pub told : (refused : Bool) → Result (Unit {0}) ToolFault → Result Bool ToolFault
told refused (Ok done) = Ok refused
told refused (Err fault) = Err fault

-- a block was written to the output, or a front of it where a write failed or memory ran out; `refused` is whether its
-- text is refused
abbrev pub WritesTold : {O : Type 0} → (block : List ℕ) → (refused : Bool) → Stream O → Result Bool ToolFault → Type 0
WritesTold block refused output result =
    (end : Result (Unit {0}) ToolFault) × WritesAll output block end × (result ≡ told refused end)

-- a block was written, or a front of it where the run ended, or memory ran out before that; `Shows` is true of the
-- block and of whether its text is refused
abbrev pub WritesBlock : {O : Type 0} → ((block : List ℕ) → (refused : Bool) → Type 0) → Stream O → Result Bool ToolFault
    → Type 0
WritesBlock Shows output result =
    ((result ≡ Err tool_faults.OutOfMemory) × IsUntouched output)
    ⊎ ((block : List ℕ) × (refused : Bool) × Shows block refused × WritesTold block refused output result)

-- whether one of several texts is refused, by whether the first is, and by what came of the others
abbrev pub with_first : (refused : Bool) → Result Bool ToolFault → Result Bool ToolFault
with_first refused (Ok more) = Ok (refused || more)
with_first refused (Err fault) = Err fault

-- What came of several texts, where `first` came of the first one. A fault of that ends the run. Else the output was
-- `between` then, and `Others` is true of what is written after that and of what comes of the other texts.
abbrev pub GoesOn : {O : Type 0} → (Stream O → Result Bool ToolFault → Type 0) → Stream O → (between : Device O)
    → (first result : Result Bool ToolFault) → Type 0
GoesOn Others output between (Ok refused) result = (rest : Result Bool ToolFault)
    × Others (stream output.bytes between output.after) rest × (result ≡ with_first refused rest)
GoesOn Others output between (Err fault) result = (output.after ≡ between) × (result ≡ Err fault)

-- the block of the first of several texts was written, as `Shows` says, and then those of the others, as `Others` says;
-- the output is `between` after the first block
pub record WritesFirst {O : Type 0} (Shows : (block : List ℕ) → (refused : Bool) → Type 0)
    (Others : Stream O → Result Bool ToolFault → Type 0) (output : Stream O) (result : Result Bool ToolFault) : Type 0 where
  pub between : Device O
  pub first : Result Bool ToolFault
  pub writes : WritesBlock Shows (stream output.bytes output.before between) first
  pub goes_on : GoesOn Others output between first result

-- The blocks of texts were written one after another, each as the first parameter says, up to the first that was not
-- written whole. The result is whether one of the texts is refused, or why the run ended before.
abbrev pub WritesBlocks : {O : Type 0} → ((text block : List ℕ) → (refused : Bool) → Type 0) → List (List ℕ)
    → Stream O → Result Bool ToolFault → Type 0
WritesBlocks Shows [] output result = IsUntouched output × (result ≡ Ok false)
WritesBlocks Shows (text ∷ texts) output result = WritesFirst (Shows text) (WritesBlocks Shows texts) output result

-- what a run that showed texts came to: Refused if one of the texts is (`any`), Done if not, or the fault that ended it
abbrev pub shown : Result Bool ToolFault → End
shown (Ok any) = Ok (answers.Written (status_if any))
shown (Err fault) = Err (faults.Run fault)

-- what is shown of the tags on the command line of `show` was written, by the entries of a registry and its records
abbrev pub ShowsTexts : {O : Type 0} → List EntryParts → List (List Field) → Tags → Stream O → End → Type 0
ShowsTexts R records tags output result = (any : Result Bool ToolFault)
    × WritesBlocks (ShowsAs tags.json R records) (map string_bytes tags.texts.items) output any × (result ≡ shown any)

-- ---- the registry and its records

-- the tags are to be shown by the entries of a registry and its records; the plan borrows the tags
abbrev pub PlansShow : Tags → List EntryParts → List (List Field) → Result Plan Fault → Type 0
PlansShow tags R records result = (t : Bor Tags) × (t.now ≡ tags) × (result ≡ Ok (plans.Show R records t))

-- the refusal of a file that was to be read as a registry with its records is that of reading only the registry, or
-- OutOfMemory
abbrev pub IsKeptRefusal : RecordsFault → RegistryRefusal → Type 0
IsKeptRefusal (kept_faults.Registry fault) refusal = IsRegistryRefusal (Err fault) refusal
IsKeptRefusal kept_faults.OutOfMemory refusal = refusal ≡ registry_refusals.OutOfMemory

-- the registry is refused, `IsRefusal` is true of the refusal, and the run ends with it
abbrev pub Refuses : (RegistryRefusal → Type 0) → Result Plan Fault → Type 0
Refuses IsRefusal result =
    (refusal : RegistryRefusal) × IsRefusal refusal × (result ≡ Err (faults.Registry roles.Only refusal))

-- What is left to do of `show` once its registry file was read with its records: to show its tags, by a registry that
-- passes the check; or why the registry is refused. `both` are the entries and the records.
abbrev pub PlansBy : Tags → kept.RecordsReading → Result Plan Fault → Type 0
PlansBy tags (Ok both) result =
    (IsChecked both.0 × PlansShow tags both.0 both.1 result) ⊎ Refuses (IsRegistryRefusal (Ok both.0)) result
PlansBy tags (Err fault) result = Refuses (IsKeptRefusal fault) result

-- a file was read with its records, and this is what is left to do of `show` by it
pub record PlansShown {F : Type 0} (file : Stream F) (tags : Tags) (result : Result Plan Fault) : Type 0 where
  pub reading : kept.RecordsReading
  pub reads : ReadsRecords file.bytes file.before file.after reading
  pub plans_by : PlansBy tags reading result
