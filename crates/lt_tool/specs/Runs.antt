-- What is done with the lines of the input, and what is written of an explanation and of tags that are shown, before a
-- run ends.
use Rattle.std.specs.Prelude.{◌≡◌, ◌⊎◌, ◌==◌, ℕ, Bool, List, [], ◌∷◌, ◌++◌, Option, Some, None, Result, Ok, Err, Vec}
use Rattle.std.specs.Prelude.{if◌then◌else◌}
use Rattle.std.specs.Borrow.{Bor, MutBor}
use Rattle.std.specs.Io.Chain.{chain_remaining}
use Rattle.std.specs.Io.KnownBytes.{Keeps, prepend_known}
use Rattle.std.specs.declared.alloc.Global.{Global}
use Rattle.std.specs.declared.io.traits.Chain.{Chain}
use Rattle.lt_jar.specs.Devices.{inner_of}
use Rattle.lt_jar.specs.declared.devices.Device.{Device}
use Rattle.lt_tag.specs.Faults.{HasTag}
use Rattle.lt_tag.specs.Parts.{TagForm}
use Rattle.lt_registry.specs.Parts.{EntryParts}
use Rattle.lt_registry.specs.Validity.{IsValid}
use Rattle.lt_canon.specs.ExplanationTexts.{IsExplanationTextOf}
use Rattle.lt_canon.specs.TextAnswers.{IsValidityRefusal}
use Rattle.lt_canon.specs.Texts.{IsTextRefusal}
use Rattle.lt_canon.specs.declared.refusals.TextRefusal.{TextRefusal}
use Rattle.lt_codes.specs.declared.codes.Code.{Code}
use Rattle.lt_stream.specs.declared.faults.ToolFault.{ToolFault}
use Rattle.lt_stream.specs.declared.faults.ToolFault.TheVariants as tool_faults
use Rattle.lt_stream.specs.declared.tallies.Tally.{Tally}
use Rattle.lt_lines.specs.Owed.{terms}
use Rattle.lt_lines.specs.Running.{RunsLines}
use Rattle.lt_lines.specs.declared.forms.LineForm.{LineForm}
use Rattle.lt_lines.specs.declared.runs.Counts.{Counts}
use Rattle.lt_answers.specs.Answering.{AnswersByObjects}
use Rattle.lt_answers.specs.LookedUp.{LooksUp}
use Rattle.lt_answers.specs.Selecting.{SelectsLines}
use Rattle.lt_answers.specs.Searching.{Finding, SearchesLines}
use Rattle.lt_answers.specs.Selection.{IsSelected}
use Rattle.lt_answers.specs.Served.{ServesAmong}
use Rattle.lt_range.specs.declared.matching.Scheme.{Scheme}
use Rattle.lt_answers.specs.Verifying.{VerifiesLines}
use Rattle.lt_answers.specs.declared.verdicts.Verdict.{Verdict}
use Rattle.lt_answers.specs.declared.verdicts.Verdict.TheVariants as verdicts
use Rattle.lt_tool.specs.Answers.{status_if}
use Rattle.lt_tool.specs.Ends.{End}
use Rattle.lt_tool.specs.Results.{Gives}
use Rattle.lt_tool.specs.Shown.{ShowsTexts}
use Rattle.lt_tool.specs.Streams.{IsUntouched, Stream, stream}
use Rattle.lt_tool.specs.Written.{WritesAll}
use Rattle.lt_tool.specs.declared.answers.Answer.TheVariants as answers
use Rattle.lt_tool.specs.declared.faults.Fault.TheVariants as faults
use Rattle.lt_tool.specs.declared.plans.Ground.{Ground}
use Rattle.lt_tool.specs.declared.plans.LinesPlan.{LinesPlan}
use Rattle.lt_tool.specs.declared.plans.MatchPlan.{MatchPlan}
use Rattle.lt_tool.specs.declared.plans.Plan.{Plan}
use Rattle.lt_tool.specs.declared.plans.Plan.TheVariants as plans
use Rattle.lt_tool.specs.declared.status.Status.TheVariants as status

-- ---- lines that are answered

-- the tallies of refused lines: none if a write failed or memory ran out, since it isn't known which answers were
-- written
abbrev pub tallies_after : Result Counts ToolFault → List Tally → List Tally
tallies_after (Err tool_faults.Write) tallies = []
tallies_after (Err tool_faults.OutOfMemory) tallies = []
tallies_after end tallies = tallies

-- what a run over lines came to: how many were answered and refused, or the fault that ended it
abbrev pub counted : Result Counts ToolFault → End
counted (Ok counts) = Ok (answers.Lines counts)
counted (Err fault) = Err (faults.Run fault)

-- the codes of a table, if there is one
abbrev pub codes_of : Option (List Code) → List Code
codes_of None = []
codes_of (Some codes) = codes

-- lines of this form were answered, by the entries of a registry and the codes of a table; `end` is what the run over
-- them came to, and `all` are its tallies, which `tallies` keeps if it is known which answers were written
pub record RunsOver {I O : Type 0} (ground : Ground) (form : LineForm) (input : Stream I) (output : Stream O)
    (tallies : List Tally) (result : End) : Type 0 where
  pub end : Result Counts ToolFault
  pub all : List Tally
  pub runs : RunsLines (terms (record { entries = ground.checked; codes = codes_of ground.codes }) form) input.bytes
      output.bytes input.before input.after output.before output.after all end
  pub tallied : tallies ≡ tallies_after end all
  pub ends : result ≡ counted end

-- a reader of bytes that were read ahead, and then of a device
abbrev pub Ahead : Type 0 → Type 0
Ahead I = Chain (Bor (List ℕ)) (MutBor (Device I))

-- the bytes that a reader `Ahead` has still to give, where those of its device are known
abbrev pub bytes_ahead : {I : Type 0} → (I → Option (List ℕ)) → Ahead I → Option (List ℕ)
bytes_ahead bytes ahead = chain_remaining (λ front. Some front.now) (λ rest. bytes (inner_of rest.now)) ahead

-- lines were answered from a reader of the bytes `front` and then of the input; the reader is `before` and `after`
-- that. By `same` it had these bytes to give, if those of the input are known.
pub record RunsAhead {I O : Type 0} (plan : LinesPlan) (front : List ℕ) (input : Stream I) (output : Stream O)
    (tallies : List Tally) (result : End) : Type 0 where
  pub before : Device (Ahead I)
  pub after : Device (Ahead I)
  pub same : Keeps (prepend_known front (input.bytes (inner_of input.before))) (bytes_ahead input.bytes (inner_of before))
  pub runs : RunsOver plan.ground plan.form (stream (bytes_ahead input.bytes) before after) output tallies result

-- the lines of the input were answered; they begin with the bytes that were read to find a column, if any were
abbrev pub AnswersLines : {I O : Type 0} → LinesPlan → Option (Vec ℕ Global) → Stream I → Stream O → List Tally
    → End → Type 0
AnswersLines plan None input output tallies result = RunsOver plan.ground plan.form input output tallies result
AnswersLines plan (Some front) input output tallies result = RunsAhead plan front.items input output tallies result

-- ---- lines that are matched

-- what a run over lines came to, by how many of them it wrote: Refused if none
abbrev pub selected : Result ℕ ToolFault → End
selected (Ok count) = Ok (answers.Written (if count == 0 then status.Refused else status.Done))
selected (Err fault) = Err (faults.Run fault)

-- the line is to be printed, with a line feed (10)
abbrev pub PrintsLine : List ℕ → End → Type 0
PrintsLine line = Gives
    (λ answer. (text : Vec ℕ Global) × (text.items ≡ line ++ 10 ∷ []) × (answer ≡ answers.Text text)) (λ fault. ⊥)

-- what a search for a line came to: the line is to be printed; if none was found, the run ends as refused
abbrev pub IsFound : Result (Option (Vec ℕ Global)) ToolFault → End → Type 0
IsFound (Ok None) result = result ≡ Ok (answers.Written status.Refused)
IsFound (Ok (Some line)) result = PrintsLine line.items result
IsFound (Err fault) result = result ≡ Err (faults.Run fault)

-- the lines of the input were searched, `Finds` tells what is found among them, one line or none, and the run came to
-- `result` by that
pub record Searches {I : Type 0} (Finds : Finding) (input : Stream I) (result : End) : Type 0 where
  pub end : Result (Option (Vec ℕ Global)) ToolFault
  pub searches : SearchesLines Finds input.bytes input.before input.after end
  pub is_found : IsFound end result

-- the lines of the input that the ranges select by a scheme of filtering were written; without one, a line was looked up
-- (RFC 4647, 3.4)
abbrev pub MatchesLines : {I O : Type 0} → MatchPlan → Option Scheme → Stream I → Stream O → End → Type 0
MatchesLines plan (Some scheme) input output result = (end : Result ℕ ToolFault)
    × SelectsLines (IsSelected plan.table scheme plan.ranges.items) input.bytes output.bytes
    input.before input.after output.before output.after end × (result ≡ selected end)
MatchesLines plan None input output result =
    IsUntouched output × Searches (LooksUp plan.table plan.ranges.items) input result

-- ---- explanations

-- what a run that wrote an explanation came to: Done, or the fault that stopped the writing
abbrev pub written : Result (Unit {0}) ToolFault → End
written (Ok done) = Ok (answers.Written status.Done)
written (Err fault) = Err (faults.Run fault)

-- the explanation of a text was written, or a front of it if a write failed or memory ran out; or the text is refused,
-- and nothing was written
abbrev pub ExplainsText : {O : Type 0} → List EntryParts → List ℕ → Stream O → End → Type 0
ExplainsText R text output result =
    ((refusal : TextRefusal) × IsTextRefusal R text refusal × IsUntouched output × (result ≡ Err (faults.Text refusal)))
    ⊎ ((lines : List ℕ) × (end : Result (Unit {0}) ToolFault) × IsExplanationTextOf R text lines
    × WritesAll output lines end × (result ≡ written end))

-- what a run that judged an explanation came to: it passed if the verdict is Right; else the verdict, or the fault that
-- ended the judging, is its fault
abbrev pub judged : Result Verdict ToolFault → End
judged (Ok verdicts.Right) = Ok answers.Passed
judged (Ok verdict) = Err (faults.Explanation verdict)
judged (Err fault) = Err (faults.Run fault)

-- the lines of the input were judged as an explanation of the tag of a text; or the text is no valid tag, and no line
-- was read
abbrev pub VerifiesText : {I : Type 0} → List EntryParts → List ℕ → Stream I → End → Type 0
VerifiesText R text input result =
    ((refusal : TextRefusal) × IsValidityRefusal R text refusal × IsUntouched input × (result ≡ Err (faults.Text refusal)))
    ⊎ ((tag : TagForm) × (end : Result Verdict ToolFault) × HasTag text tag × IsValid R tag
    × VerifiesLines R tag input.bytes input.before input.after end × (result ≡ judged end))

-- ---- objects

-- what a run that answered lines with objects came to: Refused if it refused one of them, Done if not, or its fault
abbrev pub answered : (refused : Bool) → Result (Unit {0}) ToolFault → End
answered refused (Ok done) = Ok (answers.Written (status_if refused))
answered refused (Err fault) = Err (faults.Run fault)

-- the lines of the input were answered with JSON objects; `refused` is whether one of the lines was refused
pub record AnswersInJson {I O : Type 0} (R : List EntryParts) (input : Stream I) (output : Stream O)
    (result : End) : Type 0 where
  pub refused : Bool
  pub end : Result (Unit {0}) ToolFault
  pub runs : AnswersByObjects R input.bytes output.bytes input.before input.after output.before output.after refused end
  pub ends : result ≡ answered refused end

-- ---- all of them

-- what was left to do was done: what was read of the input and written to the output, and what the run came to;
-- `before` and `after` are the tallies
abbrev pub Runs : {I O : Type 0} → Plan → Stream I → Stream O → (before after : List Tally) → End → Type 0
Runs (plans.Print answer) input output before after result =
    IsUntouched input × IsUntouched output × (after ≡ before) × (result ≡ Ok answer)
Runs (plans.Lines plan) input output before after result = AnswersLines plan plan.front input output after result
Runs (plans.Match plan) input output before after result =
    (after ≡ before) × MatchesLines plan plan.scheme input output result
Runs (plans.Serve R preferences) input output before after result =
    IsUntouched output × (after ≡ before) × Searches (ServesAmong R preferences.items) input result
Runs (plans.Explain R text) input output before after result =
    IsUntouched input × (after ≡ before) × ExplainsText R text.now output result
Runs (plans.Verify R text) input output before after result =
    IsUntouched output × (after ≡ before) × VerifiesText R text.now input result
Runs (plans.Show R records tags) input output before after result =
    IsUntouched input × (after ≡ before) × ShowsTexts R records tags.now output result
Runs (plans.Json R) input output before after result = (after ≡ before) × AnswersInJson R input output result
