-- What is printed for an answer, and the status with which a run ends that gives it.
use Rattle.std.specs.Prelude.{◌==◌, ℕ, Bool, true, false, List, [], ◌∷◌, ◌++◌, codes, if◌then◌else◌}
use Rattle.std.specs.Fmt.{decimal}
use Rattle.lt_tag.specs.Classes.{class_of}
use Rattle.lt_tag.specs.Conventional.{conventional}
use Rattle.lt_tag.specs.Parts.{TagForm}
use Rattle.lt_tag.specs.WellFormed.{spell}
use Rattle.lt_answers.specs.Tags.{class_word}
use Rattle.lt_tool.specs.declared.answers.Answer.{Answer}
use Rattle.lt_tool.specs.declared.answers.Answer.TheVariants as answers
use Rattle.lt_tool.specs.declared.status.Status.{Status}
use Rattle.lt_tool.specs.declared.status.Status.TheVariants as status

-- the line of `classify`: the class of a tag, a space (32), its text in conventional case and a line feed (10)
abbrev pub class_line : TagForm → List ℕ
class_line form = class_word (class_of form) ++ 32 ∷ [] ++ conventional (spell form) ++ 10 ∷ []

-- the line of `check` for a registry with this many entries
abbrev pub entries_line : ℕ → List ℕ
entries_line count = codes "ok " ++ decimal count ++ 10 ∷ []

-- what is printed for an answer at the end of a run
abbrev pub line_of : Answer → List ℕ
line_of (answers.Text line) = line.items
line_of (answers.Equal true) = codes "equal" ++ 10 ∷ []
line_of (answers.Equal false) = codes "different" ++ 10 ∷ []
line_of answers.Passed = codes "ok" ++ 10 ∷ []
line_of (answers.Entries count line) = line.items
line_of (answers.Lines counts) = []
line_of (answers.Written end) = []

-- the status of a run: Refused if it refused something, Done if not
abbrev pub status_if : (refused : Bool) → Status
status_if true = status.Refused
status_if false = status.Done

-- the status of a run that gives an answer
abbrev pub status_of : Answer → Status
status_of (answers.Text line) = status.Done
status_of (answers.Equal true) = status.Done
status_of (answers.Equal false) = status.Refused
status_of answers.Passed = status.Done
status_of (answers.Entries count line) = status.Done
status_of (answers.Lines counts) = if counts.refused == 0 then status.Done else status.Refused
status_of (answers.Written end) = end
