-- What the commands on one or two tags, and on one or two registries, give.
use Rattle.std.specs.Prelude.{◌≡◌, ℕ, Bool, true, false, List, [], ◌∷◌, ◌++◌, Option, Result, Ok, Err, IfErr, Vec}
use Rattle.std.specs.Prelude.{if◌then◌else◌, length}
use Rattle.std.specs.Borrow.{Bor}
use Rattle.std.specs.declared.alloc.Global.{Global}
use Rattle.lt_tag.specs.Faults.{HasTag, IsFault}
use Rattle.lt_tag.specs.Parts.{TagForm}
use Rattle.lt_tag.specs.declared.faults.TagFault.{TagFault}
use Rattle.lt_registry.specs.Parts.{EntryParts}
use Rattle.lt_canon.specs.Refusals.{of_fault}
use Rattle.lt_canon.specs.TextAnswers.{IsEqualityOf, IsExtlangTextOf, IsPairRefusal}
use Rattle.lt_canon.specs.Texts.{IsCanonicalTextOf, IsTextRefusal}
use Rattle.lt_canon.specs.declared.refusals.TextRefusal.{TextRefusal}
use Rattle.lt_canon.specs.declared.refusals.TextRefusal.TheVariants as refusals
use Rattle.lt_upgrade.specs.Upgrade.{IsUpgradeFinding, Upgrades}
use Rattle.lt_upgrade.specs.declared.conditions.UpgradeCondition.{UpgradeCondition}
use Rattle.lt_tool.specs.Answers.{class_line, entries_line}
use Rattle.lt_tool.specs.Registries.{ReadsJudged}
use Rattle.lt_tool.specs.Results.{Gives, IsTextFault, Then}
use Rattle.lt_tool.specs.Streams.{bytes_of, stream}
use Rattle.lt_tool.specs.declared.answers.Answer.TheVariants as answers
use Rattle.lt_tool.specs.declared.faults.Fault.{Fault}
use Rattle.lt_tool.specs.declared.faults.Fault.TheVariants as faults
use Rattle.lt_tool.specs.declared.faults.Role.TheVariants as roles
use Rattle.lt_tool.specs.declared.plans.Plan.{Plan}
use Rattle.lt_tool.specs.declared.plans.Plan.TheVariants as plans
use Rattle.lt_tool.specs.declared.streams.Files.{Files}

-- a run is to print these lines, and is done then
abbrev pub IsText : List ℕ → Plan → Type 0
IsText text plan = (line : Vec ℕ Global) × (line.items ≡ text) × (plan ≡ plans.Print (answers.Text line))

-- `classify` gives the line of the tag that a text is, or why the text is no tag
abbrev pub Classifies : List ℕ → Result Plan Fault → Type 0
Classifies text = Gives (λ plan. (form : TagForm) × HasTag text form × IsText (class_line form) plan)
    (λ fault. (f : TagFault) × IsFault text f.kind f.place × (fault ≡ faults.Text (of_fault f)))

-- `check` gives the number of the entries
abbrev pub Checks : List EntryParts → Result Plan Fault → Type 0
Checks R = Gives (λ plan. (line : Vec ℕ Global) × (line.items ≡ entries_line (length R))
    × (plan ≡ plans.Print (answers.Entries (length R) line))) (λ fault. ⊥)

-- `extlang` gives the line of a text's extlang form (RFC 5646, 4.5)
abbrev pub FormsExtlang : List ℕ → List EntryParts → Result Plan Fault → Type 0
FormsExtlang text R =
    Gives (λ plan. (extlang : List ℕ) × IsExtlangTextOf R text extlang × IsText (extlang ++ 10 ∷ []) plan)
    (IsTextFault (IsTextRefusal R text))

-- what is answered to one text: its canonical text, or why it has none
abbrev pub IsTextAnswer : List EntryParts → List ℕ → Result (Vec ℕ Global) TextRefusal → Type 0
IsTextAnswer R text (Ok canonical) = IsCanonicalTextOf R text canonical.items
IsTextAnswer R text (Err refusal) = IsTextRefusal R text refusal

-- Whether the first of two texts, which has this answer, passes, so that the refusal is that of the second. It passes
-- if it is a tag that has a canonical form; and if the refusal is that a text is no tag, it passes without a canonical
-- form too.
abbrev pub is_passed : TextRefusal → Result (Vec ℕ Global) TextRefusal → Bool
is_passed refusal (Ok canonical) = true
is_passed (refusals.NotATag fault) (Err (refusals.Invalid own)) = true
is_passed (refusals.NotATag fault) (Err (refusals.ReplacementRepeats variant)) = true
is_passed refusal (Err own) = false

-- the fault for two texts, one of which is refused with this refusal: it says whether that is the first or the second
abbrev pub IsPairFault : List EntryParts → List ℕ → TextRefusal → Fault → Type 0
IsPairFault R first refusal fault = (own : Result (Vec ℕ Global) TextRefusal) × IsTextAnswer R first own
    × (fault ≡ (if is_passed refusal own then faults.OtherText refusal else faults.Text refusal))

-- `equal` gives whether the tags of two texts are equivalent
abbrev pub Compares : (first second : List ℕ) → List EntryParts → Result Plan Fault → Type 0
Compares first second R = Gives (λ plan. (equal : Bool) × IsEqualityOf R first second equal
    × (plan ≡ plans.Print (answers.Equal equal)))
    (λ fault. (refusal : TextRefusal) × IsPairRefusal R first second refusal × IsPairFault R first refusal fault)

-- the text is to be explained
abbrev pub PlansExplanation : List ℕ → List EntryParts → Result Plan Fault → Type 0
PlansExplanation text R result = (t : Bor (List ℕ)) × (t.now ≡ text) × (result ≡ Ok (plans.Explain R t))

-- lines are to be judged as an explanation of the text
abbrev pub PlansVerifying : List ℕ → List EntryParts → Result Plan Fault → Type 0
PlansVerifying text R result = (t : Bor (List ℕ)) × (t.now ≡ text) × (result ≡ Ok (plans.Verify R t))

-- `upgrade` finds that B upgrades the older registry A; or the first condition that fails, and the record with the least
-- number that fails it
abbrev pub JudgesUpgrade : (A B : List EntryParts) → Result Plan Fault → Type 0
JudgesUpgrade A B = Gives (λ plan. Upgrades A B × (plan ≡ plans.Print answers.Passed))
    (λ fault. (condition : UpgradeCondition) × (number : ℕ) × IsUpgradeFinding A B condition number
    × (fault ≡ faults.Upgrade condition number))

-- the older file is read and judged first, and the newer one only if its registry passes
pub record UpgradesFiles {F : Type 0} (bytes : F → Option (List ℕ)) (before after : Files F)
    (result : Result Plan Fault) : Type 0 where
  pub older : Result (List EntryParts) Fault
  pub reads_older : ReadsJudged (stream (bytes_of bytes) before.first after.first) roles.Older older
  pub unread : IfErr older (λ fault. after.second ≡ before.second)
  pub goes_on : Then (λ A result. (newer : Result (List EntryParts) Fault)
      × ReadsJudged (stream (bytes_of bytes) before.second after.second) roles.Newer newer
      × Then (JudgesUpgrade A) newer result) older result
