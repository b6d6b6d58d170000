-- Laws of selecting lines by language ranges, and of verdicts on explanations, over the entries of a registry.
use Rattle.std.specs.Prelude.{◌≡◌, ◌<◌, ◌^◌, ℕ, List, All}
use Rattle.lt_jar.specs.Lines.{lines_of}
use Rattle.lt_tag.specs.Faults.{HasTag}
use Rattle.lt_tag.specs.Parts.{TagForm}
use Rattle.lt_registry.specs.Parts.{EntryParts}
use Rattle.lt_range.specs.Ranges.{RangeParts}
use Rattle.lt_canon.specs.ExplanationTexts.{IsExplanationTextOf}
use Rattle.lt_answers.specs.Selection.{AreSelected, IsSelected}
use Rattle.lt_answers.specs.Verdicts.{IsVerdict}
use Rattle.lt_range.specs.declared.matching.Scheme.{Scheme}
use Rattle.lt_answers.specs.declared.verdicts.Verdict.{Verdict}
use Rattle.lt_answers.specs.declared.verdicts.Verdict.TheVariants as verdicts

-- ranges select at most one list of these lines
abbrev pub SelectionIsDetermined : List EntryParts → Type 0
SelectionIsDetermined R =
    (scheme : Scheme) (ranges : List RangeParts) (lines a b : List (List ℕ))
    → AreSelected (IsSelected R scheme ranges) lines a
    → AreSelected (IsSelected R scheme ranges) lines b → a ≡ b

-- the lines of an explanation have no two verdicts
abbrev pub HaveOneVerdict : List EntryParts → Type 0
HaveOneVerdict R =
    (t : TagForm) (lines : List (List ℕ)) (v w : Verdict) → IsVerdict R t lines v → IsVerdict R t lines w → v ≡ w

-- the lines that explain a tag have the verdict Right (RFC 5646, 4.5)
abbrev pub ExplanationsAreRight : List EntryParts → Type 0
ExplanationsAreRight R = (text printed : List ℕ) (t : TagForm) → HasTag text t
    → IsExplanationTextOf R text printed → IsVerdict R t (lines_of printed) verdicts.Right

-- the number of each entry's record is less than 2 to the 32
abbrev pub NumbersFit : List EntryParts → Type 0
NumbersFit R = All (λ (e : EntryParts). e.number < 2 ^ 32) R
