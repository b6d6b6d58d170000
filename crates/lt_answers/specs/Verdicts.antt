-- The verdict on the lines of an explanation of a tag (RFC 5646, 4.5): that they explain it, or their first fault.
use Rattle.std.specs.Prelude.{◌≡◌, ◌≢◌, ◌+◌, ◌⊎◌, ℕ, List, [], ◌∷◌, ◌++◌, length}
use Rattle.lt_tag.specs.Parts.{TagForm}
use Rattle.lt_tag.specs.Texts.{text_of}
use Rattle.lt_registry.specs.Parts.{EntryParts}
use Rattle.lt_rewrite.specs.Labels.{LeadsBy}
use Rattle.lt_rewrite.specs.declared.steps.Step.{Step}
use Rattle.lt_answers.specs.StepLines.{IsNoName, IsStepLine, NamesNoEnd, end_line}
use Rattle.lt_answers.specs.declared.verdicts.Verdict.{Verdict}
use Rattle.lt_answers.specs.declared.verdicts.Verdict.TheVariants as verdicts

-- ---- one line, after those that lead to a tag

-- the line is that of a step from `t` to `u`, with the text of `u`
pub record LeadsOn (R : List EntryParts) (t : TagForm) (line : List ℕ) (u : TagForm) : Type 0 where
  pub step : Step
  pub leads : LeadsBy R t step u
  pub is_line : IsStepLine line step (text_of u)

-- the line is that of the end, with the text of `t`
abbrev pub EndsHere : TagForm → List ℕ → Type 0
EndsHere t line = line ≡ end_line (text_of t)

-- the line names a step that leads from `t` nowhere
pub record NamesNoStep (R : List EntryParts) (t : TagForm) (line : List ℕ) : Type 0 where
  pub step : Step
  pub text : List ℕ
  pub is_line : IsStepLine line step text
  pub stuck : (u : TagForm) → LeadsBy R t step u → ⊥

-- the line names a step from `t`, with another text than that of the tag to which it leads
pub record HasOtherText (R : List EntryParts) (t : TagForm) (line : List ℕ) : Type 0 where
  pub step : Step
  pub text : List ℕ
  pub is_line : IsStepLine line step text
  pub u : TagForm
  pub leads : LeadsBy R t step u
  pub other : text ≢ text_of u

-- the line is neither that of a step nor that of an end
pub record NamesNothing (line : List ℕ) : Type 0 where
  pub no_step : IsNoName line
  pub no_end : NamesNoEnd line

-- the line is that of an end, with another text than that of `t`
pub record EndsElsewhere (t : TagForm) (line : List ℕ) : Type 0 where
  pub text : List ℕ
  pub is_end : line ≡ end_line text
  pub other : text ≢ text_of t

-- ---- all lines

-- the lines are those of steps that lead one after another from `t` to `u`
abbrev pub Lead : List EntryParts → TagForm → List (List ℕ) → TagForm → Type 0
Lead R t [] u = t ≡ u
Lead R t (line ∷ lines) u = (v : TagForm) × LeadsOn R t line v × Lead R v lines u

-- the lines are those of steps that lead one after another from `t`, and then the line of the end with the tag that
-- they reach
pub record Explain (R : List EntryParts) (t : TagForm) (lines : List (List ℕ)) : Type 0 where
  pub steps : List (List ℕ)
  pub end : TagForm
  pub lead : Lead R t steps end
  pub all : lines ≡ steps ++ end_line (text_of end) ∷ []

-- the lines before number `n`, counted from 1, lead to a tag, and `Holds` is true of that tag and of line `n`
pub record StopsAt (R : List EntryParts) (t : TagForm) (lines : List (List ℕ))
    (n : ℕ) (Holds : TagForm → List ℕ → Type 0) : Type 0 where
  pub before : List (List ℕ)
  pub line : List ℕ
  pub after : List (List ℕ)
  pub there : lines ≡ before ++ line ∷ after
  pub nth : n ≡ length before + 1
  pub here : TagForm
  pub lead : Lead R t before here
  pub holds : Holds here line

-- the lines are all those of steps, and the line of the end, which would have the number `n`, is missing
pub record LackEnd (R : List EntryParts) (t : TagForm) (lines : List (List ℕ)) (n : ℕ) : Type 0 where
  pub here : TagForm
  pub lead : Lead R t lines here
  pub nth : n ≡ length lines + 1

-- line number `n` comes right after the line of the end
pub record GoPastEnd (R : List EntryParts) (t : TagForm) (lines : List (List ℕ)) (n : ℕ) : Type 0 where
  pub steps : List (List ℕ)
  pub end : TagForm
  pub lead : Lead R t steps end
  pub line : List ℕ
  pub after : List (List ℕ)
  pub there : lines ≡ steps ++ end_line (text_of end) ∷ line ∷ after
  pub nth : n ≡ length steps + 2

-- the lines explain `t`, or this is their first fault
abbrev pub IsVerdict : List EntryParts → TagForm → List (List ℕ) → Verdict → Type 0
IsVerdict R t lines verdicts.Right = Explain R t lines
IsVerdict R t lines (verdicts.NoSuchStep n) = StopsAt R t lines n (NamesNoStep R)
IsVerdict R t lines verdicts.WrongEnd = (n : ℕ) × StopsAt R t lines n EndsElsewhere
IsVerdict R t lines (verdicts.BadStep n) =
    StopsAt R t lines n (λ here line. HasOtherText R here line ⊎ NamesNothing line)
    ⊎ (LackEnd R t lines n ⊎ GoPastEnd R t lines n)
