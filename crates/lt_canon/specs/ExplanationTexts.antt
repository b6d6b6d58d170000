-- The text of an explanation: the steps to the canonical form of a tag, one a line, and that form.
use Rattle.std.specs.Prelude.{◌≡◌, ℕ, Bool, true, false, List, [], ◌∷◌, ◌++◌, codes}
use Rattle.std.specs.Fmt.{decimal}
use Rattle.lt_tag.specs.Faults.{HasTag}
use Rattle.lt_tag.specs.Parts.{TagForm}
use Rattle.lt_tag.specs.Texts.{text_of}
use Rattle.lt_registry.specs.Parts.{EntryParts}
use Rattle.lt_registry.specs.Validity.{IsProper}
use Rattle.lt_rewrite.specs.Labels.{LeadsBy, IsTrace}
use Rattle.lt_rewrite.specs.Names.{name_of}
use Rattle.lt_rewrite.specs.declared.steps.Step.{Step}
use Rattle.lt_canon.specs.Explaining.{IsExplanation}

-- the text of a tag, ended by a line feed (10)
abbrev pub tag_line : TagForm → List ℕ
tag_line t = text_of t ++ 10 ∷ []

-- the kind, the place and the number of a step, with a space (32) after each, and then a text
abbrev pub step_line : Step → List ℕ → List ℕ
step_line step text = name_of step.kind ++ 32 ∷ (decimal step.place ++ 32 ∷ (decimal step.number ++ 32 ∷ text))

-- `lines` begin with the line of the step, which leads from `t` to the tag `after`; `Rest` is true of that tag and of
-- `rest`, the lines after the first
pub record StepPrinted (R : List EntryParts) (t : TagForm) (step : Step)
    (Rest : TagForm → List ℕ → Type 0) (lines : List ℕ) : Type 0 where
  pub after : TagForm
  pub leads : LeadsBy R t step after
  pub rest : List ℕ
  pub printed : Rest after rest
  pub line_is : lines ≡ step_line step (tag_line after) ++ rest

-- `lines` are those of the steps, which lead one after another from `t` to `end`; the arguments are the registry, the
-- steps, `end`, `t` and `lines`
abbrev pub AreStepLines : List EntryParts → List Step → TagForm → TagForm → List ℕ → Type 0
AreStepLines R [] end t lines = (t ≡ end) × (lines ≡ [])
AreStepLines R (step ∷ steps) end t lines = StepPrinted R t step (AreStepLines R steps end) lines

-- these are the lines of the steps, and after them the line of the end: `= ` and its text
pub record AreLines (R : List EntryParts) (t : TagForm)
    (steps : List Step) (end : TagForm) (lines : List ℕ) : Type 0 where
  pub of_steps : List ℕ
  pub are_steps : AreStepLines R steps end t of_steps
  pub all : lines ≡ of_steps ++ codes "= " ++ tag_line end

-- the text is read as a tag, and these are the lines of its explanation (RFC 5646, 4.5)
pub record IsExplanationTextOf (R : List EntryParts) (text lines : List ℕ) : Type 0 where
  pub tag : TagForm
  pub read : HasTag text tag
  pub steps : List Step
  pub end : TagForm
  pub is_explanation : IsExplanation R tag steps end
  pub are_lines : AreLines R tag steps end lines

-- ---- line by line

-- what is left of an explanation: the steps from a tag to the end, by the entries of a registry
pub record StepsLeft : Type 0 where
  pub entries : List EntryParts
  pub here : TagForm
  pub steps : List Step
  pub end : TagForm

-- what is left of an explanation, by these parts
abbrev pub steps_left : List EntryParts → TagForm → List Step → TagForm → StepsLeft
steps_left entries here steps end = record { entries = entries; here = here; steps = steps; end = end }

-- the steps that are left lead from a proper tag to the end
pub record LeadsToEnd (left : StepsLeft) : Type 0 where
  pub proper : IsProper left.entries left.here
  pub trace : IsTrace left.entries left.here left.steps left.end

-- these bytes are the lines of what is left of an explanation
abbrev pub AreLinesLeft : StepsLeft → List ℕ → Type 0
AreLinesLeft left lines = AreLines left.entries left.here left.steps left.end lines

-- `left` is the whole explanation of the tag that the text is read as, by the entries `R` (RFC 5646, 4.5)
pub record IsWholeLeft (R : List EntryParts) (text : List ℕ) (left : StepsLeft) : Type 0 where
  pub by : left.entries ≡ R
  pub read : HasTag text left.here
  pub is_explanation : IsExplanation R left.here left.steps left.end

-- the line of the next step was appended to the bytes `old`, which made `new`; `before` and `after` are what was left
-- of the explanation before and after that
pub record AppendsStep (before after : StepsLeft) (old new : List ℕ) : Type 0 where
  pub step : Step
  pub steps : List Step
  pub next : before.steps ≡ step ∷ steps
  pub to : TagForm
  pub leads : LeadsBy before.entries before.here step to
  pub left : after ≡ record before { here = to; steps = steps }
  pub grown : new ≡ old ++ step_line step (tag_line to)

-- no step was left, and the line of the end was appended to the bytes `old`, which made `new`
pub record AppendsEnd (before after : StepsLeft) (old new : List ℕ) : Type 0 where
  pub none : before.steps ≡ []
  pub left : after ≡ before
  pub grown : new ≡ old ++ codes "= " ++ tag_line before.end

-- the next line of an explanation was appended to `old`: that of a step, after which there are `more`, or that of the
-- end; `before` and `after` are what was left before and after that
abbrev pub AppendsLine : (before after : StepsLeft) → (old new : List ℕ) → (more : Bool) → Type 0
AppendsLine before after old new true = AppendsStep before after old new
AppendsLine before after old new false = AppendsEnd before after old new
