-- What `bcp47_handle_verify` answers. A trace is a list of steps, given in numbers, that are to lead from one tag to
-- another; `told` are those numbers.
use Rattle.std.specs.Prelude.{ℕ, ◌≡◌, ◌+◌, ◌⊎◌, List, [], ◌∷◌, ◌++◌, length, map, None}
use Rattle.lt_tag.specs.Faults.{HasFault, HasTag}
use Rattle.lt_tag.specs.Parts.{TagForm}
use Rattle.lt_registry.specs.Faults.{IsFirstFault}
use Rattle.lt_registry.specs.Parts.{EntryParts}
use Rattle.lt_registry.specs.Validity.{IsValid}
use Rattle.lt_rewrite.specs.Labels.{IsTrace, LeadsBy}
use Rattle.lt_rewrite.specs.TagSteps.{AreEquivalent}
use Rattle.lt_rewrite.specs.declared.steps.Step.{Step}
use Rattle.lt_canon.specs.Texts.{ReadsAs}
use Rattle.lt_canon.specs.Traces.{EndsElsewhere, IsValidTrace}
use Rattle.lt_canon.specs.declared.refusals.TextRefusal.{TextRefusal}
use Rattle.lt_canon.specs.declared.refusals.TextRefusal.TheVariants as refusals
use Rattle.lt_canon.specs.declared.traces.TraceFault.{TraceFault}
use Rattle.lt_canon.specs.declared.traces.TraceFault.TheVariants as faults
use Rattle.bcp47_c.specs.Numbers.{valid_fault}
use Rattle.bcp47_c.specs.Outcomes.{ended, outcome, IsRefusedAsOwed}
use Rattle.bcp47_c.specs.Steps.{in_numbers, IsToldBy}
use Rattle.bcp47_c.specs.declared.outcomes.Outcome.{Outcome}
use Rattle.bcp47_c.specs.declared.outcomes.Said.{Said}
use Rattle.bcp47_c.specs.declared.steps.StepNumbers.{StepNumbers}

-- ---- steps in numbers (RFC 5646, 4.5)

-- the numbers `told` are steps that lead from the valid tag `t` to `end`, which is then equivalent to `t`
pub record TellsTrace (R : List EntryParts) (t : TagForm) (told : List StepNumbers) (end : TagForm) : Type 0 where
  pub steps : List Step
  pub are : told ≡ map in_numbers steps
  pub trace : IsValidTrace R t steps end
  pub equivalent : AreEquivalent R t end

-- the numbers `told` are a step that leads nowhere from the tag `t`
pub record TellsMisstep (R : List EntryParts) (t : TagForm) (told : StepNumbers) : Type 0 where
  pub step : Step
  pub is : told ≡ in_numbers step
  pub stuck : (u : TagForm) → LeadsBy R t step u → ⊥

-- the `n`th of `told`, counted from 1, is no step, or a step that leads nowhere; those before it are steps that lead
-- from the tag `t` to `tag`
pub record HasMisstep (R : List EntryParts) (t : TagForm) (told : List StepNumbers) (n : ℕ) : Type 0 where
  pub before : List Step
  pub nth : StepNumbers
  pub after : List StepNumbers
  pub there : told ≡ map in_numbers before ++ nth ∷ after
  pub counted : n ≡ length before + 1
  pub tag : TagForm
  pub led : IsTrace R t before tag
  pub stops : IsToldBy nth None ⊎ TellsMisstep R tag nth

-- the numbers `told` are steps that lead from the tag `t` to another tag than `end`
pub record TellsOtherEnd (R : List EntryParts) (t : TagForm) (told : List StepNumbers) (end : TagForm) : Type 0 where
  pub steps : List Step
  pub are : told ≡ map in_numbers steps
  pub elsewhere : EndsElsewhere R t steps end

-- what is wrong with a trace whose steps are the numbers `told`, from the tag `t` to `end`; OutOfMemory may be answered
-- for any trace
abbrev pub IsToldFault : List EntryParts → TagForm → List StepNumbers → TagForm → TraceFault → Type 0
IsToldFault R t told end (faults.Invalid fault) = IsFirstFault R t fault.kind fault.place
IsToldFault R t told end (faults.NoSuchStep n) = IsValid R t × HasMisstep R t told n
IsToldFault R t told end faults.WrongEnd = IsValid R t × TellsOtherEnd R t told end
IsToldFault R t told end faults.OutOfMemory = Unit {0}

-- The fault of a trace whose step number `n` is no step, by the fault of the steps before it: that fault, unless it
-- is WrongEnd: they lead to another tag than the given one. Then the fault is that there is no step `n`.
abbrev pub of_front : TraceFault → ℕ → TraceFault
of_front (faults.Invalid fault) n = faults.Invalid fault
of_front (faults.NoSuchStep m) n = faults.NoSuchStep m
of_front faults.WrongEnd n = faults.NoSuchStep n
of_front faults.OutOfMemory n = faults.OutOfMemory

-- ---- texts and outcomes

-- why one of two texts is no tag, the first before the second; OutOfMemory may be answered for any two texts
abbrev pub IsPairReadingRefusal : List ℕ → List ℕ → TextRefusal → Type 0
IsPairReadingRefusal first second (refusals.NotATag fault) =
    HasFault first fault.kind fault.place ⊎ ReadsAs first (λ tag. HasFault second fault.kind fault.place)
IsPairReadingRefusal first second (refusals.Invalid fault) = ⊥
IsPairReadingRefusal first second (refusals.ReplacementRepeats variant) = ⊥
IsPairReadingRefusal first second refusals.OutOfMemory = Unit {0}

-- the status, detail and place for a fault of a trace: Invalid (2), NoSuchStep (11), WrongEnd (12) or OutOfMemory (4)
abbrev pub trace_said : TraceFault → Said
trace_said (faults.Invalid fault) = record { status = 2; detail = valid_fault fault.kind; place = fault.place }
trace_said (faults.NoSuchStep n) = record { status = 11; detail = 0; place = n }
trace_said faults.WrongEnd = ended 12
trace_said faults.OutOfMemory = ended 4

-- that the steps lead from the tag `t` to `end` is answered (status Done, 0), or what is wrong with them
abbrev pub IsJudged : List EntryParts → TagForm → List StepNumbers → TagForm → Outcome → Type 0
IsJudged R t told end o =
    (TellsTrace R t told end × (o ≡ outcome (ended 0) 0))
    ⊎ ((fault : TraceFault) × IsToldFault R t told end fault × (o ≡ outcome (trace_said fault) 0))

-- `text` and `last` are read as tags, and the steps from the one to the other are judged
pub record JudgesTexts (R : List EntryParts) (text : List ℕ)
    (told : List StepNumbers) (last : List ℕ) (o : Outcome) : Type 0 where
  pub tag : TagForm
  pub read : HasTag text tag
  pub end : TagForm
  pub read_end : HasTag last end
  pub judged : IsJudged R tag told end o

-- the steps from the tag of `text` to that of `last` are judged, or why a text is no tag is answered; no text is
-- written
abbrev pub Verifies : List EntryParts → List ℕ → List StepNumbers → List ℕ → Outcome → Type 0
Verifies R text told last o =
    JudgesTexts R text told last o ⊎ IsRefusedAsOwed (IsPairReadingRefusal text last) [] [] o
