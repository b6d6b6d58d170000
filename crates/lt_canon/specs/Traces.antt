-- When a trace, a list of steps from a tag to another, is right, and what is wrong with one.
use Rattle.std.specs.Prelude.{ℕ, ◌≡◌, ◌≢◌, ◌+◌, List, ◌∷◌, ◌++◌, length, codes}
use Rattle.lt_tag.specs.Parts.{TagForm}
use Rattle.lt_registry.specs.Parts.{EntryParts}
use Rattle.lt_registry.specs.Validity.{IsValid}
use Rattle.lt_registry.specs.Faults.{IsFirstFault}
use Rattle.lt_registry.specs.Names as tags
use Rattle.lt_registry.specs.declared.faults.ValidRefusal.{ValidRefusal}
use Rattle.lt_registry.specs.declared.faults.ValidRefusal.TheVariants as checks
use Rattle.lt_rewrite.specs.Labels.{LeadsBy, IsTrace}
use Rattle.lt_rewrite.specs.declared.steps.Step.{Step}
use Rattle.lt_canon.specs.declared.traces.TraceFault.{TraceFault}
use Rattle.lt_canon.specs.declared.traces.TraceFault.TheVariants as faults

-- the steps lead one after another from a valid tag to `end`
pub record IsValidTrace (R : List EntryParts) (t : TagForm) (steps : List Step) (end : TagForm) : Type 0 where
  pub valid : IsValid R t
  pub trace : IsTrace R t steps end

-- step number `n`, counted from 1, is the first that leads nowhere
pub record IsMisstep (R : List EntryParts) (t : TagForm) (steps : List Step) (n : ℕ) : Type 0 where
  pub before : List Step
  pub step : Step
  pub after : List Step
  pub there : steps ≡ before ++ step ∷ after
  pub nth : n ≡ length before + 1
  pub tag : TagForm
  pub led : IsTrace R t before tag
  pub stuck : (u : TagForm) → LeadsBy R tag step u → ⊥

-- the steps lead from `t` to another tag than `end`
pub record EndsElsewhere (R : List EntryParts) (t : TagForm) (steps : List Step) (end : TagForm) : Type 0 where
  pub tag : TagForm
  pub led : IsTrace R t steps tag
  pub other : tag ≢ end

-- what is wrong with a trace; OutOfMemory may be answered of any trace
abbrev pub IsTraceFault : List EntryParts → TagForm → List Step → TagForm → TraceFault → Type 0
IsTraceFault R t steps end (faults.Invalid fault) = IsFirstFault R t fault.kind fault.place
IsTraceFault R t steps end (faults.NoSuchStep n) = IsValid R t × IsMisstep R t steps n
IsTraceFault R t steps end faults.WrongEnd = IsValid R t × EndsElsewhere R t steps end
IsTraceFault R t steps end faults.OutOfMemory = Unit {0}

-- the name of a fault of a trace, as it is printed
abbrev pub trace_fault_name_of : TraceFault → List ℕ
trace_fault_name_of (faults.Invalid fault) = tags.name_of fault.kind
trace_fault_name_of (faults.NoSuchStep n) = codes "NoSuchStep"
trace_fault_name_of faults.WrongEnd = codes "WrongEnd"
trace_fault_name_of faults.OutOfMemory = codes "OutOfMemory"

-- the fault of a trace whose tag `validate` refuses with this
abbrev pub of_invalid : ValidRefusal → TraceFault
of_invalid (checks.Fault fault) = faults.Invalid fault
of_invalid checks.OutOfMemory = faults.OutOfMemory

-- the fault of a trace for lack of memory
abbrev pub no_trace_memory : TraceFault
no_trace_memory = faults.OutOfMemory

-- with what following the steps of a trace is refused: it asks neither whether the tag is valid nor where the steps
-- should end, so with neither Invalid nor WrongEnd; OutOfMemory may be answered of any trace
abbrev pub IsFollowFault : List EntryParts → TagForm → List Step → TraceFault → Type 0
IsFollowFault R t steps (faults.Invalid fault) = ⊥
IsFollowFault R t steps (faults.NoSuchStep n) = IsMisstep R t steps n
IsFollowFault R t steps faults.WrongEnd = ⊥
IsFollowFault R t steps faults.OutOfMemory = Unit {0}
