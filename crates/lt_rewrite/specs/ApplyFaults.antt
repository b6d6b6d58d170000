-- The faults with which a step is not applied to a tag (`apply`): their names, and when each is a true answer.
use Rattle.std.specs.Prelude.{ℕ, List, codes}
use Rattle.lt_tag.specs.Parts.{TagForm}
use Rattle.lt_registry.specs.Parts.{EntryParts}
use Rattle.lt_rewrite.specs.Labels.{LeadsBy}
use Rattle.lt_rewrite.specs.declared.steps.Step.{Step}
use Rattle.lt_rewrite.specs.declared.apply_faults.ApplyFault.{ApplyFault}
use Rattle.lt_rewrite.specs.declared.apply_faults.ApplyFault.TheVariants as faults

-- the name of a fault, as it is printed
abbrev pub fault_name_of : ApplyFault → List ℕ
fault_name_of faults.NoSuchStep = codes "NoSuchStep"
fault_name_of faults.OutOfMemory = codes "OutOfMemory"

-- the fault of running out of memory
abbrev pub no_memory : ApplyFault
no_memory = faults.OutOfMemory

-- the fault is a true answer for a step on the tag `t`: NoSuchStep only if the step leads from `t` to no proper tag,
-- OutOfMemory always
abbrev pub IsApplyFault : List EntryParts → TagForm → Step → ApplyFault → Type 0
IsApplyFault R t step faults.NoSuchStep = (u : TagForm) → LeadsBy R t step u → ⊥
IsApplyFault R t step faults.OutOfMemory = Unit {0}
