-- Why a tag or a text has no canonical form, and which refusal stands for a fault that was found before.
use Rattle.std.specs.Prelude.{List}
use Rattle.lt_tag.specs.Parts.{TagForm}
use Rattle.lt_tag.specs.declared.faults.TagFault.{TagFault}
use Rattle.lt_tag.specs.declared.faults.TagFaultKind.{TagFaultKind}
use Rattle.lt_tag.specs.declared.faults.TagFaultKind.TheVariants as kinds
use Rattle.lt_registry.specs.Parts.{EntryParts}
use Rattle.lt_registry.specs.Faults.{IsFirstFault}
use Rattle.lt_registry.specs.declared.faults.ValidFault.{ValidFault}
use Rattle.lt_registry.specs.declared.faults.ValidRefusal.{ValidRefusal}
use Rattle.lt_registry.specs.declared.faults.ValidRefusal.TheVariants as checks
use Rattle.lt_canon.specs.Answers.{IsNamedRepeat, IsRepeatOf}
use Rattle.lt_canon.specs.declared.refusals.Refusal.{Refusal}
use Rattle.lt_canon.specs.declared.refusals.Refusal.TheVariants as refusals
use Rattle.lt_canon.specs.declared.refusals.TextRefusal.{TextRefusal}
use Rattle.lt_canon.specs.declared.refusals.TextRefusal.TheVariants as texts

-- A refusal Invalid names the tag's first fault. Of other refusals this says nothing.
abbrev pub NamesFault : List EntryParts → TagForm → Refusal → Type 0
NamesFault R t (refusals.Invalid fault) = IsFirstFault R t fault.kind fault.place
NamesFault R t (refusals.ReplacementRepeats v) = Unit {0}
NamesFault R t refusals.OutOfMemory = Unit {0}

-- A refusal ReplacementRepeats names the variant that steps can repeat. Of other refusals this says nothing.
abbrev pub NamesRepeat : List EntryParts → TagForm → Refusal → Type 0
NamesRepeat R t (refusals.Invalid fault) = Unit {0}
NamesRepeat R t (refusals.ReplacementRepeats v) = IsNamedRepeat R t v
NamesRepeat R t refusals.OutOfMemory = Unit {0}

-- why a tag has no canonical form: its first fault, or the variant that steps can repeat; OutOfMemory may be answered
-- of any tag
abbrev pub IsRefusedWith : List EntryParts → TagForm → Refusal → Type 0
IsRefusedWith R t (refusals.Invalid fault) = IsFirstFault R t fault.kind fault.place
IsRefusedWith R t (refusals.ReplacementRepeats v) = IsRepeatOf R t v
IsRefusedWith R t refusals.OutOfMemory = Unit {0}

-- the refusal of a tag that `validate` refuses with this
abbrev pub of_valid : ValidRefusal → Refusal
of_valid (checks.Fault fault) = refusals.Invalid fault
of_valid checks.OutOfMemory = refusals.OutOfMemory

-- the refusal of a tag with this fault
abbrev pub of_valid_fault : ValidFault → Refusal
of_valid_fault fault = refusals.Invalid fault

-- the refusal of a tag for lack of memory
abbrev pub no_memory : Refusal
no_memory = refusals.OutOfMemory

-- the refusal of a text that is not read as a tag for this fault, of this kind
abbrev pub of_fault_kind : TagFaultKind → TagFault → TextRefusal
of_fault_kind kinds.OutOfMemory fault = texts.OutOfMemory
of_fault_kind _ fault = texts.NotATag fault

-- the refusal of a text that is not read as a tag
abbrev pub of_fault : TagFault → TextRefusal
of_fault fault = of_fault_kind fault.kind fault

-- the refusal of a text whose tag is refused
abbrev pub of_refusal : Refusal → TextRefusal
of_refusal (refusals.Invalid fault) = texts.Invalid fault
of_refusal (refusals.ReplacementRepeats v) = texts.ReplacementRepeats v
of_refusal refusals.OutOfMemory = texts.OutOfMemory

-- the refusal of a text for lack of memory
abbrev pub no_text_memory : TextRefusal
no_text_memory = texts.OutOfMemory
