-- Why a text can't be used as a range to match by.
use Rattle.std.specs.Prelude.{ℕ, ◌≡◌, List, codes, Err}
use Rattle.lt_registry.specs.Parts.{EntryParts}
use Rattle.lt_canon.specs.Answers.{IsRepeatOf}
use Rattle.lt_canon.specs.Texts.{ReadsAs}
use Rattle.lt_range.specs.Names as ranges
use Rattle.lt_range.specs.Reading.{range_of}
use Rattle.lt_range.specs.declared.faults.RangeFault.{RangeFault}
use Rattle.lt_range.specs.declared.faults.RangeFault.TheVariants as faults
use Rattle.lt_range.specs.Matched.{IsNoValidTag}
use Rattle.lt_range.specs.declared.refusals.RangeRefusal.{RangeRefusal}
use Rattle.lt_range.specs.declared.refusals.RangeRefusal.TheVariants as refusals

-- why a text can't be used as a range: it is neither a valid tag nor a range, or it is a valid tag of which steps can
-- repeat a variant; OutOfMemory may be answered for any text
abbrev pub IsRangeRefusal : List EntryParts → List ℕ → RangeRefusal → Type 0
IsRangeRefusal R text (refusals.NotARange fault) = IsNoValidTag R text × (range_of text ≡ Err fault)
IsRangeRefusal R text (refusals.ReplacementRepeats v) = ReadsAs text (λ tag. IsRepeatOf R tag v)
IsRangeRefusal R text refusals.OutOfMemory = Unit {0}

-- why a text, as it is written, is no range; OutOfMemory may be answered for any text
abbrev pub IsPlainRefusal : List ℕ → RangeRefusal → Type 0
IsPlainRefusal text (refusals.NotARange fault) = range_of text ≡ Err fault
IsPlainRefusal text (refusals.ReplacementRepeats v) = ⊥
IsPlainRefusal text refusals.OutOfMemory = Unit {0}

-- the refusal of a text with this fault
abbrev pub of_fault : RangeFault → RangeRefusal
of_fault faults.OutOfMemory = refusals.OutOfMemory
of_fault fault = refusals.NotARange fault

-- the refusal for lack of memory
abbrev pub no_memory : RangeRefusal
no_memory = refusals.OutOfMemory

-- the name of a refusal; for a text that is no range it is the fault's name
abbrev pub name_of : RangeRefusal → List ℕ
name_of (refusals.NotARange fault) = ranges.name_of fault
name_of (refusals.ReplacementRepeats v) = codes "ReplacementRepeats"
name_of refusals.OutOfMemory = codes "OutOfMemory"
