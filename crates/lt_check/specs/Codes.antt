-- The codes of the conditions of the check, and the names of the causes of a rejection, as they are printed.
use Rattle.std.specs.Prelude.{ℕ, List, codes}
use Rattle.lt_check.specs.declared.conditions.Condition.{Condition}
use Rattle.lt_check.specs.declared.conditions.Condition.TheVariants as conditions
use Rattle.lt_check.specs.declared.rejections.RejectedCause.{RejectedCause}
use Rattle.lt_check.specs.declared.rejections.RejectedCause.TheVariants as causes

-- the code of a condition of the check
abbrev pub code_of : Condition → List ℕ
code_of conditions.OwnName = codes "C1"
code_of conditions.RegisteredValue = codes "C2"
code_of conditions.EndingChain = codes "C3"
code_of conditions.FittingExtlang = codes "C4"
code_of conditions.FittingVariantValue = codes "C5"
code_of conditions.FinalPrefixes = codes "C6"
code_of conditions.LangtagPrefixes = codes "C7"
code_of conditions.FittingGrandfathered = codes "C8"
code_of conditions.ValidWhole = codes "C9"
code_of conditions.RestingWhole = codes "C10"
code_of conditions.AgreeingWhole = codes "C11"
code_of conditions.NoRangeValue = codes "C12"

-- the name of the cause of a rejection: the code of the condition that fails, or OutOfMemory
abbrev pub cause_name_of : RejectedCause → List ℕ
cause_name_of (causes.Finding finding) = code_of finding.condition
cause_name_of causes.OutOfMemory = codes "OutOfMemory"
