-- The names of the kinds of step, as they are printed.
use Rattle.std.specs.Prelude.{ℕ, List, codes}
use Rattle.lt_rewrite.specs.declared.steps.StepKind.{StepKind}
use Rattle.lt_rewrite.specs.declared.steps.StepKind.TheVariants as steps

-- the name of a kind of step
abbrev pub name_of : StepKind → List ℕ
name_of steps.Extlang = codes "Extlang"
name_of steps.Language = codes "Language"
name_of steps.Script = codes "Script"
name_of steps.Region = codes "Region"
name_of steps.Variant = codes "Variant"
name_of steps.VariantLanguage = codes "VariantLanguage"
name_of steps.Whole = codes "Whole"
name_of steps.SwapExtensions = codes "SwapExtensions"
name_of steps.DropAttribute = codes "DropAttribute"
name_of steps.SwapAttributes = codes "SwapAttributes"
name_of steps.DropKeyword = codes "DropKeyword"
name_of steps.SwapKeywords = codes "SwapKeywords"
name_of steps.DropTrue = codes "DropTrue"
name_of steps.SwapFields = codes "SwapFields"
