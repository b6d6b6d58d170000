-- No two kinds of step have the same number, so a number names one kind at most, as the contract of `kind_name` says.
use Rattle.std.proofs.Common.{◌≡◌, List, [], ◌∷◌, refl, sym, ap, ◌∙◌, get_or}
use Rattle.lt_rewrite.specs.declared.steps.StepKind.{StepKind}
use Rattle.lt_rewrite.specs.declared.steps.StepKind.TheVariants as steps
use Rattle.bcp47_c.specs.Numbers.{step_kind}

-- the kinds of step in the order of their numbers, behind one for the number 0
in_order : List StepKind
in_order = steps.Extlang ∷ steps.Extlang ∷ steps.Language ∷ steps.Script ∷ steps.Region ∷ steps.Variant
    ∷ steps.VariantLanguage ∷ steps.Whole ∷ steps.SwapExtensions ∷ steps.DropAttribute ∷ steps.SwapAttributes
    ∷ steps.DropKeyword ∷ steps.SwapKeywords ∷ steps.DropTrue ∷ steps.SwapFields ∷ []

-- a kind is in that list at the index that is its number
found : (kind : StepKind) → get_or in_order (step_kind kind) steps.Extlang ≡ kind
unfolding in_order
found steps.Extlang = refl
found steps.Language = refl
found steps.Script = refl
found steps.Region = refl
found steps.Variant = refl
found steps.VariantLanguage = refl
found steps.Whole = refl
found steps.SwapExtensions = refl
found steps.DropAttribute = refl
found steps.SwapAttributes = refl
found steps.DropKeyword = refl
found steps.SwapKeywords = refl
found steps.DropTrue = refl
found steps.SwapFields = refl

-- a kind of step has a number of its own: kinds with equal numbers are equal
pub same_kind : (a b : StepKind) → step_kind a ≡ step_kind b → a ≡ b
same_kind a b e = sym (found a) ∙ ap (λ n. get_or in_order n steps.Extlang) e ∙ found b
