use Rattle.std.proofs.Common.{◌≡◌, ℕ, List, None, All, take}
use Rattle.lt_rewrite.specs.CoreSteps.{language_beside}
use Rattle.lt_rewrite.proofs.core_settling.first_variant_language.Given as goal

-- no variant before `index` has a VariantLanguage step
abbrev pub invariant-loop-index : goal.invariant-loop-index
invariant-loop-index g l = All (λ (v : List ℕ). language_beside (g.L.Lookup.listed l.table) l.core.language v ≡ None)
    (take l.index l.variant-items)
