use Rattle.std.proofs.Common.{◌≡◌, ℕ, List, None, All, take}
use Rattle.lt_registry.specs.Entries.{variant_value}
use Rattle.lt_rewrite.proofs.core_explaining.variant_step.Given as goal

-- no variant before `index` has a variant as its value
abbrev pub invariant-loop-index : goal.invariant-loop-index
invariant-loop-index g l = All (λ (v : List ℕ). variant_value (g.L.Lookup.listed l.table) v ≡ None) (take l.index l.core.variants)
