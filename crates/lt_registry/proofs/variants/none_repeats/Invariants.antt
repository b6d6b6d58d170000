use Rattle.std.proofs.Common.{take}
use Rattle.lt_registry.specs.Validity.{Distinct}
use Rattle.lt_registry.proofs.variants.none_repeats.Given as goal

-- none of the variants before `index` occurs twice
abbrev pub invariant-loop-index : goal.invariant-loop-index
invariant-loop-index l = Distinct (take l.index l.variants)
