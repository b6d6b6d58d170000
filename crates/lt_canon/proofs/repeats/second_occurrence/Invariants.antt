use Rattle.std.proofs.Common.{take}
use Rattle.lt_registry.specs.Validity.{Distinct}
use Rattle.lt_canon.proofs.repeats.second_occurrence.Given as goal

-- the variants so far are distinct
abbrev pub invariant-loop-index : goal.invariant-loop-index
invariant-loop-index l = Distinct (take l.index l.variants)
