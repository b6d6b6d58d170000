use Rattle.lt_rewrite.proofs.CoreSettling.{VariantsSettled}
use Rattle.lt_rewrite.proofs.core_settling.settle_variants.Given as goal

-- core steps lead to this core, and its variants before `index` are at the ends of their chains
abbrev pub invariant-loop-index : goal.invariant-loop-index
invariant-loop-index g l = VariantsSettled (g.L.Lookup.listed l.table) l.fn.core l.core l.index l.index-end
