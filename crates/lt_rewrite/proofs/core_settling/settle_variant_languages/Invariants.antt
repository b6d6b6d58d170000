use Rattle.std.proofs.Common.{length}
use Rattle.lt_rewrite.proofs.CoreSettling.{LanguageSettled}
use Rattle.lt_rewrite.proofs.core_settling.settle_variant_languages.Given as goal

-- steps lead to this core, whose language and variants are at the ends of their chains
abbrev pub invariant-loop-index : goal.invariant-loop-index
invariant-loop-index g l = LanguageSettled (g.L.Lookup.listed l.table) l.fn.core l.core

-- the loop ends, since each step drops a variant
abbrev pub decreases-loop-index : goal.decreases-loop-index
decreases-loop-index g l = length l.core.variants
