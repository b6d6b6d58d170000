use Rattle.std.proofs.Common.{rules}
use Rattle.lt_rewrite.proofs.CoreSettling.{one_settled, all_final}
use Rattle.lt_rewrite.proofs.core_settling.settle_variants.Goals as goal

-- the invariant stays true: a turn puts one variant more at the end of its chain
pub loop-index-preserved : goal.loop-index-preserved
loop-index-preserved g c = search (rules, one_settled)

-- no variant is left, so all are at the ends of their chains
pub returns-clause-at_rest : goal.returns-clause-at_rest
returns-clause-at_rest g c = search (rules, all_final)
