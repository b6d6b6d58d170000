use Rattle.std.proofs.Common.{rules}
use Rattle.lt_rewrite.proofs.CoreSteps.{region_reached}
use Rattle.lt_rewrite.proofs.core_settling.settle_region.Goals as goal

-- Region steps lead along the chain to its end
pub returns-in-Some-clause-reached : goal.returns-in-Some-clause-reached
returns-in-Some-clause-reached g c = search (rules, region_reached)
