use Rattle.std.proofs.Common.{rules}
use Rattle.lt_rewrite.proofs.CoreSteps.{language_reached}
use Rattle.lt_rewrite.proofs.core_settling.settle_language.Goals as goal

-- Language steps lead along the chain to its end, since there are no extlangs
pub returns-clause-reached : goal.returns-clause-reached
returns-clause-reached g c = search (rules, language_reached)
