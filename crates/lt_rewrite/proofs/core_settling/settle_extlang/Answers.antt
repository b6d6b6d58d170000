use Rattle.std.proofs.Common.{arith}
use Rattle.lt_rewrite.proofs.CoreSettling.{extlang_reached}
use Rattle.lt_rewrite.proofs.core_settling.settle_extlang.Goals as goal

-- one Extlang step leads from the core as it was to this one
pub returns-in-len1-clause-reached : goal.returns-in-len1-clause-reached
returns-in-len1-clause-reached g c =
    extlang_reached (g.L.Lookup.listed c.args.table.now) _ _ _ _ _ _ c.extlangs.ensures.value c.extlang-item.is
    (omega arith) c.replacement-language.ensures.value c.drop_extlangs.ensures c.set_language.ensures
