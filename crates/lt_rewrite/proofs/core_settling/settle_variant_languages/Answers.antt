use Rattle.lt_rewrite.proofs.CoreSettling.{language_settled}
use Rattle.lt_rewrite.proofs.core_settling.settle_variant_languages.Goals as goal

-- the invariant stays true: a turn takes a VariantLanguage step, and settles the new language
pub loop-index-preserved : goal.loop-index-preserved
loop-index-preserved g c =
    let settled = c.settle_language-in-Some.ensures in
    language_settled (g.L.Lookup.listed c.args.table.now) _ _ _ _ _ _ _ c.requires.alone c.loop-index.invariant
    c.in-Some.ensures.variant_language c.remove_variant.ensures c.set_language.ensures settled.reached
    settled.at_rest settled.others
