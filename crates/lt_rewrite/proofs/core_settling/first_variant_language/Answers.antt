use Rattle.std.proofs.Common.{rules, ◌≡◌, ℕ, List, None, All, ◌∙◌, subst}
use Rattle.std.proofs.lemmas.List.{take_all}
use Rattle.lt_rewrite.specs.CoreSteps.{language_beside}
use Rattle.lt_rewrite.proofs.CoreSettling.{first_variant_language_at, none_more}
use Rattle.lt_rewrite.proofs.core_settling.first_variant_language.Goals as goal

-- the answer is right: this variant has a VariantLanguage step, which puts the language, and none before it has one
pub returns-in-Some-clause-variant_language : goal.returns-in-Some-clause-variant_language
returns-in-Some-clause-variant_language g c = search (rules, first_variant_language_at)

-- the invariant stays true: a turn passes over a variant without a VariantLanguage step
pub loop-index-preserved : goal.loop-index-preserved
loop-index-preserved g c = search (rules, none_more (g.L.Lookup.listed c.args.table.now) c.args.core.now)

-- no variant is left, so none has a VariantLanguage step
pub returns-clause-variant_language : goal.returns-clause-variant_language
returns-clause-variant_language g c =
    let P : List ℕ → Type 0 = λ v. language_beside (g.L.Lookup.listed c.args.table.now) c.args.core.now.language v ≡ None in
    subst (All P) ((take_all c.loop-index.index c.variants-variant-items.result.now c.loop-index-test.false)
    ∙ c.variants-variant-items.ensures.value) c.loop-index.invariant
