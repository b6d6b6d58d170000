use Rattle.std.proofs.lemmas.Bool.{eqb-false}
use Rattle.std.proofs.Common.{length, sym, ap, ◌∙◌, rules}
use Rattle.lt_tag.specs.Parts.{CoreParts}
use Rattle.lt_rewrite.proofs.CoreSettling.{rests_settled}
use Rattle.lt_rewrite.proofs.core_settling.settle_along.Goals as goal

-- the core is in its normal form: there are no extlangs, and script, region, language and variants are settled, so no
-- step is left
pub returns-then-is_empty : goal.returns-then-is_empty
returns-then-is_empty g c =
    let settled = c.settle_all_variant_languages.ensures in
    rests_settled (g.L.Lookup.listed c.args.table.now) c.args.core.now c.settle_script.new.core c.settle_region.new.core
    c.settle_extlang.new.core _ (search rules) settled.reached settled.variants
    (λ e. (settled.language, settled.variant_languages)) settled.others

-- the core is in its normal form: script, region and variants are settled, and with the extlangs that stay the language
-- has no step
pub returns-else-is_empty : goal.returns-else-is_empty
returns-else-is_empty g c =
    let settled = c.settle_variants.ensures in
    rests_settled (g.L.Lookup.listed c.args.table.now) c.args.core.now c.settle_script.new.core c.settle_region.new.core
    c.settle_extlang.new.core c.settle_variants.new.core (search rules) settled.reached settled.at_rest
    (λ e. absurd (eqb-false (length c.extlangs.result.now) 0 (sym c.is_empty.ensures ∙ c.if-is_empty.false)
    (ap length (c.extlangs.ensures.value ∙ e))))
    (settled.others
    ∙ ap (λ l. record c.settle_extlang.new.core { language = l; variants = c.settle_variants.new.core.variants })
    (sym (ap (λ (d : CoreParts). d.language) settled.others)))
