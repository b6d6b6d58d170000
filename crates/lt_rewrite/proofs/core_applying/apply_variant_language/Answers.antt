use Rattle.std.proofs.Common.{◌≡◌, ℕ, List, Some, get_or, refl, sym, ap, ◌∙◌, subst, slice_get, arith}
use Rattle.std.proofs.lemmas.Option.{slice_get_read}
use Rattle.lt_tag.specs.Parts.{CoreParts}
use Rattle.lt_rewrite.specs.Applying.{CoreLeads}
use Rattle.lt_rewrite.specs.CoreSteps.{at_variant_language}
use Rattle.lt_rewrite.proofs.CoreSteps.{none_of, there_alone, has_leftmost}
use Rattle.lt_rewrite.proofs.CoreLeading.{leads_at, variant_language_there, variant_language_elsewhere}
use Rattle.lt_rewrite.proofs.core_applying.apply_variant_language.Goals as goal

-- false is right: the first variant with such a step is at another place, so this step leads nowhere
pub returns-then-step-start : goal.returns-then-step-start
returns-then-step-start g c =
    variant_language_elsewhere (g.L.Lookup.listed c.args.table.now) c.args.start c.args.core.now c.args.step
    c.requires.kind c.in-Some.index c.in-Some.language c.in-Some.ensures.variant_language
    (λ p. c.if-step-start.true (omega (arith, p, c.before_variants.ensures.value)))

-- the step leads to this core: the first variant with such a step is at this place and has this record; it is dropped,
-- and its value is the language
pub returns : goal.returns
returns g c =
    let R = g.L.Lookup.listed c.args.table.now in
    let core = c.args.core.now in
    let i = c.in-Some.index in
    let v : List ℕ = c.index-variants-index.result in
    let t = c.in-Some.ensures.variant_language in
    let there : slice_get core.variants i ≡ Some v = slice_get_read core.variants _ i v refl t.within
    (subst (λ vs. v ≡ get_or vs i v) c.variants.ensures.value c.index-variants-index.is) in
    let none = sym c.extlangs.ensures.value ∙ none_of c.extlangs.result.now (sym c.is_empty.ensures ∙ c.if-not-is_empty.false) in
    subst (CoreLeads R c.args.start core c.args.step)
    (sym (c.set_language.ensures ∙ ap (λ (d : CoreParts). record d { language = c.in-Some.language }) c.remove_variant.ensures))
    (leads_at R c.args.start core c.args.step (at_variant_language i) v c.in-Some.language c.requires.kind
    (omega (arith, c.if-step-start.false, c.before_variants.ensures.value))
    (omega (arith, c.if-step-record_number.false, c.record_number.ensures))
    (there_alone core (slice_get core.variants i) v none there)
    (has_leftmost R core i v c.in-Some.language (variant_language_there R c.args.start core c.args.step i
    c.in-Some.language v there t) t.leftmost))
