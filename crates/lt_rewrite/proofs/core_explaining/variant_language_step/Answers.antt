use Rattle.std.proofs.Common.{◌≡◌, ℕ, List, Some, get_or, refl, sym, ◌∙◌, subst, slice_get, arith}
use Rattle.std.proofs.lemmas.Option.{slice_get_read}
use Rattle.lt_rewrite.proofs.CoreSteps.{none_of}
use Rattle.lt_rewrite.proofs.CoreLeading.{first_variant_language, none_variant_language}
use Rattle.lt_rewrite.proofs.core_explaining.variant_language_step.Goals as goal

-- no variant has a language as its value and the core's language as a Prefix, so there is no such step
pub returns-in_default : goal.returns-in_default
returns-in_default g c = none_variant_language (g.L.Lookup.listed c.args.table.now) c.args.start c.args.core.now
    c.in_default.ensures.variant_language

-- there are no extlangs, and this variant is the leftmost with a language as its value and the core's as a Prefix
pub returns : goal.returns
returns g c =
    let core = c.args.core.now in
    let i = c.in-Some.index in
    let v : List ℕ = c.index-variants-index.result in
    let t = c.in-Some.ensures.variant_language in
    let there : slice_get core.variants i ≡ Some v = slice_get_read core.variants _ i v refl t.within
    (subst (λ vs. v ≡ get_or vs i v) c.variants.ensures.value c.index-variants-index.is) in
    first_variant_language (g.L.Lookup.listed c.args.table.now) c.args.start core _ i c.in-Some._language v refl
    (omega (arith, c.before_variants.ensures.value)) c.record_number.ensures
    (sym c.extlangs.ensures.value ∙ none_of c.extlangs.result.now (sym c.is_empty.ensures ∙ c.if-not-is_empty.false))
    there t
