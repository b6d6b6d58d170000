use Rattle.std.proofs.Common.{◌≡◌, ℕ, true≢false, Some, List, get_or, set, refl, sym, ap, ◌∙◌, subst, slice_get, arith}
use Rattle.std.proofs.lemmas.Option.{slice_get_read, slice_get_within, same_Some}
use Rattle.lt_registry.specs.Entries.{is_short}
use Rattle.lt_rewrite.specs.Applying.{CoreLeads}
use Rattle.lt_rewrite.specs.CoreSteps.{at_variant}
use Rattle.lt_rewrite.specs.Runs.{rank_of}
use Rattle.lt_rewrite.proofs.CoreLeading.{variant_value_from, leads_at, needs_variant, variant_without}
use Rattle.lt_rewrite.proofs.core_applying.replace_variant.Goals as goal

-- false is right: a Variant step needs a variant at its place, and none is there
pub returns-in_default : goal.returns-in_default
returns-in_default g c d l =
    let n = needs_variant (g.L.Lookup.listed c.args.table.now) c.args.start c.args.core.now c.args.step (ap rank_of c.requires.kind) d l in
    c.in_default.ensures n.index (slice_get_within c.args.core.now.variants n.index n.needs.subtag n.needs.there) n.place

-- false is right: the variant at this place has no value by a record with the step's number
pub returns-in_default-value_by : goal.returns-in_default-value_by
returns-in_default-value_by g c =
    variant_without (g.L.Lookup.listed c.args.table.now) c.args.start c.args.core.now c.args.step c.requires.kind
    c.in-Some.index c.index-variants-index.result
    (slice_get_read c.args.core.now.variants _ c.in-Some.index c.index-variants-index.result refl c.in-Some.ensures.0
    (subst (λ vs. c.index-variants-index.result ≡ get_or vs c.in-Some.index c.index-variants-index.result)
    c.variants.ensures.value c.index-variants-index.is)) c.in-Some.ensures.1
    (λ w by long. c.in_default-value_by.ensures.value w by)

-- false is right: the value of the variant at this place is a language, and a Variant step needs a variant
pub returns-then-is_short : goal.returns-then-is_short
returns-then-is_short g c =
    let v : List ℕ = c.index-variants-index.result in
    variant_without (g.L.Lookup.listed c.args.table.now) c.args.start c.args.core.now c.args.step c.requires.kind c.in-Some.index v
    (slice_get_read c.args.core.now.variants _ c.in-Some.index v refl c.in-Some.ensures.0
    (subst (λ vs. v ≡ get_or vs c.in-Some.index v) c.variants.ensures.value c.index-variants-index.is))
    c.in-Some.ensures.1
    (λ w by long. true≢false (sym c.if-is_short.true ∙ c.is_short.ensures
    ∙ ap is_short (same_Some c.in-Some-value_by.value.now w (sym c.in-Some-value_by.ensures.value.has ∙ by.has))
    ∙ long))

-- the step leads to this core: the variant at this place has this value by the record with the step's number, and it is
-- long enough for a variant
pub returns : goal.returns
returns g c =
    let R = g.L.Lookup.listed c.args.table.now in
    let core = c.args.core.now in
    let i = c.in-Some.index in
    let v : List ℕ = c.index-variants-index.result in
    let w : List ℕ = c.in-Some-value_by.value.now in
    let by = c.in-Some-value_by.ensures.value in
    let there : slice_get core.variants i ≡ Some v = slice_get_read core.variants _ i v refl c.in-Some.ensures.0
    (subst (λ vs. v ≡ get_or vs i v) c.variants.ensures.value c.index-variants-index.is) in
    subst (CoreLeads R c.args.start core c.args.step)
    (sym (c.set_variant.ensures ∙ ap (λ (l : List ℕ). record core { variants = set core.variants i l }) c.copy.ensures))
    (leads_at R c.args.start core c.args.step (at_variant i) v w c.requires.kind (omega (arith, c.in-Some.ensures.1))
    (sym by.by) there (variant_value_from R v w by.has (sym c.is_short.ensures ∙ c.if-is_short.false)))
