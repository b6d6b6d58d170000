use Rattle.std.proofs.Common.{◌≡◌, ℕ, ◌+◌, List, Some, None, All, length, take, refl, sym, ap, ◌∙◌, subst, slice_get, arith}
use Rattle.std.specs.Option.{option_copied}
use Rattle.std.proofs.lemmas.List.{take_all}
use Rattle.std.proofs.lemmas.List.Elements.{All-more}
use Rattle.std.proofs.lemmas.Option.{slice_get_read}
use Rattle.lt_registry.specs.Entries.{variant_value}
use Rattle.lt_rewrite.proofs.CoreLeading.{first_variant, none_varies}
use Rattle.lt_rewrite.proofs.core_explaining.variant_step.Goals as goal

-- this is the leftmost Variant step: this variant has a variant as its value, and none before it has one
pub returns-in-Some : goal.returns-in-Some
returns-in-Some g c =
    let core = c.args.core.now in
    let i = c.loop-index.index in
    let v : List ℕ = c.variant-item.result in
    let there : slice_get core.variants i ≡ Some v =
    subst (λ vs. slice_get vs i ≡ Some v) c.variants-variant-items.ensures.value
    (slice_get_read c.variants-variant-items.result.now _ i v refl c.loop-index-test.true c.variant-item.is) in
    first_variant (g.L.Lookup.listed c.args.table.now) c.args.start core _ i v c.in-Some._next.now refl
    (omega (arith, c.before_variants.ensures.value)) c.record_number.ensures there
    (sym c.next_value.ensures ∙ ap option_copied c.in-Some.is)
    c.loop-index.invariant

-- the invariant stays true: a turn passes over a variant that has no variant as its value
pub loop-index-preserved : goal.loop-index-preserved
loop-index-preserved g c =
    let P : List ℕ → Type 0 = λ v. variant_value (g.L.Lookup.listed c.args.table.now) v ≡ None in
    let i = c.loop-index.index in
    let vs = c.variants-variant-items.result.now in
    let more : All P (take (i + 1) vs) = All-more P vs i c.variant-item.result c.loop-index-test.true
    (subst (λ us. All P (take i us)) (sym c.variants-variant-items.ensures.value) c.loop-index.invariant)
    (subst P c.variant-item.is (sym c.next_value.ensures ∙ ap option_copied c.in_default.is)) in
    subst (λ us. All P (take (i + 1) us)) c.variants-variant-items.ensures.value more

-- there is no Variant step: no variant is left, so none has a variant as its value
pub returns : goal.returns
returns g c =
    let all = take_all c.loop-index.index c.args.core.now.variants
    (omega (arith, c.loop-index-test.false, ap length c.variants-variant-items.ensures.value)) in
    none_varies (g.L.Lookup.listed c.args.table.now) c.args.start c.args.core.now (rw all at c.loop-index.invariant)
