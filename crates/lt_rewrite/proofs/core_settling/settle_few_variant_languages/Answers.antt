use Rattle.std.proofs.Common.{◌≡◌, ℕ, List, None, All, sym, ap, subst, rules}
use Rattle.std.specs.List.{remove}
use Rattle.lt_tag.specs.Parts.{CoreParts}
use Rattle.lt_rewrite.specs.VariantLanguages.{ArePlaces}
use Rattle.lt_rewrite.proofs.VariantPlaces.{placed_without}
use Rattle.lt_rewrite.proofs.Stars.{star_trans}
use Rattle.lt_rewrite.proofs.CoreSettling.{language_settled, others_left}
use Rattle.lt_rewrite.proofs.core_settling.settle_few_variant_languages.Goals as goal
use Rattle.lt_registry.specs.Entries.{variant_value}

-- the invariant is true at first: before the loop the variants and the language are settled, and `places` are those of
-- the variants
pub loop-index-init : goal.loop-index-init
loop-index-init g c =
    let R = g.L.Lookup.listed c.args.table.now in
    let vs = ap (λ (d : CoreParts). d.variants) c.settle_language.ensures.others in
    record {
      settled = record {
        reached = star_trans c.settle_few_variants.ensures.reached c.settle_language.ensures.reached;
        language = c.settle_language.ensures.at_rest;
        variants = subst (All (λ (v : List ℕ). variant_value R v ≡ None)) (sym vs) c.settle_few_variants.ensures.at_rest;
        others = search rules;
      };
      places = subst (λ us. ArePlaces R us c.settle_few_variants.new.places.items) (sym vs) c.settle_few_variants.ensures.places;
    }

-- the invariant stays true: a turn takes a VariantLanguage step and settles the new language; the variant and its place
-- both go
pub loop-index-preserved : goal.loop-index-preserved
loop-index-preserved g c =
    let R = g.L.Lookup.listed c.args.table.now in
    let core = c.loop-index.core in
    let i = c.in-Some.index in
    let settled = c.settle_language-in-Some.ensures in
    let left = others_left core c.remove_variant.new.self c.set_language.new.self c.settle_language-in-Some.new.core i
    c.in-Some.language c.remove_variant.ensures c.set_language.ensures settled.others in
    record {
      settled =
          language_settled R c.args.core.now core c.remove_variant.new.self c.set_language.new.self
          c.settle_language-in-Some.new.core i c.in-Some.language
          c.requires.alone c.loop-index.invariant.settled c.in-Some.ensures.variant_language c.remove_variant.ensures
          c.set_language.ensures settled.reached settled.at_rest settled.others;
      places = subst (λ vs. ArePlaces R vs c.remove.new.self.items) (sym (ap (λ (d : CoreParts). d.variants) left))
          (subst (ArePlaces R (remove core.variants i)) (sym c.remove.ensures.items)
          (placed_without R core.variants c.loop-index.places.items i c.loop-index.invariant.places));
    }
