use Rattle.std.proofs.Common.{◌+◌, ◌++◌, ◌∷◌, [], take, sym, ap, subst, arith, rules}
use Rattle.lt_tag.specs.Parts.{CoreParts}
use Rattle.lt_rewrite.specs.VariantLanguages.{ArePlaces}
use Rattle.lt_rewrite.proofs.CoreSettling.{one_settled, all_settled}
use Rattle.lt_rewrite.proofs.VariantPlaces.{placed_more}
use Rattle.lt_rewrite.proofs.core_settling.settle_few_variants.Goals as goal

-- the invariant stays true: a turn puts one variant more at the end of its chain, and adds the place of the end's entry
pub loop-index-preserved : goal.loop-index-preserved
loop-index-preserved g c =
    let R = g.L.Lookup.listed c.args.table.now in
    let core = c.loop-index.core in
    let i = c.loop-index.index in
    let e = c.settled_variant-end.result in
    record {
      settled = search (rules, one_settled);
      places_count = search rules;
      places = subst (ArePlaces R (take (i + 1) c.set_variant.new.self.variants)) (sym c.push.ensures.items)
          (subst (λ us. ArePlaces R (take (i + 1) us) (c.loop-index.places.items ++ e.1 ∷ []))
          (sym (ap (λ (d : CoreParts). d.variants) c.set_variant.ensures))
          (placed_more R core.variants c.loop-index.places.items i e.1 e.0
          (omega (arith, c.loop-index-test.true, c.loop-index.invariant.settled.count))
          c.settled_variant-end.ensures.place c.loop-index.invariant.places));
    }

-- no variant is left, so `places` has the place of the entry of each variant
pub returns-clause-places : goal.returns-clause-places
returns-clause-places g c =
    let R = g.L.Lookup.listed c.args.table.now in
    subst (λ vs. ArePlaces R vs c.loop-index.places.items)
    (all_settled R c.args.core.now c.loop-index.core c.loop-index.index _ c.loop-index.invariant.settled
    c.loop-index-test.false) c.loop-index.invariant.places
