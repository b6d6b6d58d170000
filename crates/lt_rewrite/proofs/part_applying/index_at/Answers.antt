use Rattle.std.proofs.Common.{length, ap, arith}
use Rattle.std.proofs.lemmas.List.Folds.{length-flat_map-take}
use Rattle.lt_rewrite.proofs.part_applying.index_at.Goals as goal

-- this part and those before it have no more subtags than all parts, so the sum stays in range
pub overflow_add-here-in-loop-index : goal.overflow_add-here-in-loop-index
overflow_add-here-in-loop-index g c =
    let few = length-flat_map-take g.P.Spelled.spell c.args.parts.now c.loop-index.index c.index-parts-index.result
    (omega (arith, c.loop-index-test.true)) in
    let same = ap (λ x. length (g.P.Spelled.spell x)) c.index-parts-index.is in
    omega (arith, few, same, c.subtag_count-here.ensures, c.loop-index.invariant.here, c.requires)
