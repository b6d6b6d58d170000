use Rattle.std.proofs.Common.{◌≡◌, get_or, ap, ◌∙◌, below_more, arith}
use Rattle.std.proofs.lemmas.List.{get_or_read}
use Rattle.lt_rewrite.proofs.part_applying.has_like.Goals as goal

-- the invariant stays true: a turn passes over a part that is not equal in the order to the one at the index
pub loop-earlier-preserved : goal.loop-earlier-preserved
loop-earlier-preserved g c =
    let xs = c.args.parts.now in
    let x = c.index-parts-index.result in
    let y = c.index-parts-earlier.result in
    let is : y ≡ get_or xs c.loop-earlier.earlier x = get_or_read xs c.loop-earlier.earlier y
    (omega (arith, c.requires, c.loop-earlier-test.true)) c.index-parts-earlier.is x in
    below_more _ _ c.loop-earlier.invariant
    (λ h. c.in_default.not-Equal (c.compare.ensures ∙ ap (λ z. g.P.Part.order z y) c.index-parts-index.is
    ∙ ap (g.P.Part.order (get_or xs c.args.index x)) is ∙ h x))
