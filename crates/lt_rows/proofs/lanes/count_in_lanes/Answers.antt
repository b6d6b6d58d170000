use Rattle.std.proofs.Common.{◌∙◌, ap, arith, eqb, length-take-le, take, w8}
use Rattle.std.proofs.lemmas.Simd.{bitmask_splat, ones-mask_l}
use Rattle.std.specs.Prelude.{count_ones}
use Rattle.lt_rows.proofs.lanes.count_in_lanes.Goals as goal

-- the mask has one bit set for each of the 64 bytes that is equal to `byte`
pub returns : goal.returns
returns c =
    let text = c.args.text.now in
    ap count_ones (bitmask_splat w8 eqb (take 64 text) 64 c.args.byte (length-take-le 64 text c.requires) (omega arith))
    ∙ ones-mask_l (λ x. eqb x c.args.byte) (take 64 text)
