use Rattle.std.proofs.Common.{ℕ, leb, cond, refl, ◌∙◌}
use Rattle.std.specs.Char.{to_ascii_lowercase}
use Rattle.std.proofs.lemmas.Simd.{zip2_splat, splat_is_map, length-chunk}
use lib.Lanes.{chunk}
use Rattle.lt_subtag.proofs.LaneLemmas.{joined, itself, selected, lanes_agree, bytes_of}
use Rattle.lt_subtag.proofs.lanes.fold_8.Goals as goal

-- the array given is the first eight bytes in lower case: in each lane, as in `to_ascii_lowercase`, the bit 32 is set
-- in a capital (the 26 from `A`, 65, on), and any other byte stays
pub returns : goal.returns
returns c =
    let v = chunk 0 8 c.args.text.now in
    let long = length-chunk 0 8 c.args.text.now c.requires in
    selected _ _ _ v (joined (λ a b. cond (leb a b) 255 0) _ _ v (splat_is_map v 8 26 long)
    (zip2_splat {Y = ℕ} _ v 8 65 long)) (itself v) (zip2_splat {Y = ℕ} _ v 8 32 long)
    ∙ lanes_agree _ to_ascii_lowercase refl v (bytes_of 0 8 c.args.text.now c.type_inv.text)
