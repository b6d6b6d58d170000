use Rattle.std.proofs.Common.{ℕ, leb, cond, bit_and, refl, arith}
use Rattle.std.specs.Char.{is_ascii_alphanumeric}
use Rattle.std.proofs.lemmas.Simd.{zip2_splat, splat_is_map, length-chunk}
use lib.Lanes.{chunk}
use Rattle.lt_subtag.proofs.LaneLemmas.{joined, front_of}
use Rattle.lt_subtag.proofs.lanes.run_of_8.Goals as goal

-- The answer is how many of the first eight bytes are letters and digits, up to one that is neither. A bit of the mask
-- is set exactly where a byte is neither, and the lowest is found. (97 is `a`, 48 is `0`, 32 the bit of lower case.)
pub returns : goal.returns
returns c =
    let v = chunk 0 8 c.args.text.now in
    let long = length-chunk 0 8 c.args.text.now c.requires in
    front_of is_ascii_alphanumeric c.args.text.now 0 8 _ _ c.requires (omega arith) c.type_inv.text c.first_set.ensures _
    (joined bit_and _ _ v
    (joined (λ a b. cond (leb a b) 255 0) _ _ v (splat_is_map v 8 26 long)
    (joined _ _ _ v (zip2_splat {Y = ℕ} _ v 8 32 long) (splat_is_map v 8 97 long)))
    (joined (λ a b. cond (leb a b) 255 0) _ _ v (splat_is_map v 8 10 long) (zip2_splat {Y = ℕ} _ v 8 48 long))) refl
