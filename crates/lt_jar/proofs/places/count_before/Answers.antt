use Rattle.std.proofs.Common.{◌∙◌, arith, eqb, length-take-le, sym, take, w8}
use Rattle.std.proofs.lemmas.Simd.{bitmask_splat}
use Rattle.lt_jar.proofs.PlaceLemmas.{none_of_lanes, first_of_lanes}
use Rattle.lt_jar.proofs.places.count_before.Goals as goal

-- no bit is set, so none of the first 32 bytes is the byte, and all of them come before it
pub returns-then-bits-eq0 : goal.returns-then-bits-eq0
returns-then-bits-eq0 c =
    let front = take 32 c.args.text.now in
    let long = length-take-le 32 c.args.text.now c.requires in
    sym (none_of_lanes c.args.byte front _ (bitmask_splat w8 eqb front 32 c.args.byte long (omega arith)) (omega
    (arith, c.if-bits-eq0.true)) ∙ long)

-- the lowest bit that is set is that of the first place of the byte, so its number is how many bytes come before that
pub returns-else-bits-eq0 : goal.returns-else-bits-eq0
returns-else-bits-eq0 c =
    let front = take 32 c.args.text.now in
    let long = length-take-le 32 c.args.text.now c.requires in
    first_of_lanes c.args.byte front _ (bitmask_splat w8 eqb front 32 c.args.byte long (omega arith))
    (omega (arith, long)) (omega (arith, c.if-bits-eq0.false))
