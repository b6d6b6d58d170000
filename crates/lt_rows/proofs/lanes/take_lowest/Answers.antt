use Rattle.std.proofs.Common.{◌*◌, ◌%◌, ◌^◌, arith, w64}
use Rattle.std.specs.Int.{bit_not, trailing_zeros}
use Rattle.std.proofs.lemmas.Nat.Bits.{bit_at-trailing_zeros, bit_at_and, bit_at_clear_other, bit_at_clear_same}
use Rattle.lt_rows.proofs.LaneLemmas.{lowest_next, lowest_there, none_set, others_set}
use Rattle.lt_rows.proofs.lanes.take_lowest.Goals as goal

-- The clauses of `take_lowest`, for any byte, start and row whose places the bits are.

-- no bit is set, so the byte is nowhere in what is left of the row
pub returns-then-all-eq0-clause-next : goal.returns-then-all-eq0-clause-next
returns-then-all-eq0-clause-next c = λ byte start row are. none_set byte start row c.args.bits.now are (omega (arith, c.if-all-eq0.true))

-- the lowest bit that is set is at the byte's next place
pub returns-clause-next : goal.returns-clause-next
returns-clause-next c = λ byte start row are.
    let h = bit_at-trailing_zeros w64 c.args.bits.now (omega (arith, c.if-all-eq0.false)) (omega arith) in
    lowest_next byte start row c.args.bits.now are _ h.1 h.2

-- a bit is set only at a place of the row
pub returns-clause-inside : goal.returns-clause-inside
returns-clause-inside c = λ byte start row are.
    let h = bit_at-trailing_zeros w64 c.args.bits.now (omega (arith, c.if-all-eq0.false)) (omega arith) in
    (lowest_there byte start row c.args.bits.now are _ h.1 h.2).1

-- the other bits are those of the places behind the lowest
pub returns-clause-rest : goal.returns-clause-rest
returns-clause-rest c = λ byte start row are.
    let bits = c.args.bits.now in
    let h = bit_at-trailing_zeros w64 bits (omega (arith, c.if-all-eq0.false)) (omega arith) in
    others_set byte start row bits are _ h.1 h.2 _ (bit_at_clear_same w64 bits _ h.0)
    (λ k low apart. bit_at_clear_other w64 bits _ h.0 k low apart)
    (λ k set. omega (arith, set, bit_at_and bits (bit_not w64 (1 * 2 ^ trailing_zeros w64 bits % 2 ^ 64)) k))
