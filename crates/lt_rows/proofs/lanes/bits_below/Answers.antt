use Rattle.std.proofs.Common.{◌-◌, ◌∙◌, ap, arith, bit_and, pow_pos, sym}
use Rattle.std.specs.Int.{bit_at}
use Rattle.memchr.proofs.lemmas.BitLemmas.{bit_at_low_kept, bit_at_low_only, shl_one}
use Rattle.lt_rows.proofs.lanes.bits_below.Goals as goal

-- `(1 << count) - 1` doesn't fall below 0, since 1 << count, a power of two, is at least 1
pub overflow_sub-result : goal.overflow_sub-result
overflow_sub-result c = omega (arith, shl_one c.args.count c.requires, pow_pos c.args.count)

-- the clause: 2^count - 1 has just the lowest `count` bits set, so just these are kept
pub returns : goal.returns
returns c k =
    let bits = c.args.bits in
    let count = c.args.count in
    let same = ap (λ x. bit_at (bit_and bits (x - 1)) k) (shl_one count c.requires) in (
      λ set. let low = bit_at_low_only bits count k (sym same ∙ set) in
          (low, sym (bit_at_low_kept bits count k low) ∙ sym same ∙ set),
      λ both. same
          ∙ bit_at_low_kept bits count k both.0 ∙ both.1,
    )
