use Rattle.std.proofs.Common.{◌≡◌, ◌↔◌, arith, eqb, get_or, length-take-le, subst, sym, take, w8}
use Rattle.std.proofs.lemmas.Simd.{bitmask_splat}
use Rattle.std.specs.Int.{bit_at}
use Rattle.lt_rows.proofs.LaneLemmas.{bit_of}
use Rattle.lt_rows.proofs.lanes.bits_of.Goals as goal

-- the clause, at a place k below 64: bit k of the mask is the answer of the comparison there
pub returns : goal.returns
returns c k below =
    let text = c.args.text.now in
    subst (λ m. (bit_at m k ≡ 1) ↔ (get_or text k 0 ≡ c.args.byte))
    (sym (bitmask_splat w8 eqb (take 64 text) 64 c.args.byte (length-take-le 64 text c.requires) (omega arith)))
    (bit_of c.args.byte text k c.requires below)
