use Rattle.std.proofs.Common.{◌≡◌, arith, bit_or}
use Rattle.lt_rows.proofs.LaneLemmas.{free_block, neither_set}
use Rattle.lt_rows.proofs.lanes.free_front.Goals as goal

-- a turn keeps the invariant: no bit is set for the next 64 bytes, so neither byte is among them
pub loop-at-preserved : goal.loop-at-preserved
loop-at-preserved c =
    let i = c.loop-at.invariant in
    let text = c.args.text.now in
    let none : bit_or c.bits_of.result c.bits_of-in-loop-at.result ≡ 0 = omega (arith, c.if-bits_of-ne0.false) in (
      omega (arith, c.loop-at-test.true, i.0),
      free_block c.args.one c.loop-at.at text _ (omega (arith, c.loop-at-test.true)) i.0 c.bits_of.ensures
          (λ k. (neither_set _ _ k none).0) i.1,
      free_block c.args.other c.loop-at.at text _ (omega (arith, c.loop-at-test.true)) i.0 c.bits_of-in-loop-at.ensures
          (λ k. (neither_set _ _ k none).1) i.2,
    )
