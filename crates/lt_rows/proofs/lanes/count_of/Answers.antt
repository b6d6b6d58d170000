use Rattle.std.proofs.Common.{arith}
use Rattle.lt_rows.proofs.LaneLemmas.{count_block, count_rest}
use Rattle.lt_rows.proofs.lanes.count_of.Goals as goal

-- the sum doesn't overflow: the count is at most the number of bytes counted, which are not more than the text has
pub overflow_add-count : goal.overflow_add-count
overflow_add-count c =
    let i = c.loop-at.invariant in
    let one = count_block c.args.byte c.loop-at.at c.args.text.now i.0 c.loop-at.count _
    (omega (arith, c.loop-at-test.true)) i.2 c.count_in_lanes-count.ensures in
    omega (arith, one.0, i.0, i.1, c.loop-at-test.true, c.loop-at.auto.at-fits)

-- a turn keeps the invariant: it counts the next 64 bytes
pub loop-at-preserved : goal.loop-at-preserved
loop-at-preserved c =
    let i = c.loop-at.invariant in
    let one = count_block c.args.byte c.loop-at.at c.args.text.now i.0 c.loop-at.count _
    (omega (arith, c.loop-at-test.true)) i.2 c.count_in_lanes-count.ensures in
    (omega (arith, c.loop-at-test.true, i.0), omega (arith, i.1, one.0), one.1)

-- the clause: fewer than 64 bytes are left, which are counted one by one, and both counts together are that of the text
pub returns : goal.returns
returns c = let i = c.loop-at.invariant in count_rest c.args.byte c.loop-at.at c.args.text.now i.0 c.loop-at.count _ i.2
    c.count_each.ensures
