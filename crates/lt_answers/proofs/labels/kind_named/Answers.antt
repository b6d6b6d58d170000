use Rattle.std.proofs.Common.{arith}
use Rattle.lt_answers.proofs.LineLemmas.{kind_at}
use Rattle.lt_answers.proofs.labels.kind_named.Goals as goal

-- the clause where the answer is None: the loop has passed all 14 kinds of step, and none of them has this name
pub returns : goal.returns
returns c = λ kind named.
    let at = kind_at kind in
    c.loop-kind.invariant at.0 (omega (arith, at.1, c.loop-kind-test.false)) (cc (at.2, named))
