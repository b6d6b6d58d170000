use Rattle.std.proofs.Common.{arith, subst, sym}
use Rattle.std.proofs.lemmas.Result.{IfErr-weaker}
use Rattle.bcp47_c.specs.Traces.{IsToldFault}
use Rattle.bcp47_c.proofs.Fronts.{whole_fault, led_on, front_fault}
use Rattle.bcp47_c.proofs.traces.judge.Goals as goal

-- all numbers are steps, so a fault of the steps is one of the numbers
pub returns-then-count-told-clause-fault : goal.returns-then-count-told-clause-fault
returns-then-count-told-clause-fault c =
    IfErr-weaker c.verify-judged.result _ _ (λ fault owed.
    whole_fault c.args.registry.now c.args.tag.now c.args.last c.args.told.now c.in_ok-steps.steps.items fault
    (c.in_ok-steps.ensures {u = tt}) (omega (arith, c.if-count-told.true, c.len-count.ensures)) owed)
    c.verify-judged.ensures.err

-- the steps lead to the last tag, but more numbers follow, the first of which are no step
pub returns-in-Ok-clause-fault : goal.returns-in-Ok-clause-fault
returns-in-Ok-clause-fault c =
    led_on c.args.registry.now c.args.tag.now c.args.last c.args.told.now c.in_ok-steps.steps.items _
    (c.in_ok-steps.ensures {u = tt}) (λ e. c.if-count-told.false (omega (arith, c.len-count.ensures, e)))
    (omega (arith, c.len-count.ensures)) ((c.in-Ok.ensures {u = tt}).ok)

-- the steps before the first numbers that are no step have a fault; another end counts as no step there
pub returns-in-Err-clause-fault : goal.returns-in-Err-clause-fault
returns-in-Err-clause-fault c =
    let told = c.args.told.now in
    let steps = c.in_ok-steps.steps.items in
    let owed = (c.in-Err.ensures {u = tt}).err in
    subst (IsToldFault c.args.registry.now c.args.tag.now told c.args.last) (sym c.of_front.ensures)
    (front_fault c.args.registry.now c.args.tag.now c.args.last told steps _ c.in-Err.fault
    (c.in_ok-steps.ensures {u = tt}) (λ e. c.if-count-told.false (omega (arith, c.len-count.ensures, e)))
    (omega (arith, c.len-count.ensures)) owed)
