use Rattle.bcp47_c.specs.declared.steps.StepNumbers.{StepNumbers}
use Rattle.bcp47_c.proofs.Fronts.{front_until, front_of_all}
use Rattle.bcp47_c.proofs.steps.front_steps.Goals.{else-loop-numbers-test, then-loop-numbers-test+in_default}
use Rattle.bcp47_c.proofs.steps.front_steps.Goals as goal

-- numbers that stand for what is beyond the last ones; they are not looked at
abbrev none : StepNumbers
none = record { kind = 0; place = 0; number = 0 }

-- the loop ended since no numbers are left, or at the first numbers that are no step
pub returns : goal.returns
returns c =
    let told = c.args.told.now in
    let steps = c.loop-numbers.steps.items in
    let i = c.loop-numbers.numbers-index in
    elim c.loop-numbers-test.branch [
      | else-loop-numbers-test w ↦ front_of_all told steps i w.loop-numbers-test.false c.loop-numbers.invariant
      | then-loop-numbers-test+in_default w ↦ front_until told steps i none w.loop-numbers-test.true
          c.loop-numbers.invariant (w.in_default.ensures {u = tt})
    ]
