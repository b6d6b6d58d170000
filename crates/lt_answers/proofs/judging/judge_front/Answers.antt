use Rattle.std.proofs.Common.{◌++◌, inl, inr, length, ap, refl, arith}
use Rattle.lt_tag.specs.Texts.{text_of}
use Rattle.lt_answers.specs.StepLines.{end_line}
use Rattle.lt_answers.proofs.LineLemmas.{front_names_nothing, front_other, step_goes_on, step_within}
use Rattle.lt_answers.proofs.judging.judge_front.Goals as goal

-- The clause of `judge_front`, SettlesFront, where the front is longer than a label: a verdict that holds however the
-- line goes on (`more`), or that the front is short enough to be kept.

-- the front is longer than a label and names no step and no end, so the line names none however it goes on
pub returns-in_default-read_step : goal.returns-in_default-read_step
returns-in_default-read_step g c = (
  omega arith,
  λ more. inr
      (inr (
        inr (front_names_nothing c.args.front.now more (omega arith) c.in_default-read_step.ensures
            c.in_default.ensures),
        refl,
      )),
)

-- the front names a step that leads nowhere, and the line names the same step however it goes on
pub returns-in-Err-NoSuchStep : goal.returns-in-Err-NoSuchStep
returns-in-Err-NoSuchStep g c = (
  omega arith,
  λ more. inl (
    record {
      step = c.in-Some-read_step.step;
      text = c.in-Some-read_step.text.now ++ more;
      is_line = step_goes_on more c.in-Some-read_step.ensures;
      stuck = rw c.in-Err-NoSuchStep.field-0-is at
          c.in-Err-NoSuchStep.ensures.err;
    },
    refl,
  ),
)

-- the text is longer than that of the tag to which the step leads, so it stays another however the line goes on
pub returns-then-branch-2 : goal.returns-then-branch-2
returns-then-branch-2 g c = (
  omega arith,
  λ more. inr
      (inr (
        inl (front_other more c.in-Some-read_step.ensures c.in-Ok.ensures.ok
            (rw c.if-branch-2.true at c.in_ok-is_longer-in-Ok.ensures)),
        refl,
      )),
)

-- the text of the end is no longer than that of the tag, so the front may be kept
pub returns-in-Some : goal.returns-in-Some
returns-in-Some g c =
    inr (record {
      line = end_line (text_of c.args.here.now);
      right = inr refl;
      long = omega (arith, rw c.if-branch.false at c.in_ok-is_longer.ensures, ap length c.in-Some.ensures);
    })

-- the text is no longer than that of the tag to which the step leads, so the front may be kept
pub returns-in-Ok : goal.returns-in-Ok
returns-in-Ok g c = step_within c.in-Some-read_step.ensures c.in-Ok.ensures.ok (rw c.if-branch-2.false at c.in_ok-is_longer-in-Ok.ensures)
