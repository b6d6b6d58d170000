use Rattle.std.proofs.Common.{Err, Ok, refl}
use Rattle.lt_tool.proofs.ResultLemmas.{is_fault}
use Rattle.lt_tool.proofs.program.answer_of.Goals as goal

-- no plan was made: the run comes to its fault, and writes nothing
pub returns-in_err-plan : goal.returns-in_err-plan
returns-in_err-plan g c = record {
  planned = Err c.in_err-plan.field-0.0;
  between = c.make_plan.new.input;
  plans = c.in_err-plan.ensures;
  runs = (refl, refl, refl, is_fault _ _ c.from_residual.ensures.1);
}

-- a plan was made, and its run goes on with the input as the plan left it
pub returns : goal.returns
returns g c = record {
  planned = Ok c.in_ok-plan.plan;
  between = c.make_plan.new.input;
  plans = c.in_ok-plan.ensures;
  runs = c.run.ensures;
}
