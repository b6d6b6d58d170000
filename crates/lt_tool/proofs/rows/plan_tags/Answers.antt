use Rattle.std.proofs.Common.{Err, Ok, refl}
use Rattle.lt_tool.proofs.ResultLemmas.{is_fault}
use Rattle.lt_tool.proofs.rows.plan_tags.Goals as goal

-- a file is refused, and that is the fault
pub returns-in_err-ground : goal.returns-in_err-ground
returns-in_err-ground g c = record {
  ground = Err c.in_err-ground.field-0.0;
  reads = c.in_err-ground.ensures;
  goes_on = is_fault _ _ c.from_residual.ensures.1;
}

-- the files are read, and each line is a tag
pub returns : goal.returns
returns g c = record { ground = Ok c.in_ok-ground.ground; reads = c.in_ok-ground.ensures; goes_on = refl }
