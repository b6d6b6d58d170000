use Rattle.std.proofs.Common.{Err, Ok, refl}
use Rattle.lt_tool.proofs.ResultLemmas.{is_fault}
use Rattle.lt_tool.proofs.rows.plan_rows.Goals as goal

-- a file is refused, and nothing of the input is read
pub returns-in_err-ground : goal.returns-in_err-ground
returns-in_err-ground g c = record {
  ground = Err c.in_err-ground.field-0.0;
  reads = rw c.is_some.ensures at c.in_err-ground.ensures;
  unread = refl;
  goes_on = is_fault _ _ c.from_residual.ensures.1;
}

-- the files are read, but the column is not found
pub returns-in_err-place : goal.returns-in_err-place
returns-in_err-place g c = record {
  ground = Ok c.in_ok-ground.ground;
  reads = rw c.is_some.ensures at c.in_ok-ground.ensures;
  unread = tt;
  goes_on = (Err c.in_err-place.field-0.0, c.in_err-place.ensures, is_fault _ _ c.from_residual-in_err-place.ensures.1);
}

-- the files are read and the column is found: its number gives the form of the lines
pub returns : goal.returns
returns g c = record {
  ground = Ok c.in_ok-ground.ground;
  reads = rw c.is_some.ensures at c.in_ok-ground.ensures;
  unread = tt;
  goes_on = (Ok c.in_ok-place.place, c.in_ok-place.ensures, rw c.line_form.ensures refl);
}
