use Rattle.std.proofs.Common.{Err, Ok, refl}
use Rattle.lt_tool.proofs.ResultLemmas.{is_fault}
use Rattle.lt_tool.proofs.program.prepare.Goals as goal

-- the input can't be read, so no file is opened
pub returns-in_err-ask : goal.returns-in_err-ask
returns-in_err-ask g c = record {
  asks = Err c.in_err-ask.field-0.0;
  is_asked = c.in_err-ask.ensures;
  unopened = refl;
  goes_on = is_fault _ _ c.from_residual.ensures.1;
}

-- the input can be read or is not asked, and then the files are opened
pub returns : goal.returns
returns g c = record { asks = Ok tt; is_asked = c.in_ok-ask.ensures; unopened = tt; goes_on = c.open_files.ensures }
