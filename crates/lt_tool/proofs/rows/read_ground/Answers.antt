use Rattle.std.proofs.Common.{Err, Ok, refl}
use Rattle.lt_tool.proofs.ResultLemmas.{is_fault}
use Rattle.lt_tool.proofs.rows.read_ground.Goals as goal

-- the registry is refused, and the second file is not read
pub returns-in_err-checked : goal.returns-in_err-checked
returns-in_err-checked g c = record {
  had = Err c.in_err-checked.field-0.0;
  reads = c.in_err-checked.ensures;
  unread = refl;
  goes_on = is_fault _ _ c.from_residual.ensures.1;
}

-- the registry is had, but the table of codes is refused
pub returns-in_err-codes : goal.returns-in_err-codes
returns-in_err-codes g c = record {
  had = Ok c.in_ok-checked.checked;
  reads = c.in_ok-checked.ensures;
  unread = tt;
  goes_on = (Err c.in_err-codes.field-0.0, c.in_err-codes.ensures, is_fault _ _ c.from_residual-in_err-codes.ensures.1);
}

-- the registry is had, and the table of codes too, or none is named
pub returns : goal.returns
returns g c = record {
  had = Ok c.in_ok-checked.checked;
  reads = c.in_ok-checked.ensures;
  unread = tt;
  goes_on = (Ok c.in_ok-codes.codes, c.in_ok-codes.ensures, refl);
}
