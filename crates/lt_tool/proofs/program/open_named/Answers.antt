use Rattle.std.proofs.Common.{Err, Ok, refl, rules}
use Rattle.lt_tool.proofs.program.open_named.Goals as goal

-- the opener gave a file for the path that the name means
pub returns-in-Ok : goal.returns-in-Ok
returns-in-Ok g c = record {
  path = c.path_of-path.result.now;
  is_path = c.path_of-path.ensures;
  answer = Ok c.in-Ok.file;
  called = search rules;
  is_opened = refl;
}

-- the opener gave an error for that path, and the fault tells it
pub returns-in-Err : goal.returns-in-Err
returns-in-Err g c = record {
  path = c.path_of-path.result.now;
  is_path = c.path_of-path.ensures;
  answer = Err c.in-Err.error;
  called = search rules;
  is_opened = (c.file_fault.result, c.file_fault.ensures, refl);
}
