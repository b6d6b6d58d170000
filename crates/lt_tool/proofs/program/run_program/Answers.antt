use Rattle.std.proofs.Common.{Err, Ok, refl}
use Rattle.lt_tool.proofs.program.run_program.Goals as goal

-- the files are opened, and the command is carried out over them
pub returns-in-Ok : goal.returns-in-Ok
returns-in-Ok g c = record {
  files = Ok c.in-Ok.files;
  between = c.prepare.new.input;
  prepares = c.in-Ok.ensures;
  goes_on = (c.carry_out.new.files, c.carry_out.ensures);
}

-- a file can't be opened or the input can't be read: that fault is told, and no line is tallied
pub returns-in-Err : goal.returns-in-Err
returns-in-Err g c = record {
  files = Err c.in-Err.fault;
  between = c.prepare.new.input;
  prepares = c.in-Err.ensures;
  goes_on = (refl, c.new.ensures, c.finish.ensures);
}
