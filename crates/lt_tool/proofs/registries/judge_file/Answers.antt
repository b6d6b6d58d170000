use Rattle.std.proofs.Common.{Err, Ok}
use Rattle.lt_tool.proofs.registries.judge_file.Goals as goal

-- the file was read, and its entries are judged
pub returns-in-Ok : goal.returns-in-Ok
returns-in-Ok g c = record { reading = Ok c.in-Ok.registry; reads = c.in-Ok.ensures; holds = c.check_entries.ensures }

-- the file was not read, and the refusal is made of that fault
pub returns-in-Err : goal.returns-in-Err
returns-in-Err g c = record { reading = Err c.in-Err.fault; reads = c.in-Err.ensures; holds = c.from.ensures }
