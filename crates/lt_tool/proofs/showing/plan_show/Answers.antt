use Rattle.std.proofs.Common.{Err, Ok, refl}
use Rattle.lt_tool.proofs.showing.plan_show.Goals as goal

-- the file was read with its records, and its entries are judged
pub returns-in-Ok : goal.returns-in-Ok
returns-in-Ok g c = record { reading = Ok c.in-Ok.both; reads = c.in-Ok.ensures; plans_by = c.plan_kept.ensures }

-- the file was not read, and the refusal is made of that fault
pub returns-in-Err : goal.returns-in-Err
returns-in-Err g c = record {
  reading = Err c.in-Err.fault;
  reads = c.in-Err.ensures;
  plans_by = (c.refusal_of.result, c.refusal_of.ensures, refl);
}
