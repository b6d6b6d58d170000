use Rattle.std.proofs.Common.{refl}
use Rattle.lt_tool.proofs.registries.read_registry.Goals as goal

-- the file gave a table that passed the check
pub returns-in-Ok : goal.returns-in-Ok
returns-in-Ok g c = let r = c.in-Ok.ensures in record { reading = r.reading; reads = r.reads; holds = r.holds }

-- the file is refused, and the fault says which of the registries it is
pub returns-in-Err : goal.returns-in-Err
returns-in-Err g c = let r = c.in-Err.ensures in record { reading = r.reading; reads = r.reads; holds = (c.in-Err.refusal, r.holds, refl) }
