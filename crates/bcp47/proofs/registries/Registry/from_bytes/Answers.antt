use Rattle.std.proofs.Common.{Err, Ok}
use Rattle.bcp47.proofs.registries.Registry.from_bytes.Goals as goal

-- the answer is that of a reading of the bytes: they have entries, and these are judged by the check
pub returns-in-Ok : goal.returns-in-Ok
returns-in-Ok c = (Ok c.in-Ok.entries, c.in-Ok.ensures, c.check_entries.ensures)

-- the same where the bytes have no entries: the error is made of their fault
pub returns-in-Err : goal.returns-in-Err
returns-in-Err c = (Err c.in-Err.fault, c.in-Err.ensures, c.from.ensures)
