use Rattle.std.proofs.Common.{refl}
use Rattle.lt_tool.proofs.program.open_file.Goals as goal

-- without a name nothing is opened
pub returns-in-None : goal.returns-in-None
returns-in-None g c = rw c.in-None.is (refl, refl)

-- a name is opened as `open_named` opens it
pub returns-in-Some : goal.returns-in-Some
returns-in-Some g c = rw c.in-Some.is c.open_named.ensures
