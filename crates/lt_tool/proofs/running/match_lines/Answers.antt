use Rattle.std.proofs.Common.{refl}
use Rattle.lt_tool.proofs.running.match_lines.Goals as goal

-- with a scheme the lines are written that match by it
pub returns-in-Some : goal.returns-in-Some
returns-in-Some g c = rw c.in-Some.is (c.select_lines.result, rw c.deref.ensures.value at c.select_lines.ensures, c.selected.ensures)

-- without a scheme one line is looked up, and nothing is written yet
pub returns-in-None : goal.returns-in-None
returns-in-None g c = rw c.in-None.is (refl, c.look_up.ensures)
