use Rattle.std.proofs.Common.{refl}
use Rattle.lt_tool.proofs.ResultLemmas.{prints_line, prints_none}
use Rattle.lt_tool.proofs.printing.print_fault.Goals as goal

-- memory ran out for the line, so nothing is printed
pub returns-in_err-line : goal.returns-in_err-line
returns-in_err-line g c = prints_none _ _ _ refl c.from_residual.ensures.1

-- the line is that of the fault, and it is what is written
pub returns : goal.returns
returns g c = prints_line _ _ _ _ c.in_ok-line.ensures (rw c.deref.ensures.value at c.write_text.ensures)
