use Rattle.std.proofs.Common.{inl, refl}
use Rattle.lt_tool.proofs.ranges.fault_of.Goals as goal

-- there was memory for the line, so the fault is wrong usage with that line
pub returns-in-Ok : goal.returns-in-Ok
returns-in-Ok c = inl (c.in-Ok.line, c.in-Ok.ensures, refl)
