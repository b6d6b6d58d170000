use Rattle.std.proofs.Common.{refl}
use Rattle.lt_tool.proofs.ResultLemmas.{registry_had, registry_refused}
use Rattle.lt_tool.proofs.tag_commands.equal.Goals as goal

-- the registry is refused, and that is the fault
pub returns-in_err-checked : goal.returns-in_err-checked
returns-in_err-checked g c = registry_refused _ _ _ _ c.in_err-checked.ensures c.from_residual.ensures.1

-- the registry is had, and both texts are tags that can be compared
pub returns-in-Ok : goal.returns-in-Ok
returns-in-Ok g c = registry_had _ _ _ _ c.in_ok-checked.ensures (c.in-Ok.equal, c.in-Ok.ensures.answer, refl)
