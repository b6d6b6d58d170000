use Rattle.std.proofs.Common.{refl}
use Rattle.lt_tool.proofs.ResultLemmas.{registry_had, registry_refused}
use Rattle.lt_tool.proofs.tag_commands.plan_explain.Goals as goal

-- the registry is refused, and that is the fault
pub returns-in_err-checked : goal.returns-in_err-checked
returns-in_err-checked g c = registry_refused _ _ _ _ c.in_err-checked.ensures c.from_residual.ensures.1

-- the registry is had, and the text is kept for the explanation
pub returns : goal.returns
returns g c = registry_had _ _ _ _ c.in_ok-checked.ensures (c.args.text, refl, refl)
