use Rattle.std.proofs.Common.{inr, refl}
use Rattle.lt_tool.proofs.ShownLemmas.{plans_shown}
use Rattle.lt_tool.proofs.showing.plan_kept.Goals as goal

-- the entries pass the check, and they are those of the registry of the file
pub returns-in-Ok : goal.returns-in-Ok
returns-in-Ok c = plans_shown c.args.tags c.args.both.0 c.in-Ok.checked c.args.both.1 c.in-Ok.ensures

-- the entries do not pass the check
pub returns-in-Err : goal.returns-in-Err
returns-in-Err c = inr (c.in-Err.refusal, c.in-Err.ensures, refl)
