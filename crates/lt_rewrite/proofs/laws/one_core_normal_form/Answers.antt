use Rattle.lt_rewrite.proofs.CoreForms.{one_normal_form, steps_keep_normal_form}
use Rattle.lt_rewrite.proofs.laws.one_core_normal_form.Goals as goal

-- each core has one normal form, and a step keeps it: a function (`normal_core`) gives a normal form of each core, the
-- same one before and after a step
pub returns : goal.returns
returns c = record { one = one_normal_form; kept = steps_keep_normal_form }
