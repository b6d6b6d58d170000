use Rattle.std.proofs.Common.{ℕ, List, Some, sym, ap, ◌∙◌, subst, arith}
use Rattle.std.specs.Option.{option_copied}
use Rattle.lt_rewrite.specs.Applying.{CoreLeads}
use Rattle.lt_rewrite.specs.CoreSteps.{at_script}
use Rattle.lt_rewrite.proofs.CoreLeading.{leads_at}
use Rattle.lt_rewrite.proofs.core_applying.replace_script.Goals as goal

-- the step leads to this core: the script is at this place, and the value is that of the record with the step's number
pub returns-in-Some-value_by : goal.returns-in-Some-value_by
returns-in-Some-value_by g c =
    let R = g.L.Lookup.listed c.args.table.now in
    let core = c.args.core.now in
    subst (CoreLeads R c.args.start core c.args.step)
    (sym (c.set_script.ensures ∙ ap (λ (l : List ℕ). record core { script = Some l }) c.copy.ensures))
    (leads_at R c.args.start core c.args.step at_script c.in-Some.script.now c.in-Some-value_by.value.now
    c.requires.kind (omega (arith, c.if-step-start.false, c.before_script.ensures.value))
    (sym c.in-Some-value_by.ensures.value.by)
    (sym c.script.ensures.value ∙ ap option_copied c.in-Some.is) c.in-Some-value_by.ensures.value.has)
