use Rattle.std.proofs.Common.{ℕ, List, Some, sym, ap, ◌∙◌, subst, arith}
use Rattle.std.specs.Option.{option_copied}
use Rattle.lt_rewrite.specs.Applying.{CoreLeads}
use Rattle.lt_rewrite.specs.CoreSteps.{at_region}
use Rattle.lt_rewrite.proofs.CoreLeading.{leads_at}
use Rattle.lt_rewrite.proofs.core_applying.replace_region.Goals as goal

-- the step leads to this core: the region is at this place, and the value is that of the record with the step's number
pub returns-in-Some-value_by : goal.returns-in-Some-value_by
returns-in-Some-value_by g c =
    let R = g.L.Lookup.listed c.args.table.now in
    let core = c.args.core.now in
    subst (CoreLeads R c.args.start core c.args.step)
    (sym (c.set_region.ensures ∙ ap (λ (l : List ℕ). record core { region = Some l }) c.copy.ensures))
    (leads_at R c.args.start core c.args.step at_region c.in-Some.region.now c.in-Some-value_by.value.now
    c.requires.kind (omega (arith, c.if-step-start.false, c.before_region.ensures.value))
    (sym c.in-Some-value_by.ensures.value.by)
    (sym c.region.ensures.value ∙ ap option_copied c.in-Some.is) c.in-Some-value_by.ensures.value.has)
