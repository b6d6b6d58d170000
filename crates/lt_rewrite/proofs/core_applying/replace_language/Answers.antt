use Rattle.std.proofs.Common.{ℕ, List, Some, refl, sym, ap, ◌∙◌, subst, arith}
use Rattle.lt_registry.specs.declared.entries.Kind.TheVariants as kinds
use Rattle.lt_rewrite.specs.Applying.{IsValueBy, CoreLeads}
use Rattle.lt_rewrite.specs.CoreSteps.{at_language}
use Rattle.lt_rewrite.proofs.CoreSteps.{none_of, there_alone}
use Rattle.lt_rewrite.proofs.CoreLeading.{leads_at}
use Rattle.lt_rewrite.proofs.core_applying.replace_language.Goals as goal

-- the step leads to this core: there are no extlangs, and the value is that of the language, by the record with the
-- step's number
pub returns-in-Some : goal.returns-in-Some
returns-in-Some g c =
    let R = g.L.Lookup.listed c.args.table.now in
    let core = c.args.core.now in
    let v : List ℕ = c.in-Some.value.now in
    let by = subst (λ l. IsValueBy R kinds.Language l c.args.step.number v) c.language.ensures.value c.in-Some.ensures.value in
    subst (CoreLeads R c.args.start core c.args.step)
    (sym (c.set_language.ensures ∙ ap (λ (l : List ℕ). record core { language = l }) c.copy.ensures))
    (leads_at R c.args.start core c.args.step at_language core.language v c.requires.kind (omega (arith, c.if-step-start.false)) (sym by.by)
    (there_alone core (Some core.language) core.language (sym c.extlangs.ensures.value
    ∙ none_of c.extlangs.result.now (sym c.is_empty.ensures ∙ c.if-not-is_empty.false)) refl) by.has)
