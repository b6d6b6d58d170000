use Rattle.std.proofs.Common.{◌≡◌, ℕ, List, [], ◌∷◌, refl, sym, ap, ◌∙◌, subst, arith}
use Rattle.lt_tag.specs.Parts.{CoreParts}
use Rattle.lt_rewrite.specs.Applying.{CoreLeads}
use Rattle.lt_rewrite.specs.CoreSteps.{at_extlang}
use Rattle.lt_rewrite.proofs.CoreSteps.{extlang_there, sole}
use Rattle.lt_rewrite.proofs.CoreLeading.{leads_at}
use Rattle.lt_rewrite.proofs.core_applying.replace_extlang.Goals as goal

-- the step leads to this core: the only extlang is at this place and has this record; it is dropped, and its
-- replacement is the language
pub returns : goal.returns
returns g c =
    let R = g.L.Lookup.listed c.args.table.now in
    let core = c.args.core.now in
    let x : List ℕ = c.extlang-item.result in
    let one : core.extlangs ≡ x ∷ [] = sym c.extlangs.ensures.value ∙ sole c.extlangs.result.now x c.extlang-item.is (omega arith) in
    subst (CoreLeads R c.args.start core c.args.step)
    (sym (c.set_language.ensures
    ∙ ap (λ (d : CoreParts). record d { language = c.replacement-language.result }) c.drop_extlangs.ensures
    ∙ ap (λ l. record core { language = l; extlangs = [] }) c.replacement-language.ensures.value))
    (leads_at R c.args.start core c.args.step at_extlang x _ c.requires.kind (omega (arith, c.if-step-start.false))
    (omega (arith, c.record_number.ensures, c.if-step-record_number.false)) (extlang_there core x one) refl)
