use Rattle.std.proofs.Common.{◌≡◌, Some, sym, ap, ◌∙◌, subst}
use Rattle.std.proofs.lemmas.Result.{IfOk-weaker}
use Rattle.lt_tag.specs.Parts.{CoreParts, TForm}
use Rattle.lt_rewrite.specs.Applying.{CoreLeads}
use Rattle.lt_rewrite.specs.Runs.{NoneLeads, AddsOnTransform}
use Rattle.lt_rewrite.proofs.PartRuns.{t_parts, source_explained}
use Rattle.lt_rewrite.proofs.transform_explaining.explain_source.Goals as goal

-- a run on the source is one on the parts, since the steps on the source come before those on the fields
pub returns-clause-adds : goal.returns-clause-adds
returns-clause-adds g c =
    let R = g.L.Lookup.listed c.args.table.now in
    let fs = c.parts.inside.fields.items in
    let from = c.in-Some.source in
    let to = c.take_core_steps.new.core in
    let is : t_parts (Some from) fs ≡ c.args.parts.now = ap (λ o. t_parts o fs) (sym c.in-Some.is) ∙ c.parts.view_is in
    IfOk-weaker c.take_core_steps.result _ _
    (λ _ h. subst (λ (p : TForm). AddsOnTransform R c.args.start p (t_parts (Some to) fs) c.args.steps.now.items
    c.take_core_steps.new.steps.items) is
    (source_explained R c.args.start from to fs c.args.steps.now.items c.take_core_steps.new.steps.items h))
    c.take_core_steps.ensures.adds

-- no step leads on from the core to which the run led, which is now the source
pub returns-clause-at_rest : goal.returns-clause-at_rest
returns-clause-at_rest g c =
    IfOk-weaker c.take_core_steps.result _ _
    (λ _ h d e. let same : c.take_core_steps.new.core ≡ d = cc in
    subst (λ (x : CoreParts). NoneLeads (CoreLeads (g.L.Lookup.listed c.args.table.now) c.args.start x)) same h)
    c.take_core_steps.ensures.at_rest
