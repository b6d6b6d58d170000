use Rattle.std.proofs.Common.{sym, subst}
use Rattle.lt_tag.specs.Parts.{TForm}
use Rattle.lt_tag.specs.Extensions.{IsT}
use Rattle.lt_rewrite.specs.Applying.{TransformLeads}
use Rattle.lt_rewrite.specs.Runs.{kind_rank, AddsOnTransform}
use Rattle.lt_rewrite.proofs.PartRuns.{IsSourceAtRest, t_parts, fields_explained, transform_rests}
use Rattle.lt_rewrite.proofs.FirstSteps.{adds_all, adds_keeps}
use Rattle.lt_rewrite.proofs.CoreLaws.{step_shaped}
use Rattle.lt_rewrite.proofs.PartForms.{t_shaped}
use Rattle.lt_rewrite.proofs.transform_explaining.explain_t.Goals as goal

-- the run on the source and then the one on the fields are one run on the parts, after which no step is left; each step
-- keeps the shape of the parts
pub returns : goal.returns
returns g c =
    let R = g.L.Lookup.listed c.args.table.now in
    let start = c.args.start in
    let source = c.parts.inside.source in
    let gs = c.explain_swaps.new.parts.items in
    let rest : IsSourceAtRest R start source = subst (λ (p : TForm). IsSourceAtRest R start p.source)
    (sym c.parts.view_is) c.in_ok-explain_source.ensures.at_rest in
    let first = subst (λ (p : TForm). AddsOnTransform R start c.args.parts.now p c.args.steps.now.items
    c.explain_source.new.steps.items) (sym c.parts.view_is) c.in_ok-explain_source.ensures.adds in
    let swaps = rw c.source_length.ensures.value at c.in_ok-explain_swaps.ensures.adds in
    let settled = rw c.source_length.ensures.value at c.in_ok-explain_swaps.ensures.at_rest in
    let adds : AddsOnTransform R start c.args.parts.now (t_parts source gs) c.args.steps.now.items c.explain_swaps.new.steps.items =
    adds_all (TransformLeads R start) (λ _ step. kind_rank step) _ _ _ _ _ _ first (fields_explained R start source rest swaps) in
    record {
      adds = adds;
      at_rest = transform_rests R start source gs rest settled;
      shaped = adds_keeps (TransformLeads R start) (λ _ step. kind_rank step) IsT
          (λ a b step l i. t_shaped R (step_shaped R c.recall_forms.ensures) a b l.0 i) _ _ _ _ adds;
    }
