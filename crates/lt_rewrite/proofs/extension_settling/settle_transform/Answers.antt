use Rattle.std.proofs.Common.{false, Option, Some, List, sym, ap, ◌∙◌, subst, length}
use Rattle.lt_tag.specs.Parts.{CoreParts, FieldParts, TForm}
use Rattle.lt_tag.specs.contracts.parts.TParts.{the_view}
use Rattle.lt_rewrite.specs.Rewriting.{IsNormalForm}
use Rattle.lt_rewrite.specs.Orderings.{ListStep}
use Rattle.lt_rewrite.specs.Extensions.{separator_cmp, TransformStep}
use Rattle.lt_tag.specs.Extensions.{spell_t, IsT}
use Rattle.lt_rewrite.proofs.CoreLaws.{step_shaped}
use Rattle.lt_rewrite.proofs.NormalForms.{star_keeps, star_no_more}
use Rattle.lt_rewrite.proofs.PartForms.{OnSome, none_settles, source_settles, transform_settles, t_shaped, t_step_length}
use Rattle.lt_rewrite.proofs.extension_settling.settle_transform.Goals as goal
use Rattle.lt_rewrite.proofs.extension_settling.settle_transform.Goals.{in-Some, in_default}

-- the fields are in order, and the source, if there is one, is in its normal form, so no step is left
pub returns-clause-settled : goal.returns-clause-settled
returns-clause-settled g c =
    let R = g.L.Lookup.listed c.args.table.now in
    let p : TForm = c.args.parts.now in
    let fields : IsNormalForm (ListStep false separator_cmp) p.fields c.put_in_order.new.parts.items =
    subst (λ (fs : List FieldParts). IsNormalForm (ListStep false separator_cmp) fs c.put_in_order.new.parts.items)
    (ap (λ (t : TForm). t.fields) c.parts.view_is) c.put_in_order.ensures in
    let source = ap (λ (t : TForm). t.source) c.parts.view_is in
    elim c.match-parts.branch [
      | in-Some w ↦
          subst (IsNormalForm (TransformStep R) p) (sym (ap the_view w.parts-inside-is))
          (transform_settles R p (record { source = Some w.settle_along.new.core; fields = c.put_in_order.new.parts.items })
          (subst (λ (o : Option CoreParts). IsNormalForm (OnSome R) o (Some w.settle_along.new.core)) (sym w.in-Some.is
          ∙ source) (source_settles R w.settle_along.ensures)) fields)
      | in_default w ↦
          subst (IsNormalForm (TransformStep R) p) (sym (ap the_view w.parts-inside-is))
          (transform_settles R p (record { source = c.parts.inside.source; fields = c.put_in_order.new.parts.items })
          (subst (λ (o : Option CoreParts). IsNormalForm (OnSome R) o c.parts.inside.source) source
          (subst (λ (o : Option CoreParts). IsNormalForm (OnSome R) o o) (sym w.in_default.is) (none_settles R)))
          fields)
    ]

-- each step to the normal form keeps the shape of the parts
pub returns-clause-shaped : goal.returns-clause-shaped
returns-clause-shaped g c =
    star_keeps IsT
    (t_shaped (g.L.Lookup.listed c.args.table.now)
    (step_shaped (g.L.Lookup.listed c.args.table.now) c.recall_forms.ensures)) (returns-clause-settled g c).reached

-- the normal form has no more subtags, since no step leads to more
pub returns-clause-few : goal.returns-clause-few
returns-clause-few g c =
    star_no_more (λ (t : TForm). length (spell_t t)) (t_step_length (g.L.Lookup.listed c.args.table.now))
    (returns-clause-settled g c).reached
