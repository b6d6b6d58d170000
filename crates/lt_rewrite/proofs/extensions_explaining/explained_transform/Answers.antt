use Rattle.std.proofs.Common.{◌+◌, ◌≤◌, length, arith, refl, sym, ◌∙◌}
use Rattle.lt_tag.specs.Parts.{ExtensionParts}
use Rattle.lt_tag.specs.Extensions.{transform, spell_t}
use Rattle.lt_rewrite.specs.Applying.{TransformLeads}
use Rattle.lt_rewrite.specs.Runs.{kind_rank}
use Rattle.lt_rewrite.proofs.PartForms.{t_step_length}
use Rattle.lt_rewrite.proofs.ExtensionLaws.{none_there, FoundAt, found_there, form_of_transform as transform_form}
use Rattle.lt_rewrite.proofs.ExtensionRuns.{t_explained}
use Rattle.lt_rewrite.proofs.FirstSteps.{adds_keeps}
use Rattle.lt_tag.specs.Lists.{longest_text}
use Rattle.lt_rewrite.proofs.extensions_explaining.explained_transform.Goals as goal

-- no extension has the singleton `t`, so there is no step to add
pub returns-in_default : goal.returns-in_default
returns-in_default g c = (none_there c.args.extensions.now transform (sym c.place_of.ensures ∙ c.in_default.is), refl)

-- the extension was found by its singleton `t`
pub split_t-requires : goal.split_t-requires
split_t-requires g c = (found_there c.args.extensions.now transform c.in-Some.index c.index-extensions-index.result
    (sym c.place_of.ensures ∙ c.in-Some.is) c.index-extensions-index.is).of_singleton

-- this arm is never reached: BadTransform says that the extension does not have the form of a `t` extension, but each
-- `t` extension has it
pub unreachable-requires : goal.unreachable-requires
unreachable-requires g c =
    let e : ExtensionParts = c.index-extensions-index.result in
    let found : FoundAt transform c.args.extensions.now c.in-Some.index e = found_there c.args.extensions.now transform
    c.in-Some.index e (sym c.place_of.ensures ∙ c.in-Some.is) c.index-extensions-index.is in
    let parts = transform_form c.args.extensions.now c.in-Some.index e found c.index-extensions-index.is c.requires.transforms in
    let fault = rw c.in-Err-BadTransform.field-0-is at c.in-Err-BadTransform.ensures.fault in
    fault parts.0 parts.1

-- the parts may be joined: after each step they have no more subtags than before
pub join_t-requires-clause-few : goal.join_t-requires-clause-few
join_t-requires-clause-few g c =
    adds_keeps (TransformLeads (g.L.Lookup.listed c.args.table.now) (c.args.start + c.subtags_before.result + 1))
    (λ _ step. kind_rank step) (λ u. length (spell_t u) ≤ longest_text)
    (λ a b step l h. omega (arith, h, t_step_length (g.L.Lookup.listed c.args.table.now) a b l.0)) c.in-Ok.parts
    c.explain_t.new.parts c.args.steps.now.items c.explain_t.new.steps.items c.in_ok-explain_t.ensures.adds
    c.in-Ok.ensures.few

-- the run on the parts is one inside the extension at this index, and leads to its normal form
pub returns : goal.returns
returns g c =
    let e : ExtensionParts = c.index-extensions-index.result in
    let found : FoundAt transform c.args.extensions.now c.in-Some.index e = found_there c.args.extensions.now transform
    c.in-Some.index e (sym c.place_of.ensures ∙ c.in-Some.is) c.index-extensions-index.is in
    let adds = rw c.subtags_before.ensures at c.in_ok-explain_t.ensures.adds in
    let none = rw c.subtags_before.ensures at c.in_ok-explain_t.ensures.at_rest in
    rw c.in_ok-join_t.ensures (t_explained (g.L.Lookup.listed c.args.table.now) c.recall_forms.ensures c.args.start
    found c.index-extensions-index.is c.in-Ok.ensures.parts adds none)
