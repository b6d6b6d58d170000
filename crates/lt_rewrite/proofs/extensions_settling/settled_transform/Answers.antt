use Rattle.std.proofs.Common.{sym, ◌∙◌, subst}
use Rattle.lt_tag.specs.Parts.{ExtensionParts}
use Rattle.lt_tag.specs.Extensions.{transform}
use Rattle.lt_rewrite.specs.Rewriting.{IsNormalForm}
use Rattle.lt_rewrite.specs.Extensions.{ExtensionStep}
use Rattle.lt_rewrite.proofs.ExtensionForms.{transform_settled}
use Rattle.lt_rewrite.proofs.ExtensionLaws.{found_there, found_settles, form_of_transform as transform_form}
use Rattle.lt_rewrite.proofs.extensions_settling.settled_transform.Goals as goal

-- the extension was found by its singleton `t`
pub split_t-requires : goal.split_t-requires
split_t-requires g c = (found_there c.args.extensions.now transform c.in-Some.place c.index-extensions-place.result
    (sym c.place_of.ensures ∙ c.in-Some.is) c.index-extensions-place.is).of_singleton

-- this arm is never reached: BadTransform says that the extension does not have the form of a `t` extension, but each
-- `t` extension has it
pub unreachable-requires : goal.unreachable-requires
unreachable-requires g c =
    let es = c.args.extensions.now in
    let e : ExtensionParts = c.index-extensions-place.result in
    let parts = transform_form es c.in-Some.place e
    (found_there es transform c.in-Some.place e (sym c.place_of.ensures ∙ c.in-Some.is) c.index-extensions-place.is)
    c.index-extensions-place.is c.requires.transforms in
    (rw c.in-Err-BadTransform.field-0-is at c.in-Err-BadTransform.ensures.fault) parts.0 parts.1

-- the extension that is given is the normal form: the normal form of the parts spells it
pub returns : goal.returns
returns g c =
    let R = g.L.Lookup.listed c.args.table.now in
    let e : ExtensionParts = c.index-extensions-place.result in
    found_settles R transform c.args.extensions.now c.in-Some.place e _ (sym c.place_of.ensures ∙ c.in-Some.is) c.index-extensions-place.is
    (λ t. subst (IsNormalForm (ExtensionStep R) e) (sym c.in_ok-join_t.ensures)
    (transform_settled R c.recall_forms.ensures e c.in-Ok.parts c.settle_transform.new.parts t c.in-Ok.ensures.parts
    c.settle_transform.ensures.settled))
