use Rattle.std.proofs.Common.{None, ap, sym, ◌∙◌, subst}
use Rattle.lt_tag.specs.Parts.{ExtensionParts}
use Rattle.lt_tag.specs.Extensions.{unicode}
use Rattle.lt_rewrite.specs.Rewriting.{IsNormalForm}
use Rattle.lt_rewrite.specs.Extensions.{ExtensionStep}
use Rattle.lt_rewrite.specs.RisingKeys.{keys_rise}
use Rattle.lt_rewrite.proofs.ExtensionForms.{unicode_settled}
use Rattle.lt_rewrite.proofs.ExtensionLaws.{found_there, found_settles, found_rests}
use Rattle.lt_rewrite.proofs.KeysRise.{unicode_rests}
use Rattle.lt_rewrite.proofs.extensions_settling.settled_unicode.Goals as goal

-- the extension was found by its singleton `u`
pub split_u-requires : goal.split_u-requires
split_u-requires c = (found_there c.args.extensions.now unicode c.in-Some.place c.index-extensions-place.result
    (sym c.place_of.ensures ∙ c.in-Some.is) c.index-extensions-place.is).of_singleton

-- the extension that is given is the normal form: the normal form of the parts spells it
pub returns : goal.returns
returns c = λ R.
    let e : ExtensionParts = c.index-extensions-place.result in
    found_settles R unicode c.args.extensions.now c.in-Some.place e _ (sym c.place_of.ensures ∙ c.in-Some.is) c.index-extensions-place.is
    (λ u. subst (IsNormalForm (ExtensionStep R) e) (sym c.in_ok-join_u.ensures)
    (unicode_settled R e c.in_ok-parts.parts c.settle_u.new.parts u c.in_ok-parts.ensures.parts
    c.settle_u.ensures.settled))

-- None is right: no step leads from an extension whose keys rise, and no other has the singleton `u`
pub returns-then-keys_rise : goal.returns-then-keys_rise
returns-then-keys_rise c = λ R.
    let e : ExtensionParts = c.index-extensions-place.result in
    found_rests R unicode c.args.extensions.now c.in-Some.place e c.requires (sym c.place_of.ensures ∙ c.in-Some.is)
    c.index-extensions-place.is
    (unicode_rests R e c.subtags.ensures.extension (ap (keys_rise None) (sym c.subtags.ensures.value)
    ∙ sym c.keys_rise.ensures ∙ c.if-keys_rise.true))
