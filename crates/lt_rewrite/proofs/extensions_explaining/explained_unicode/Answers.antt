use Rattle.std.proofs.Common.{◌+◌, ◌≤◌, length, arith, refl, sym, ◌∙◌}
use Rattle.lt_tag.specs.Parts.{ExtensionParts}
use Rattle.lt_tag.specs.Extensions.{unicode, spell_u}
use Rattle.lt_rewrite.specs.Applying.{UnicodeLeads}
use Rattle.lt_rewrite.specs.Runs.{kind_rank}
use Rattle.lt_rewrite.proofs.PartForms.{u_step_length}
use Rattle.lt_rewrite.proofs.ExtensionLaws.{none_there, FoundAt, found_there}
use Rattle.lt_rewrite.proofs.ExtensionRuns.{u_explained}
use Rattle.lt_rewrite.proofs.FirstSteps.{adds_keeps}
use Rattle.lt_tag.specs.Lists.{longest_text}
use Rattle.lt_rewrite.proofs.extensions_explaining.explained_unicode.Goals as goal

-- no extension has the singleton `u`, so there is no step to add
pub returns-in_default : goal.returns-in_default
returns-in_default c = λ R. (none_there c.args.extensions.now unicode (sym c.place_of.ensures ∙ c.in_default.is), refl)

-- the extension was found by its singleton `u`
pub split_u-requires : goal.split_u-requires
split_u-requires c = (found_there c.args.extensions.now unicode c.in-Some.index c.index-extensions-index.result
    (sym c.place_of.ensures ∙ c.in-Some.is) c.index-extensions-index.is).of_singleton

-- the parts may be joined: after each step they have no more subtags than before
pub join_u-requires-clause-few : goal.join_u-requires-clause-few
join_u-requires-clause-few c =
    adds_keeps (UnicodeLeads (c.args.start + c.subtags_before.result + 1)) (λ _ step. kind_rank step)
    (λ u. length (spell_u u) ≤ longest_text) (λ a b step l h. omega (arith, h, u_step_length a b l.0))
    c.in_ok-parts.parts c.explain_u.new.parts c.args.steps.now.items c.explain_u.new.steps.items
    c.in_ok-explain_u.ensures.adds c.in_ok-parts.ensures.few

-- the run on the parts is one inside the extension at this index, and leads to its normal form
pub returns : goal.returns
returns c = λ R.
    let e : ExtensionParts = c.index-extensions-index.result in
    let found : FoundAt unicode c.args.extensions.now c.in-Some.index e = found_there c.args.extensions.now unicode
    c.in-Some.index e (sym c.place_of.ensures ∙ c.in-Some.is) c.index-extensions-index.is in
    let adds = rw c.subtags_before.ensures at c.in_ok-explain_u.ensures.adds in
    let none = rw c.subtags_before.ensures at c.in_ok-explain_u.ensures.at_rest in
    rw c.in_ok-join_u.ensures (u_explained R c.args.start found c.index-extensions-index.is c.in_ok-parts.ensures.parts adds none)
