use Rattle.std.proofs.Common.{◌≡◌, List, map, sym, ◌∙◌, subst}
use Rattle.std.specs.List.{AllByRecursion}
use Rattle.lt_tag.specs.Parts.{ExtensionParts, TForm, TagForm}
use Rattle.lt_tag.specs.Extensions.{transform, IsTransform}
use Rattle.lt_registry.specs.Parts.{EntryParts}
use Rattle.lt_registry.specs.Validity.{Distinct, IsValid}
use Rattle.lt_registry.proofs.ValidityLaws.{valid_law}
use Rattle.lt_canon_tests.proofs.ValidExtensions.{can_settle}
use Rattle.lt_canon_tests.proofs.rewriting.settled_extensions.Goals as goal

-- the tag is valid, so no two of its extensions have one singleton
pub settle-requires-clause-singletons : goal.settle-requires-clause-singletons
settle-requires-clause-singletons c =
    let R : List EntryParts = c.args.table.now in
    let t : TagForm = c.in_ok-tag.tag in
    let valid : IsValid R t = (valid_law R t c.extensions.ensures.tag).1 c.in_ok-judge.ensures in
    subst (λ (es : List ExtensionParts). Distinct (map (λ (e : ExtensionParts). e.singleton) es))
    (sym (c.in_ok-extensions.ensures ∙ c.extensions.ensures.value)) (can_settle R t valid.proper.parts).singletons

-- the tag is valid, so each of its `t` extensions has the parts of one
pub settle-requires-clause-transforms : goal.settle-requires-clause-transforms
settle-requires-clause-transforms c =
    let R : List EntryParts = c.args.table.now in
    let t : TagForm = c.in_ok-tag.tag in
    let valid : IsValid R t = (valid_law R t c.extensions.ensures.tag).1 c.in_ok-judge.ensures in
    subst (λ (es : List ExtensionParts). AllByRecursion (λ (e : ExtensionParts). e.singleton ≡ transform → (p : TForm)
    × IsTransform e.subtags p) es) (sym (c.in_ok-extensions.ensures ∙ c.extensions.ensures.value))
    (can_settle R t valid.proper.parts).transforms
