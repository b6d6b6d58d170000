use Rattle.std.proofs.Common.{◌≡◌, List, map, length, sym, ap, ◌∙◌, subst, arith}
use Rattle.std.specs.List.{AllByRecursion}
use Rattle.lt_tag.specs.Parts.{ExtensionParts, TForm, TagForm}
use Rattle.lt_tag.specs.Spelling.{spell_extensions}
use Rattle.lt_tag.specs.Extensions.{transform, IsTransform}
use Rattle.lt_registry.specs.Parts.{EntryParts}
use Rattle.lt_registry.specs.Validity.{Distinct, IsValid}
use Rattle.lt_registry.proofs.ValidityLaws.{valid_law}
use Rattle.lt_canon_tests.proofs.ValidExtensions.{can_settle, few_in_tag}
use Rattle.lt_canon_tests.proofs.rewriting.extensions_explaining.explained_tag.Goals as goal

-- the tag is valid, so no two of its extensions have one singleton
pub explain_extensions-requires-clause-singletons : goal.explain_extensions-requires-clause-singletons
explain_extensions-requires-clause-singletons c =
    let R : List EntryParts = c.args.table.now in
    let t : TagForm = c.args.tag.now in
    let valid : IsValid R t = (valid_law R t c.extensions.ensures.tag).1 c.requires.valid in
    subst (λ (es : List ExtensionParts). Distinct (map (λ (e : ExtensionParts). e.singleton) es))
    (sym (c.in_ok-extensions.ensures ∙ c.extensions.ensures.value)) (can_settle R t valid.proper.parts).singletons

-- the tag is valid, so each of its `t` extensions has the parts of one
pub explain_extensions-requires-clause-transforms : goal.explain_extensions-requires-clause-transforms
explain_extensions-requires-clause-transforms c =
    let R : List EntryParts = c.args.table.now in
    let t : TagForm = c.args.tag.now in
    let valid : IsValid R t = (valid_law R t c.extensions.ensures.tag).1 c.requires.valid in
    subst (λ (es : List ExtensionParts). AllByRecursion (λ (e : ExtensionParts). e.singleton ≡ transform → (p : TForm)
    × IsTransform e.subtags p) es) (sym (c.in_ok-extensions.ensures ∙ c.extensions.ensures.value))
    (can_settle R t valid.proper.parts).transforms

-- a tag has few subtags, and so have its extensions
pub explain_extensions-requires-clause-few : goal.explain_extensions-requires-clause-few
explain_extensions-requires-clause-few c =
    omega (
      arith,
      few_in_tag c.args.tag.now c.extensions.ensures.tag.counts,
      ap (λ es. length (spell_extensions es))
          (c.in_ok-extensions.ensures ∙ c.extensions.ensures.value),
    )
