-- The steps on extensions (RFC 5646, 4.5; RFC 6067; RFC 6497).
use Rattle.std.specs.Prelude.{ℕ, ◌≡◌, true, false, List, [], ◌∷◌, ◌++◌, Some, codes}
use Rattle.std.proofs.Common.{Ordering}
use Rattle.std.specs.Ordering.{nat_cmp}
use Rattle.std.specs.Cmp.Lexicographic.{slice_cmp}
use Rattle.lt_tag.specs.Parts.{CoreParts, ExtensionParts, KeywordParts, UForm, FieldParts, TForm}
use Rattle.lt_tag.specs.Extensions.{unicode, IsUnicode, transform, IsTransform}
use Rattle.lt_registry.specs.Parts.{EntryParts}
use Rattle.lt_rewrite.specs.CoreSteps.{CoreStep}
use Rattle.lt_rewrite.specs.Orderings.{ListStep}

-- the order of subtags: that of their bytes (RFC 6067, 2.1.1)
abbrev pub text_cmp : List ℕ → List ℕ → Ordering
text_cmp a b = slice_cmp nat_cmp a b

-- the order of keywords: that of their keys (RFC 6067, 2.1.1)
abbrev pub key_cmp : KeywordParts → KeywordParts → Ordering
key_cmp a b = text_cmp a.key b.key

-- the order of fields: that of their separators (RFC 6497, 2.3)
abbrev pub separator_cmp : FieldParts → FieldParts → Ordering
separator_cmp a b = text_cmp a.separator b.separator

-- the order of extensions: that of their singletons (RFC 5646, 4.5, rule 1)
abbrev pub singleton_cmp : ExtensionParts → ExtensionParts → Ordering
singleton_cmp a b = nat_cmp a.singleton b.singleton

-- the keyword `k`, between `before` and `after`, loses its only type, `true`, so that the keywords `p` become `q` (no
-- RFC asks for that: it is a rule of this project)
pub record DropsTrue (before : List KeywordParts) (k : KeywordParts) (after : List KeywordParts)
    (p q : List KeywordParts) : Type 0 where
  pub there : p ≡ before ++ k ∷ after
  pub sole : k.types ≡ codes "true" ∷ []
  pub result : q ≡ before ++ record k { types = [] } ∷ after

-- one step on the parts of a `u` extension: an ordering step on its attributes or on its keywords, each of which may
-- occur only once, or one that drops the only type `true` of a keyword (RFC 6067, 2.1.1)
pub data UnicodeStep (p q : UForm) : Type 0 where
  on_attributes : ListStep true text_cmp p.attributes q.attributes → q.keywords ≡ p.keywords → UnicodeStep p q
  on_keywords : q.attributes ≡ p.attributes → ListStep true key_cmp p.keywords q.keywords → UnicodeStep p q
  on_types : q.attributes ≡ p.attributes → (before : List KeywordParts) (k : KeywordParts) (after : List KeywordParts) →
      DropsTrue before k after p.keywords q.keywords → UnicodeStep p q

-- one step on the parts of a `t` extension: a core step on its source, or two fields change places (RFC 6497, 2.2 and
-- 2.3)
pub data TransformStep (R : List EntryParts) (p q : TForm) : Type 0 where
  on_source : (c d : CoreParts) → p.source ≡ Some c → q.source ≡ Some d → CoreStep R c d →
      q.fields ≡ p.fields → TransformStep R p q
  on_fields : q.source ≡ p.source → ListStep false separator_cmp p.fields q.fields → TransformStep R p q

-- one step inside the `u` or the `t` extension `e`, which becomes `f`: a step from the parts `p`, which are those of
-- `e`, to the parts `q`, which are those of `f` (RFC 6067, 2.1.1; RFC 6497, 2.3)
pub data ExtensionStep (R : List EntryParts) (e f : ExtensionParts) : Type 0 where
  in_unicode : (p q : UForm) → e.singleton ≡ unicode → f.singleton ≡ e.singleton → IsUnicode e.subtags p →
      IsUnicode f.subtags q → UnicodeStep p q → ExtensionStep R e f
  in_transform : (p q : TForm) → e.singleton ≡ transform → f.singleton ≡ e.singleton → IsTransform e.subtags p →
      IsTransform f.subtags q → TransformStep R p q → ExtensionStep R e f

-- one step on a list of extensions: inside one of them, or two change places (RFC 5646, 4.5, rule 1)
pub data ExtensionsStep (R : List EntryParts) (es fs : List ExtensionParts) : Type 0 where
  inside : (before : List ExtensionParts) (e f : ExtensionParts) (after : List ExtensionParts) →
      es ≡ before ++ e ∷ after → fs ≡ before ++ f ∷ after → ExtensionStep R e f → ExtensionsStep R es fs
  among : ListStep false singleton_cmp es fs → ExtensionsStep R es fs
