-- When the subtags of a core are at the ends of their chains of values, and which variant a VariantLanguage step drops
-- (RFC 5646, 4.5).
use Rattle.std.specs.Prelude.{ℕ, ◌≡◌, ◌<◌, suc, List, ◌∷◌, ◌++◌, Some, None, All, IfSome, length, take, drop}
use Rattle.std.specs.List.{AllByRecursion}
use Rattle.lt_tag.specs.Parts.{CoreParts}
use Rattle.lt_registry.specs.Parts.{EntryParts}
use Rattle.lt_registry.specs.Entries.{preferred_value, variant_value}
use Rattle.lt_registry.specs.declared.entries.Kind.TheVariants as kinds
use Rattle.lt_rewrite.specs.CoreSteps.{language_beside}

-- the language of a core has no value
abbrev pub HasFinalLanguage : List EntryParts → CoreParts → Type 0
HasFinalLanguage R c = preferred_value R kinds.Language c.language ≡ None

-- the script of a core, if it has one, has no value
abbrev pub HasFinalScript : List EntryParts → CoreParts → Type 0
HasFinalScript R c = IfSome c.script (λ s. preferred_value R kinds.Script s ≡ None)

-- the region of a core, if it has one, has no value
abbrev pub HasFinalRegion : List EntryParts → CoreParts → Type 0
HasFinalRegion R c = IfSome c.region (λ s. preferred_value R kinds.Region s ≡ None)

-- no variant of a core has a variant as its value
abbrev pub HasFinalVariants : List EntryParts → CoreParts → Type 0
HasFinalVariants R c = All (λ v. variant_value R v ≡ None) c.variants

-- no variant of a core has a language as its value and the core's language as a Prefix
abbrev pub HasNoVariantLanguage : List EntryParts → CoreParts → Type 0
HasNoVariantLanguage R c = All (λ v. language_beside R c.language v ≡ None) c.variants

-- the variant at an index is the leftmost that has a language as its value, `m`, and the core's language as a Prefix;
-- so a VariantLanguage step drops this variant and makes `m` the language
pub record IsFirstVariantLanguage (R : List EntryParts) (c : CoreParts) (index : ℕ) (m : List ℕ) : Type 0 where
  pub within : index < length c.variants
  pub variant : List ℕ
  pub there : c.variants ≡ take index c.variants ++ variant ∷ drop (suc index) c.variants
  pub has : language_beside R c.language variant ≡ Some m
  pub leftmost : AllByRecursion (λ u. language_beside R c.language u ≡ None) (take index c.variants)
