-- The steps between proper tags, what they reach, and the tags at which they end (RFC 5646, 4.5). A tag is proper if it
-- is valid, except that a variant may occur twice.
use Rattle.std.specs.Prelude.{ℕ, ◌≡◌, List, [], Some}
use Rattle.lt_tag.specs.Parts.{CoreParts, ExtensionParts, TagForm, LangTag, PrivateUse, Grandfathered}
use Rattle.lt_registry.specs.Parts.{EntryParts}
use Rattle.lt_registry.specs.Entries.{whole_value}
use Rattle.lt_registry.specs.Validity.{IsProper, IsValid, RepeatsNoVariant}
use Rattle.lt_rewrite.specs.Rewriting.{Star, Rests, Equivalent}
use Rattle.lt_rewrite.specs.CoreSteps.{CoreStep}
use Rattle.lt_rewrite.specs.Extensions.{ExtensionsStep}

-- a tag that may be replaced as a whole: a grandfathered tag, or a langtag without extensions and private use (RFC
-- 5646, 4.5, rule 2; no RFC asks that no other tag is replaced: it is a rule of this project)
abbrev pub CanBeReplacedWhole : TagForm → Type 0
CanBeReplacedWhole (Grandfathered n) = Unit {0}
CanBeReplacedWhole (LangTag c es ps) = (es ≡ []) × (ps ≡ [])
CanBeReplacedWhole (PrivateUse ps) = ⊥

-- a step from the tag `t` to `u`: on its core, on its extensions, or from the whole tag to the value of its record (RFC
-- 5646, 4.5, rules 3, 1 and 2)
pub data TagChange (R : List EntryParts) (t u : TagForm) : Type 0 where
  on_core : (c d : CoreParts) (es : List ExtensionParts) (ps : List (List ℕ)) → t ≡ LangTag c es ps →
      u ≡ LangTag d es ps → CoreStep R c d → TagChange R t u
  on_extensions : (c : CoreParts) (es fs : List ExtensionParts) (ps : List (List ℕ)) → t ≡ LangTag c es ps →
      u ≡ LangTag c fs ps → ExtensionsStep R es fs → TagChange R t u
  on_whole : CanBeReplacedWhole t → whole_value R t ≡ Some u → TagChange R t u

-- a step that leads from a proper tag to a proper tag; so none leads to a langtag that spells a grandfathered tag (RFC
-- 5646, 4.5)
pub record TagStep (R : List EntryParts) (t u : TagForm) : Type 0 where
  pub from : IsProper R t
  pub to : IsProper R u
  pub change : TagChange R t u

-- any number of steps lead from t to u (RFC 5646, 4.5)
abbrev pub IsReached : List EntryParts → TagForm → TagForm → Type 0
IsReached R t u = Star (TagStep R) t u

-- steps, taken forwards and backwards, lead from t to u (RFC 5646, 4.5)
abbrev pub AreEquivalent : List EntryParts → TagForm → TagForm → Type 0
AreEquivalent R t u = Equivalent (TagStep R) t u

-- A canonical tag: a valid tag from which no step leads. RFC 5646, 4.5, takes the steps once, in order; that they are
-- taken until none leads on is a rule of this project.
pub record IsCanonical (R : List EntryParts) (t : TagForm) : Type 0 where
  pub valid : IsValid R t
  pub at_rest : Rests (TagStep R) t

-- steps lead from `t` to a tag in which a variant occurs twice (RFC 5646, 2.2.5)
pub record CanRepeat (R : List EntryParts) (t : TagForm) : Type 0 where
  pub tag : TagForm
  pub reached : IsReached R t tag
  pub repeats : RepeatsNoVariant tag → ⊥
