-- Cores, extensions and values in their normal forms, on the way to a canonical tag (RFC 5646, 4.5). No public
-- contract cites this.
use Rattle.std.specs.Prelude.{ℕ, ◌≡◌, ◌⊎◌, List, ◌∷◌, ◌++◌, Some, None, Result, Ok, Err}
use Rattle.std.specs.List.{AllByRecursion}
use Rattle.lt_tag.specs.Parts.{CoreParts, ExtensionParts, TagForm, LangTag}
use Rattle.lt_registry.specs.Parts.{EntryParts}
use Rattle.lt_registry.specs.Entries.{whole_value}
use Rattle.lt_registry.specs.Validity.{Distinct, HasDistinctSource}
use Rattle.lt_registry.specs.Faults.{HasSource}
use Rattle.lt_rewrite.specs.Rewriting.{IsNormalForm}
use Rattle.lt_rewrite.specs.CoreSteps.{IsCoreNormalForm}
use Rattle.lt_rewrite.specs.Extensions.{ExtensionsStep}
use Rattle.lt_rewrite.specs.TagSteps.{CanBeReplacedWhole}
use Rattle.lt_canon.specs.Answers.{IsCanonicalFormOf, IsSecondOccurrence, IsRepeatOfCore}
use Rattle.lt_canon.specs.Refusals.{IsRefusedWith}
use Rattle.lt_canon.specs.declared.refusals.Refusal.{Refusal}
use Rattle.lt_canon.specs.declared.refusals.Refusal.TheVariants as refusals
use Rattle.lt_tag.specs.Values.{core_alone}

-- `d` is the core normal form of `c`, and no variant occurs twice in it
pub record IsDistinctForm (R : List EntryParts) (c d : CoreParts) : Type 0 where
  pub normal : IsCoreNormalForm R c d
  pub distinct : Distinct d.variants

-- why a core is refused: the variant that occurs twice in its core normal form; OutOfMemory may be answered of any core
abbrev pub IsCoreRefusal : List EntryParts → CoreParts → Refusal → Type 0
IsCoreRefusal R c (refusals.Invalid fault) = ⊥
IsCoreRefusal R c (refusals.ReplacementRepeats v) = IsRepeatOfCore R c v
IsCoreRefusal R c refusals.OutOfMemory = Unit {0}

-- `v` is the first variant that occurs a second time in the source of the extension
pub record IsSecondInSource (e : ExtensionParts) (v : List ℕ) : Type 0 where
  pub source : CoreParts
  pub has_source : HasSource e source
  pub second : IsSecondOccurrence source.variants v

-- `v` is the first variant that occurs a second time in the source of one of the extensions
pub record IsSecondInSources (es : List ExtensionParts) (v : List ℕ) : Type 0 where
  pub before : List ExtensionParts
  pub extension : ExtensionParts
  pub after : List ExtensionParts
  pub there : es ≡ before ++ extension ∷ after
  pub own : IsSecondInSource extension v

-- `t` is a core without extensions and private use, as the value of a whole tag is, and `u` is that with its core in
-- core normal form
pub record IsSettledValue (R : List EntryParts) (t u : TagForm) : Type 0 where
  pub core : CoreParts
  pub form : CoreParts
  pub from : t ≡ core_alone core
  pub to : u ≡ core_alone form
  pub normal : IsCoreNormalForm R core form

-- `s` is the langtag of the normal forms of the core `c` and of the extensions `es`, in which no variant occurs twice,
-- and of the private use `ps`
pub record IsSettledLangTag (R : List EntryParts) (c : CoreParts) (es : List ExtensionParts)
    (ps : List (List ℕ)) (s : TagForm) : Type 0 where
  pub core : CoreParts
  pub extensions : List ExtensionParts
  pub is : s ≡ LangTag core extensions ps
  pub form : IsDistinctForm R c core
  pub normal : IsNormalForm (ExtensionsStep R) es extensions
  pub distinct : AllByRecursion HasDistinctSource extensions

-- `s` is the tag with its core and its extensions in their normal forms; a tag without a core stays as it is
abbrev pub IsSettledTag : List EntryParts → TagForm → TagForm → Type 0
IsSettledTag R (LangTag c es ps) s = IsSettledLangTag R c es ps s
IsSettledTag R t s = s ≡ t

-- `t` can be replaced whole and has a value, and `u` is that value, its core in core normal form
pub record HasSettledValue (R : List EntryParts) (t u : TagForm) : Type 0 where
  pub value : TagForm
  pub plain : CanBeReplacedWhole t
  pub has : whole_value R t ≡ Some value
  pub settled : IsSettledValue R value u

-- `t` can't be replaced whole or has no value, and `u` is `t`
pub record StaysWhole (R : List EntryParts) (t u : TagForm) : Type 0 where
  pub none : CanBeReplacedWhole t → whole_value R t ≡ None
  pub same : u ≡ t

-- `u` is the value of the whole tag `t`, its core in core normal form; or `t`, where that has no value to take
abbrev pub IsReplacedWhole : List EntryParts → TagForm → TagForm → Type 0
IsReplacedWhole R t u = HasSettledValue R t u ⊎ StaysWhole R t u

-- the answer is the canonical form of the tag, or the refusal that says why it has none
abbrev pub IsCanonicalAnswer : List EntryParts → TagForm → Result TagForm Refusal → Type 0
IsCanonicalAnswer R t (Ok c) = IsCanonicalFormOf R t c
IsCanonicalAnswer R t (Err refusal) = IsRefusedWith R t refusal
