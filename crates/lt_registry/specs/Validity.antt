-- Valid tags (RFC 5646, 2.2.9), and proper ones, in which variants may occur twice.
use Rattle.std.specs.Prelude.{ℕ, ◌≡◌, ◌≢◌, true, List, [], ◌∷◌, map, IfSome}
use Rattle.std.specs.List.{AllByRecursion}
use Rattle.lt_tag.specs.Parts.{CoreParts, ExtensionParts, TForm, TagForm, LangTag}
use Rattle.lt_tag.specs.Extensions.{transform, IsTransform}
use Rattle.lt_tag.specs.Values.{IsTagValue}
use Rattle.lt_registry.specs.Parts.{EntryParts}
use Rattle.lt_registry.specs.Entries.{is_registered, prefixes, has_prefix}
use Rattle.lt_registry.specs.declared.entries.Kind.TheVariants as kinds

-- no extlang, or a single one, which is registered and has the language as one of its Prefixes (RFC 5646, 2.2.2 and
-- 3.1.8)
abbrev pub ExtlangsFit : List EntryParts → List ℕ → List (List ℕ) → Type 0
ExtlangsFit R l [] = Unit {0}
ExtlangsFit R l (x ∷ []) = (is_registered R kinds.Extlang x ≡ true) × (has_prefix (prefixes R kinds.Extlang x) l ≡ true)
ExtlangsFit R l (x ∷ y ∷ rest) = ⊥

-- each subtag of the core is registered, and its extlang, if it has one, belongs to the language (RFC 5646, 2.2.9)
pub record IsProperCore (R : List EntryParts) (c : CoreParts) : Type 0 where
  pub language : is_registered R kinds.Language c.language ≡ true
  pub extlangs : ExtlangsFit R c.language c.extlangs
  pub script : IfSome c.script (λ s. is_registered R kinds.Script s ≡ true)
  pub region : IfSome c.region (λ s. is_registered R kinds.Region s ≡ true)
  pub variants : AllByRecursion (λ v. is_registered R kinds.Variant v ≡ true) c.variants

-- no element of the list occurs twice (RFC 5646, 2.2.5 and 2.2.6)
abbrev pub Distinct : {A : Type 0} → List A → Type 0
Distinct [] = Unit {0}
Distinct (x ∷ xs) = AllByRecursion (λ y. y ≢ x) xs × Distinct xs

-- if the extension is a `t` extension, its subtags have the form of one (RFC 6497, 2.2), and its source, if it has one,
-- is proper (no RFC asks for that: it is a rule of this project)
abbrev pub IsProperExtension : List EntryParts → ExtensionParts → Type 0
IsProperExtension R e =
    e.singleton ≡ transform → (p : TForm) × IsTransform e.subtags p × IfSome p.source (IsProperCore R)

-- the core and each extension are proper, and no singleton occurs twice (RFC 5646, 2.2.9)
pub record IsProperLangTag (R : List EntryParts) (c : CoreParts) (es : List ExtensionParts) : Type 0 where
  pub core : IsProperCore R c
  pub extensions : AllByRecursion (IsProperExtension R) es
  pub singletons : Distinct (map (λ (e : ExtensionParts). e.singleton) es)

-- the parts of a langtag are proper; private use and grandfathered tags have no parts to judge (RFC 5646, 2.2.9)
abbrev pub HasProperParts : List EntryParts → TagForm → Type 0
HasProperParts R (LangTag c es ps) = IsProperLangTag R c es
HasProperParts R _ = Unit {0}

-- a proper tag: valid, except that variants may occur twice, in the core or in the source of a `t` extension, which is
-- the langtag in it (RFC 5646, 2.2.9; RFC 6497, 2.2)
pub record IsProper (R : List EntryParts) (t : TagForm) : Type 0 where
  pub tag : IsTagValue t
  pub parts : HasProperParts R t

-- if the extension is a `t` extension with a source, no variant occurs twice in that (RFC 5646, 2.2.5)
abbrev pub HasDistinctSource : ExtensionParts → Type 0
HasDistinctSource e =
    e.singleton ≡ transform → (p : TForm) → IsTransform e.subtags p →
    IfSome p.source (λ (c : CoreParts). Distinct c.variants)

-- no variant occurs twice in the core, nor in a source (RFC 5646, 2.2.5)
abbrev pub RepeatsNoVariant : TagForm → Type 0
RepeatsNoVariant (LangTag c es ps) = Distinct c.variants × AllByRecursion HasDistinctSource es
RepeatsNoVariant _ = Unit {0}

-- a valid tag: proper, and no variant occurs twice (RFC 5646, 2.2.9)
pub record IsValid (R : List EntryParts) (t : TagForm) : Type 0 where
  pub proper : IsProper R t
  pub distinct : RepeatsNoVariant t
