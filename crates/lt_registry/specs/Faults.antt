-- The faults of a tag that is not valid (RFC 5646, 2.2.9), each a kind and the place of a subtag, counted from 1.
use Rattle.std.specs.Prelude.{ℕ, ◌≡◌, ◌≤◌, ◌+◌, false, List, ◌∷◌, ◌++◌, Some, length, ◌⊎◌}
use Rattle.std.specs.Option.{option_to_list}
use Rattle.lt_tag.specs.Parts.{CoreParts, ExtensionParts, TForm, TagForm, LangTag, PrivateUse, Grandfathered}
use Rattle.lt_tag.specs.Spelling.{spell_core, spell_extensions}
use Rattle.lt_tag.specs.Values.{extensions_of}
use Rattle.lt_registry.specs.Parts.{EntryParts}
use Rattle.lt_registry.specs.Entries.{is_registered, prefixes, has_prefix}
use Rattle.lt_tag.specs.Extensions.{transform, IsTransform}
use Rattle.lt_registry.specs.declared.entries.Kind.TheVariants as kinds
use Rattle.lt_registry.specs.declared.faults.ValidFaultKind.{ValidFaultKind}
use Rattle.lt_registry.specs.declared.faults.ValidFaultKind.TheVariants as faults
use Rattle.lt_registry.specs.declared.faults.ValidRefusal.{ValidRefusal}
use Rattle.lt_registry.specs.declared.faults.ValidRefusal.TheVariants as refusals

-- how many subtags of a core come before its script (RFC 5646, 2.1)
abbrev pub before_script : CoreParts → ℕ
before_script c = 1 + length c.extlangs

-- how many subtags of a core come before its region (RFC 5646, 2.1)
abbrev pub before_region : CoreParts → ℕ
before_region c = before_script c + length (option_to_list c.script)

-- how many subtags of a core come before its variants (RFC 5646, 2.1)
abbrev pub before_variants : CoreParts → ℕ
before_variants c = before_region c + length (option_to_list c.region)

-- a core that begins after `start` subtags has this fault at this place; of a variant that occurs twice the place is
-- that of the second (RFC 5646, 2.2.9)
abbrev pub HasCoreFault : List EntryParts → ℕ → CoreParts → ValidFaultKind → ℕ → Type 0
HasCoreFault R start c faults.UnknownLanguage place =
    (place ≡ start + 1) × (is_registered R kinds.Language c.language ≡ false)
HasCoreFault R start c faults.UnknownExtlang place =
    (x : List ℕ) × (rest : List (List ℕ)) × (c.extlangs ≡ x ∷ rest) × (place ≡ start + 2)
    × (is_registered R kinds.Extlang x ≡ false)
HasCoreFault R start c faults.ExtlangPrefix place =
    (x : List ℕ) × (rest : List (List ℕ)) × (c.extlangs ≡ x ∷ rest) × (place ≡ start + 2)
    × (has_prefix (prefixes R kinds.Extlang x) c.language ≡ false)
HasCoreFault R start c faults.TooManyExtlangs place =
    (x y : List ℕ) × (rest : List (List ℕ)) × (c.extlangs ≡ x ∷ y ∷ rest) × (place ≡ start + 3)
HasCoreFault R start c faults.UnknownScript place =
    (s : List ℕ) × (c.script ≡ Some s) × (place ≡ start + before_script c + 1)
    × (is_registered R kinds.Script s ≡ false)
HasCoreFault R start c faults.UnknownRegion place =
    (s : List ℕ) × (c.region ≡ Some s) × (place ≡ start + before_region c + 1)
    × (is_registered R kinds.Region s ≡ false)
HasCoreFault R start c faults.UnknownVariant place =
    (before : List (List ℕ)) × (v : List ℕ) × (after : List (List ℕ)) × (c.variants ≡ before ++ v ∷ after)
    × (place ≡ start + before_variants c + length before + 1) × (is_registered R kinds.Variant v ≡ false)
HasCoreFault R start c faults.DuplicateVariant place =
    (before : List (List ℕ)) × (v : List ℕ) × (between : List (List ℕ)) × (after : List (List ℕ))
    × (c.variants ≡ before ++ v ∷ (between ++ v ∷ after))
    × (place ≡ start + before_variants c + length before + 1 + length between + 1)
HasCoreFault R start c faults.DuplicateSingleton place = ⊥
HasCoreFault R start c faults.BadTransform place = ⊥

-- the extension is a `t` extension, and no source and fields spell its subtags (RFC 6497, 2.2)
pub record HasBadForm (e : ExtensionParts) : Type 0 where
  pub transforms : e.singleton ≡ transform
  pub formless : (p : TForm) → IsTransform e.subtags p → ⊥

-- the extension is a `t` extension with this source (RFC 6497, 2.2)
pub record HasSource (e : ExtensionParts) (source : CoreParts) : Type 0 where
  pub transforms : e.singleton ≡ transform
  pub parts : TForm
  pub formed : IsTransform e.subtags parts
  pub there : parts.source ≡ Some source

-- an extension whose singleton is at the place `start` has this fault at this place (RFC 5646, 2.2.9)
abbrev pub HasExtensionFault : List EntryParts → ℕ → ExtensionParts → ValidFaultKind → ℕ → Type 0
HasExtensionFault R start e kind place =
    ((kind ≡ faults.BadTransform) × (place ≡ start) × HasBadForm e)
    ⊎ ((source : CoreParts) × HasSource e source × HasCoreFault R start source kind place)

-- an extension of a langtag has this fault; that a singleton occurs twice is not among them (RFC 5646, 2.2.9)
pub record IsFaultOfExtension (R : List EntryParts) (c : CoreParts) (es : List ExtensionParts) (kind : ValidFaultKind)
    (place : ℕ) : Type 0 where
  pub before : List ExtensionParts
  pub extension : ExtensionParts
  pub after : List ExtensionParts
  pub there : es ≡ before ++ extension ∷ after
  pub fault : HasExtensionFault R (length (spell_core c) + length (spell_extensions before) + 1) extension kind place

-- the singleton at this place is there for the second time (RFC 5646, 2.2.6)
pub record IsSecondSingleton (c : CoreParts) (es : List ExtensionParts) (place : ℕ) : Type 0 where
  pub before : List ExtensionParts
  pub first : ExtensionParts
  pub between : List ExtensionParts
  pub second : ExtensionParts
  pub after : List ExtensionParts
  pub there : es ≡ before ++ first ∷ (between ++ second ∷ after)
  pub alike : first.singleton ≡ second.singleton
  pub here : place ≡ length (spell_core c) + length (spell_extensions (before ++ first ∷ between)) + 1

-- the tag has this fault at this place (RFC 5646, 2.2.9)
abbrev pub HasFault : List EntryParts → TagForm → ValidFaultKind → ℕ → Type 0
HasFault R (LangTag c es ps) kind place =
    HasCoreFault R 0 c kind place
    ⊎ (IsFaultOfExtension R c es kind place ⊎ ((kind ≡ faults.DuplicateSingleton) × IsSecondSingleton c es place))
HasFault R (PrivateUse ps) kind place = ⊥
HasFault R (Grandfathered n) kind place = ⊥

-- the tag has no fault (RFC 5646, 2.2.9)
abbrev pub HasNoFault : List EntryParts → TagForm → Type 0
HasNoFault R t = (kind : ValidFaultKind) (place : ℕ) → HasFault R t kind place → ⊥

-- the tag has no fault but that variants occur twice
abbrev pub RepeatsAtMost : List EntryParts → TagForm → Type 0
RepeatsAtMost R t = (kind : ValidFaultKind) (place : ℕ) → HasFault R t kind place → kind ≡ faults.DuplicateVariant

-- the order of the faults at one place, of which the one with the least rank is answered (no RFC asks for that: it is a
-- rule of this project)
abbrev pub rank_of : ValidFaultKind → ℕ
rank_of faults.UnknownLanguage = 0
rank_of faults.UnknownExtlang = 1
rank_of faults.ExtlangPrefix = 2
rank_of faults.TooManyExtlangs = 3
rank_of faults.UnknownScript = 4
rank_of faults.UnknownRegion = 5
rank_of faults.UnknownVariant = 6
rank_of faults.DuplicateVariant = 7
rank_of faults.DuplicateSingleton = 8
rank_of faults.BadTransform = 9

-- of the faults `F` the one with the least place, and of those at that place the one with the least rank (no RFC asks
-- for that: it is a rule of this project)
pub record IsFirstOf (F : ValidFaultKind → ℕ → Type 0) (kind : ValidFaultKind) (place : ℕ) : Type 0 where
  pub there : F kind place
  pub leftmost : (other : ValidFaultKind) (elsewhere : ℕ) → F other elsewhere → place ≤ elsewhere
  pub earliest : (other : ValidFaultKind) → F other place → rank_of kind ≤ rank_of other

-- the fault that is answered of a tag that is not valid: the first (RFC 5646, 2.2.9)
abbrev pub IsFirstFault : List EntryParts → TagForm → ValidFaultKind → ℕ → Type 0
IsFirstFault R t kind place = IsFirstOf (HasFault R t) kind place

-- one of the extensions is a t extension
abbrev pub HasTransform : List ExtensionParts → Type 0
HasTransform es =
    (before : List ExtensionParts) × (e : ExtensionParts) × (after : List ExtensionParts) × (es ≡ before ++ e ∷ after)
    × (e.singleton ≡ transform)

-- the first fault of a tag; or OutOfMemory, but only of a tag with a `t` extension
abbrev pub IsRefusal : List EntryParts → TagForm → ValidRefusal → Type 0
IsRefusal R t (refusals.Fault fault) = IsFirstFault R t fault.kind fault.place
IsRefusal R t refusals.OutOfMemory = HasTransform (extensions_of t)
