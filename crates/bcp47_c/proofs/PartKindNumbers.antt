-- No two kinds of part have the same number, so a number names one kind at most, as the contract of `part_kind_name`
-- says.
use Rattle.std.proofs.Common.{◌≡◌, List, [], ◌∷◌, refl, sym, ap, ◌∙◌, get_or}
use Rattle.lt_show.specs.declared.kinds.PartKind.{PartKind}
use Rattle.lt_show.specs.declared.kinds.PartKind.TheVariants as kinds
use Rattle.bcp47_c.specs.Parts.{part_kind}

-- the kinds of part in the order of their numbers, behind one for the number 0
in_order : List PartKind
in_order = kinds.Language ∷ kinds.Language ∷ kinds.Extlang ∷ kinds.Script ∷ kinds.Region ∷ kinds.Variant
    ∷ kinds.Singleton ∷ kinds.ExtensionSubtag ∷ kinds.Attribute ∷ kinds.Key ∷ kinds.Type ∷ kinds.SourceLanguage
    ∷ kinds.SourceExtlang ∷ kinds.SourceScript ∷ kinds.SourceRegion ∷ kinds.SourceVariant ∷ kinds.Separator
    ∷ kinds.Value ∷ kinds.PrivateUseSingleton ∷ kinds.PrivateUse ∷ kinds.Grandfathered ∷ []

-- a kind is in that list at the index that is its number
found : (kind : PartKind) → get_or in_order (part_kind kind) kinds.Language ≡ kind
unfolding in_order
found kinds.Language = refl
found kinds.Extlang = refl
found kinds.Script = refl
found kinds.Region = refl
found kinds.Variant = refl
found kinds.Singleton = refl
found kinds.ExtensionSubtag = refl
found kinds.Attribute = refl
found kinds.Key = refl
found kinds.Type = refl
found kinds.SourceLanguage = refl
found kinds.SourceExtlang = refl
found kinds.SourceScript = refl
found kinds.SourceRegion = refl
found kinds.SourceVariant = refl
found kinds.Separator = refl
found kinds.Value = refl
found kinds.PrivateUseSingleton = refl
found kinds.PrivateUse = refl
found kinds.Grandfathered = refl

-- a kind of part has a number of its own: kinds with equal numbers are equal
pub same_part_kind : (a b : PartKind) → part_kind a ≡ part_kind b → a ≡ b
same_part_kind a b e = sym (found a) ∙ ap (λ n. get_or in_order n kinds.Language) e ∙ found b
