-- The kinds of part: their names, and the kind of each part of a tag, in the order of its subtags.
use Rattle.std.specs.Prelude.{ℕ, ◌==◌, if◌then◌else◌, List, [], ◌∷◌, ◌++◌, map, Option, option_to_list, flat_map, codes}
use Rattle.std.specs.Option.{option_map_or}
use Rattle.lt_tag.specs.Parts.{CoreParts, ExtensionParts, TagForm, LangTag, PrivateUse, Grandfathered, KeywordParts}
use Rattle.lt_tag.specs.Parts.{UForm, FieldParts, TForm}
use Rattle.lt_tag.specs.Extensions.{unicode, transform}
use Rattle.lt_tag.specs.Splitting.{unicode_of, transform_of}
use Rattle.lt_show.specs.declared.kinds.PartKind.{PartKind}
use Rattle.lt_show.specs.declared.kinds.PartKind.TheVariants as kinds

-- the name of a kind of part, as it is printed
abbrev pub name_of : PartKind → List ℕ
name_of kinds.Language = codes "Language"
name_of kinds.Extlang = codes "Extlang"
name_of kinds.Script = codes "Script"
name_of kinds.Region = codes "Region"
name_of kinds.Variant = codes "Variant"
name_of kinds.Singleton = codes "Singleton"
name_of kinds.ExtensionSubtag = codes "ExtensionSubtag"
name_of kinds.Attribute = codes "Attribute"
name_of kinds.Key = codes "Key"
name_of kinds.Type = codes "Type"
name_of kinds.SourceLanguage = codes "SourceLanguage"
name_of kinds.SourceExtlang = codes "SourceExtlang"
name_of kinds.SourceScript = codes "SourceScript"
name_of kinds.SourceRegion = codes "SourceRegion"
name_of kinds.SourceVariant = codes "SourceVariant"
name_of kinds.Separator = codes "Separator"
name_of kinds.Value = codes "Value"
name_of kinds.PrivateUseSingleton = codes "PrivateUseSingleton"
name_of kinds.PrivateUse = codes "PrivateUse"
name_of kinds.Grandfathered = codes "Grandfathered"

-- the kinds of these subtags, which are all of one kind
abbrev pub each : PartKind → List (List ℕ) → List PartKind
each kind subtags = map (λ _. kind) subtags

-- the kinds of the parts of a core: language, extlangs, script, region, variants (RFC 5646, 2.1)
abbrev pub core_kinds : CoreParts → List PartKind
core_kinds core =
    kinds.Language ∷ each kinds.Extlang core.extlangs
    ++ (each kinds.Script (option_to_list core.script)
    ++ (each kinds.Region (option_to_list core.region) ++ each kinds.Variant core.variants))

-- the kinds of the parts of a keyword: a key and its types (RFC 6067, 2.1)
abbrev pub keyword_kinds : KeywordParts → List PartKind
keyword_kinds keyword = kinds.Key ∷ each kinds.Type keyword.types

-- the kinds of the parts of a `u` extension: attributes, then keywords (RFC 6067, 2.1)
abbrev pub u_kinds : UForm → List PartKind
u_kinds parts = each kinds.Attribute parts.attributes ++ flat_map keyword_kinds parts.keywords

-- the kind that a part of a core has in a source (RFC 6497, 2.2)
abbrev pub in_source : PartKind → PartKind
in_source kinds.Language = kinds.SourceLanguage
in_source kinds.Extlang = kinds.SourceExtlang
in_source kinds.Script = kinds.SourceScript
in_source kinds.Region = kinds.SourceRegion
in_source kinds.Variant = kinds.SourceVariant
in_source kind = kind

-- the kinds of the parts of a source, if there is one (RFC 6497, 2.2)
abbrev pub source_kinds : Option CoreParts → List PartKind
source_kinds source = option_map_or (λ core. map in_source (core_kinds core)) source []

-- the kinds of the parts of a field: a separator and its values (RFC 6497, 2.2)
abbrev pub field_kinds : FieldParts → List PartKind
field_kinds field = kinds.Separator ∷ each kinds.Value field.values

-- the kinds of the parts of a `t` extension: a source, then fields (RFC 6497, 2.2)
abbrev pub t_kinds : TForm → List PartKind
t_kinds parts = source_kinds parts.source ++ flat_map field_kinds parts.fields

-- The kinds of the subtags after a singleton: in a `u` extension (RFC 6067) or a `t` extension (RFC 6497) that has
-- parts, the kinds of those; else ExtensionSubtag (RFC 5646, 2.2.6).
abbrev pub subtag_kinds : ExtensionParts → List PartKind
subtag_kinds extension =
    if extension.singleton == unicode
    then option_map_or u_kinds (unicode_of extension.subtags) (each kinds.ExtensionSubtag extension.subtags)
    else (if extension.singleton == transform
    then option_map_or t_kinds (transform_of extension.subtags) (each kinds.ExtensionSubtag extension.subtags)
    else each kinds.ExtensionSubtag extension.subtags)

-- the kinds of a singleton and of the subtags after it (RFC 5646, 2.2.6)
abbrev pub extension_kinds : ExtensionParts → List PartKind
extension_kinds extension = kinds.Singleton ∷ subtag_kinds extension

-- the kinds of `x` and of the subtags after it; none if there is no private use (RFC 5646, 2.2.7)
abbrev pub private_kinds : List (List ℕ) → List PartKind
private_kinds [] = []
private_kinds (s ∷ ss) = kinds.PrivateUseSingleton ∷ each kinds.PrivateUse (s ∷ ss)

-- the kinds of the parts of a tag; a grandfathered tag is one part (RFC 5646, 2.1 and 2.2.8)
abbrev pub part_kinds : TagForm → List PartKind
part_kinds (LangTag core extensions private) =
    core_kinds core ++ (flat_map extension_kinds extensions ++ private_kinds private)
part_kinds (PrivateUse subtags) = kinds.PrivateUseSingleton ∷ each kinds.PrivateUse subtags
part_kinds (Grandfathered number) = kinds.Grandfathered ∷ []
