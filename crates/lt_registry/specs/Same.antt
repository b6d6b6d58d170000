-- Whether two values are equal, computed as a Boolean: subtags, cores, extensions, tags, kinds of record.
use Rattle.std.specs.Prelude.{ℕ, Bool, true, false, ◌==◌, ◌&&◌, List, bytes_eq}
use Rattle.std.specs.Cmp.Lexicographic.{pointwise}
use Rattle.std.specs.Option.{option_eq}
use Rattle.lt_tag.specs.Parts.{CoreParts, ExtensionParts, TagForm, LangTag, PrivateUse, Grandfathered}
use Rattle.lt_registry.specs.declared.entries.Kind.{Kind}
use Rattle.lt_registry.specs.declared.entries.Kind.TheVariants as kinds

-- whether two lists have equal subtags, one after another (RFC 5646, 2.1.1)
abbrev pub same_list : List (List ℕ) → List (List ℕ) → Bool
same_list a b = pointwise bytes_eq a b

-- whether two cores have the same language, extlangs, script, region and variants (RFC 5646, 2.1.1)
abbrev pub same_core : CoreParts → CoreParts → Bool
same_core c d =
    bytes_eq c.language d.language
    && (same_list c.extlangs d.extlangs
    && (option_eq bytes_eq c.script d.script
    && (option_eq bytes_eq c.region d.region && same_list c.variants d.variants)))

-- whether two extensions have the same singleton and the same subtags (RFC 5646, 2.1.1)
abbrev pub same_extension : ExtensionParts → ExtensionParts → Bool
same_extension a b = (a.singleton == b.singleton) && same_list a.subtags b.subtags

-- whether two tags are the same, letter case aside (RFC 5646, 2.1.1)
abbrev pub same_tag : TagForm → TagForm → Bool
same_tag (LangTag c es ps) (LangTag d fs qs) = same_core c d && (pointwise same_extension es fs && same_list ps qs)
same_tag (PrivateUse ps) (PrivateUse qs) = same_list ps qs
same_tag (Grandfathered m) (Grandfathered n) = m == n
same_tag _ _ = false

-- whether two kinds of record are the same (RFC 5646, 3.1.3)
abbrev pub same_kind : Kind → Kind → Bool
same_kind kinds.Language kinds.Language = true
same_kind kinds.Extlang kinds.Extlang = true
same_kind kinds.Script kinds.Script = true
same_kind kinds.Region kinds.Region = true
same_kind kinds.Variant kinds.Variant = true
same_kind kinds.Grandfathered kinds.Grandfathered = true
same_kind kinds.Redundant kinds.Redundant = true
same_kind _ _ = false
