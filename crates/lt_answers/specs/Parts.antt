-- The parts of a tag as values of JSON (RFC 8259). Scripts and regions are in conventional case, other subtags in lower
-- case (RFC 5646, 2.1.1).
use Rattle.std.specs.Prelude.{ℕ, ◌==◌, if◌then◌else◌, List, [], ◌∷◌, codes, Option, Some, None}
use Rattle.std.specs.List.{flat_map, join_with_byte}
use Rattle.lt_subtag.specs.Bytes.{title, upper}
use Rattle.lt_tag.specs.Parts.{CoreParts, ExtensionParts, FieldParts, KeywordParts, TForm, UForm}
use Rattle.lt_tag.specs.Spelling.{spell_core}
use Rattle.lt_tag.specs.Extensions.{transform, unicode}
use Rattle.lt_tag.specs.Splitting.{transform_of, unicode_of}
use Rattle.lt_show.specs.Strings.{string}
use Rattle.lt_show.specs.Values.{Member, array, member, null, object, or_null}

-- an array of subtags
unfoldable pub subtags_value : List (List ℕ) → List ℕ
subtags_value subtags = array string subtags

-- ---- from the language to the variants

-- a script as a string, whose first letter is a capital
abbrev pub script_value : List ℕ → List ℕ
script_value script = string (title script)

-- a region as a string, whose letters are capitals
abbrev pub region_value : List ℕ → List ℕ
region_value region = string (upper region)

-- the members for the core of a tag, from its language to its variants (RFC 5646, 2.1)
abbrev pub core_members : CoreParts → List Member
core_members core =
    member (codes "language") (string core.language)
    ∷ member (codes "extlangs") (subtags_value core.extlangs)
    ∷ member (codes "script") (or_null script_value core.script)
    ∷ member (codes "region") (or_null region_value core.region)
    ∷ member (codes "variants") (subtags_value core.variants) ∷ []

-- the members for the core of a tag that has none: null and empty arrays
abbrev pub no_core_members : List Member
no_core_members =
    member (codes "language") null
    ∷ member (codes "extlangs") (subtags_value [])
    ∷ member (codes "script") null
    ∷ member (codes "region") null
    ∷ member (codes "variants") (subtags_value []) ∷ []

-- the members for the core of a tag, if it has one
abbrev pub core_members_of : Option CoreParts → List Member
core_members_of (Some core) = core_members core
core_members_of None = no_core_members

-- ---- extensions

-- the member for the singleton of an extension (RFC 5646, 2.2.6)
abbrev pub singleton_member : ℕ → Member
singleton_member singleton = member (codes "singleton") (string (singleton ∷ []))

-- a keyword of a `u` extension as an object (RFC 6067, 2.1)
unfoldable pub keyword_value : KeywordParts → List ℕ
keyword_value keyword =
    object (member (codes "key") (string keyword.key) ∷ member (codes "types") (subtags_value keyword.types) ∷ [])

-- a `u` extension of these parts as an object
unfoldable pub unicode_value : UForm → List ℕ
unicode_value parts = object (singleton_member unicode
    ∷ member (codes "attributes") (subtags_value parts.attributes)
    ∷ member (codes "keywords") (array keyword_value parts.keywords) ∷ [])

-- a field of a `t` extension as an object (RFC 6497, 2.2)
unfoldable pub field_value : FieldParts → List ℕ
field_value field =
    object (member (codes "separator") (string field.separator)
    ∷ member (codes "values") (subtags_value field.values) ∷ [])

-- subtags, each after a hyphen (45)
abbrev pub after_hyphens : List (List ℕ) → List ℕ
after_hyphens subtags = flat_map (λ (subtag : List ℕ). 45 ∷ subtag) subtags

-- the text of the source of a `t` extension, in lower case, since a singleton is before it (RFC 5646, 2.1.1)
unfoldable pub source_text : CoreParts → List ℕ
source_text core = join_with_byte 45 (spell_core core)

-- the source of a `t` extension as a string
abbrev pub source_value : CoreParts → List ℕ
source_value core = string (source_text core)

-- a `t` extension of these parts as an object
unfoldable pub transform_value : TForm → List ℕ
transform_value parts = object (singleton_member transform
    ∷ member (codes "source") (or_null source_value parts.source)
    ∷ member (codes "fields") (array field_value parts.fields) ∷ [])

-- an extension that is neither `u` nor `t`, or that has no parts, as an object of its subtags
unfoldable pub plain_value : ExtensionParts → List ℕ
plain_value extension =
    object (singleton_member extension.singleton ∷ member (codes "subtags") (subtags_value extension.subtags) ∷ [])

-- an extension as an object: what `value` gives for its parts if it has any, else the object of its subtags
abbrev pub parts_or_plain : {A : Type 0} → (A → List ℕ) → ExtensionParts → Option A → List ℕ
parts_or_plain value extension (Some parts) = value parts
parts_or_plain value extension None = plain_value extension

-- an extension as an object: of its parts if it is a `u` or `t` extension that has them, else of its subtags
unfoldable pub extension_value : ExtensionParts → List ℕ
extension_value extension =
    if extension.singleton == unicode then parts_or_plain unicode_value extension (unicode_of extension.subtags)
    else (if extension.singleton == transform
    then parts_or_plain transform_value extension (transform_of extension.subtags) else plain_value extension)
