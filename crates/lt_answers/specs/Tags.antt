-- A tag as members of the JSON object that is answered to its text.
use Rattle.std.specs.Prelude.{ℕ, List, [], ◌∷◌, ◌++◌, codes, Option, Some, None}
use Rattle.lt_tag.specs.Parts.{TagForm}
use Rattle.lt_tag.specs.Classes.{class_of}
use Rattle.lt_tag.specs.Values.{core_of, extensions_of, private_of}
use Rattle.lt_tag.specs.declared.tags.Class.{Class}
use Rattle.lt_tag.specs.declared.tags.Class.TheVariants as classes
use Rattle.lt_show.specs.Strings.{string}
use Rattle.lt_show.specs.Values.{Member, array, member, null}
use Rattle.lt_answers.specs.Parts.{core_members_of, extension_value, no_core_members, subtags_value}

-- the word for the class of a tag
abbrev pub class_word : Class → List ℕ
class_word classes.LangTag = codes "langtag"
class_word classes.PrivateUse = codes "privateuse"
class_word classes.Grandfathered = codes "grandfathered"

-- the members for the extensions and the private use of a tag
abbrev pub ends_members : TagForm → List Member
ends_members tag =
    member (codes "extensions") (array extension_value (extensions_of tag))
    ∷ member (codes "private") (subtags_value (private_of tag)) ∷ []

-- the members for a tag
abbrev pub members_of_tag : TagForm → List Member
members_of_tag tag =
    member (codes "class") (string (class_word (class_of tag))) ∷ (core_members_of (core_of tag) ++ ends_members tag)

-- the members for a text that is no tag: null and empty arrays
abbrev pub members_of_none : List Member
members_of_none =
    member (codes "class") null
    ∷ (no_core_members ++ (member (codes "extensions") (subtags_value [])
    ∷ member (codes "private") (subtags_value []) ∷ []))

-- the members for the tag that a text is read as, or for none
abbrev pub tag_members : Option TagForm → List Member
tag_members (Some tag) = members_of_tag tag
tag_members None = members_of_none
