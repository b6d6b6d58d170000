-- Subtags that stay as they are in canonicalization, and texts of only such subtags (RFC 5646, 4.5).
use Rattle.std.specs.Prelude.{ℕ, ◌≡◌, ◌≤◌, ◌==◌, ◌&&◌, Bool, true, false, not, List, [], length, find, bytes_eq}
use Rattle.std.specs.Prelude.{is_none, is_some, IfSome}
use Rattle.std.specs.List.{list_any}
use Rattle.std.specs.Option.{option_map_or}
use Rattle.lt_tag.specs.Parts.{CoreParts}
use Rattle.lt_tag.specs.Values.{core_of, core_alone}
use Rattle.lt_tag.specs.Faults.{HasTag}
use Rattle.lt_registry.specs.Parts.{EntryParts}
use Rattle.lt_registry.specs.Same.{same_kind}
use Rattle.lt_registry.specs.Entries.{is_named, tag_of}
use Rattle.lt_registry.specs.declared.entries.Kind.{Kind}
use Rattle.lt_registry.specs.declared.entries.Kind.TheVariants as kinds
use Rattle.lt_registry.specs.declared.entries.EntryName.{EntryName}
use Rattle.lt_registry.specs.declared.entries.EntryName.TheVariants as names

-- whether the first record of the kind that names this one subtag is there and has no value (RFC 5646, 3.1.4 and 3.1.7)
abbrev pub has_no_value : List EntryParts → Kind → List ℕ → Bool
has_no_value R k s =
    option_map_or (λ (e : EntryParts). is_none e.value)
    (find (λ (e : EntryParts). same_kind e.kind k && is_named s e.name) R) false

-- whether a core has this language, and neither extlangs nor variants
abbrev pub is_plain_of : List ℕ → CoreParts → Bool
is_plain_of l c = bytes_eq c.language l && ((length c.extlangs == 0) && (length c.variants == 0))

-- whether a name is a tag of this language without extlangs and variants
abbrev pub names_plain_of : List ℕ → EntryName → Bool
names_plain_of l (names.Whole t) = option_map_or (is_plain_of l) (core_of t) false
names_plain_of l _ = false

-- whether a record names a tag of this language without extlangs and variants, and has a tag as its value (RFC 5646,
-- 3.1.7)
abbrev pub replaces_plain_of : List ℕ → EntryParts → Bool
replaces_plain_of l e = is_some (tag_of e.value) && names_plain_of l e.name

-- Whether a subtag stays as it is: it has a record of its own, without a value, and, if it is a language, no record has
-- a value for a tag of it without extlangs and variants (RFC 5646, 4.5).
abbrev pub stays : List EntryParts → Kind → List ℕ → Bool
stays R k s = has_no_value R k s && not (same_kind k kinds.Language && list_any (replaces_plain_of s) R)

-- The text is read as a langtag of a language of 2 or 3 letters, alone or with a script, a region or both, each of
-- which stays (RFC 5646, 2.1 and 4.5).
pub record StaysAs (R : List EntryParts) (text : List ℕ) (c : CoreParts) : Type 0 where
  pub read : HasTag text (core_alone c)
  pub extlangs : c.extlangs ≡ []
  pub variants : c.variants ≡ []
  pub short : length c.language ≤ 3
  pub language : stays R kinds.Language c.language ≡ true
  pub script : IfSome c.script (λ s. stays R kinds.Script s ≡ true)
  pub region : IfSome c.region (λ s. stays R kinds.Region s ≡ true)

-- the text is a langtag of a language, and at most a script and a region, each of which stays
abbrev pub IsStaying : List EntryParts → List ℕ → Type 0
IsStaying R text = (c : CoreParts) × StaysAs R text c
