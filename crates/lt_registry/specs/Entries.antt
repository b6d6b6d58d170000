-- The entries of a registry, and what they say of a subtag or a tag (RFC 5646, 3.1). `R` are the entries in the order
-- of the file, `k` or `kind` is a kind, `s` a subtag, `l` a language, `x` an extlang, `v` a variant, and `t` a tag.
use Rattle.std.specs.Prelude.{ℕ, ◌≡◌, ◌<◌, ◌⊎◌, Bool, true, false, if◌then◌else◌, ◌==◌, nat_lt, nat_le, ◌&&◌, ◌||◌}
use Rattle.std.specs.Prelude.{List, [], ◌∷◌, length, Option, Some, None, find, is_some, bytes_eq, IfSome, All}
use Rattle.std.specs.Prelude.{unwrap_or}
use Rattle.std.specs.List.{list_all, list_any, AllByRecursion}
use Rattle.std.specs.Option.{option_and_then, option_map_or, option_or}
use Rattle.lt_subtag.specs.Bytes.{is_subtag}
use Rattle.lt_subtag.specs.Shapes.{is_alphabetic, is_language, is_extlang, is_script, is_region, is_variant}
use Rattle.lt_tag.specs.Parts.{TagForm}
use Rattle.lt_tag.specs.Values.{IsTagValue}
use Rattle.lt_registry.specs.Parts.{EntryParts}
use Rattle.lt_registry.specs.Same.{same_list, same_tag, same_kind}
use Rattle.lt_registry.specs.declared.entries.Kind.{Kind}
use Rattle.lt_registry.specs.declared.entries.Kind.TheVariants as kinds
use Rattle.lt_registry.specs.declared.entries.EntryName.{EntryName}
use Rattle.lt_registry.specs.declared.entries.EntryName.TheVariants as names
use Rattle.lt_registry.specs.declared.entries.EntryValue.{EntryValue}
use Rattle.lt_registry.specs.declared.entries.EntryValue.TheVariants as values

-- whether a subtag has the form of a kind; none has that of a kind of whole tags (RFC 5646, 3.1.4)
abbrev pub has_form : Kind → List ℕ → Bool
has_form kinds.Language s = is_language s
has_form kinds.Extlang s = is_extlang s
has_form kinds.Script s = is_script s
has_form kinds.Region s = is_region s
has_form kinds.Variant s = is_variant s
has_form _ s = false

-- whether records of a kind name whole tags (RFC 5646, 2.2.8)
abbrev pub is_whole_kind : Kind → Bool
is_whole_kind kinds.Grandfathered = true
is_whole_kind kinds.Redundant = true
is_whole_kind _ = false

-- whether the first of two texts of one length comes before the second in letter order, or is equal to it (RFC 5646,
-- 3.1.4)
abbrev pub letters_le : List ℕ → List ℕ → Bool
letters_le [] _ = true
letters_le (x ∷ xs) [] = false
letters_le (x ∷ xs) (y ∷ ys) = if x == y then letters_le xs ys else nat_lt x y

-- whether a subtag has at most 3 bytes, fewer than any variant: such a value of a variant is a language (RFC 5646,
-- 2.2.1)
abbrev pub is_short : List ℕ → Bool
is_short s = nat_le (length s) 3

-- The first and the last subtag of a range have the form of the kind, are made of letters, are equally long, and are in
-- letter order (RFC 5646, 3.1.4).
pub record IsRange (kind : Kind) (first last : List ℕ) : Type 0 where
  pub first_form : has_form kind first ≡ true
  pub last_form : has_form kind last ≡ true
  pub first_letters : is_alphabetic first ≡ true
  pub last_letters : is_alphabetic last ≡ true
  pub one_length : length first ≡ length last
  pub in_order : letters_le first last ≡ true

-- a name has the form of its kind (RFC 5646, 3.1.4)
abbrev pub FitsName : Kind → EntryName → Type 0
FitsName kind (names.Single s) = has_form kind s ≡ true
FitsName kind (names.Range a b) = IsRange kind a b
FitsName kind (names.Whole t) = (is_whole_kind kind ≡ true) × IsTagValue t

-- The value of an extlang is a language, and any other has the form of its kind (RFC 5646, 3.1.7). A variant may also
-- have a language of 2 or 3 letters as its value (no RFC asks for that: it is a rule of this project).
abbrev pub has_value_form : Kind → List ℕ → Bool
has_value_form kinds.Extlang s = is_language s
has_value_form kinds.Variant s = is_variant s || (is_language s && is_short s)
has_value_form kind s = has_form kind s

-- a preferred value has the form that its record's type asks for (RFC 5646, 3.1.7)
abbrev pub FitsValue : Kind → EntryValue → Type 0
FitsValue kind (values.One s) = has_value_form kind s ≡ true
FitsValue kind (values.Whole t) = (is_whole_kind kind ≡ true) × IsTagValue t

-- a Prefix is a list of one subtag or more (RFC 5646, 3.1.8)
pub record IsPrefix (prefix : List (List ℕ)) : Type 0 where
  pub subtags : list_all is_subtag prefix ≡ true
  pub some : 0 < length prefix

-- the forms of an entry; only extlangs and variants have Prefixes (RFC 5646, 3.1.2)
pub record IsEntry (e : EntryParts) : Type 0 where
  pub name : FitsName e.kind e.name
  pub value : IfSome e.value (FitsValue e.kind)
  pub prefixes : AllByRecursion IsPrefix e.prefixes
  pub prefixed : (e.prefixes ≡ []) ⊎ ((e.kind ≡ kinds.Extlang) ⊎ (e.kind ≡ kinds.Variant))

-- each record's number is greater than those of the records before it (no RFC asks for that: it is a rule of this
-- project)
abbrev pub NumbersRise : List EntryParts → Type 0
NumbersRise [] = Unit {0}
NumbersRise (e ∷ es) = AllByRecursion (λ (f : EntryParts). e.number < f.number) es × NumbersRise es

-- a registry: the numbers rise, and each entry has its forms (RFC 5646, 3.1)
pub record IsRegistry (es : List EntryParts) : Type 0 where
  pub rising : NumbersRise es
  pub forms : All IsEntry es

-- whether a record's name is this one subtag (RFC 5646, 3.1.4)
abbrev pub is_named : List ℕ → EntryName → Bool
is_named s (names.Single n) = bytes_eq n s
is_named s _ = false

-- whether a record's name is a range that holds a subtag. It holds each subtag of only letters that is as long as its
-- ends and is from the first to the last of them in letter order (RFC 5646, 3.1.4).
abbrev pub holds : List ℕ → EntryName → Bool
holds s (names.Range a b) = (length s == length a) && (is_alphabetic s && (letters_le a s && letters_le s b))
holds s _ = false

-- the entry of a subtag under a kind: the first record of the kind that names just this subtag, or, without such a
-- record, the first of the kind whose range holds it (RFC 5646, 3.1.4)
abbrev pub entry : List EntryParts → Kind → List ℕ → Option EntryParts
entry R k s =
    option_or (find (λ (e : EntryParts). same_kind e.kind k && is_named s e.name) R)
    (find (λ (e : EntryParts). same_kind e.kind k && holds s e.name) R)

-- whether a subtag has an entry of this kind (RFC 5646, 2.2.9)
abbrev pub is_registered : List EntryParts → Kind → List ℕ → Bool
is_registered R k s = is_some (entry R k s)

-- the one subtag that a record gives as its value; None if it has no value, or a whole tag (RFC 5646, 3.1.7)
abbrev pub one_of : Option EntryValue → Option (List ℕ)
one_of (Some (values.One v)) = Some v
one_of _ = None

-- the preferred value of a subtag, if it is one subtag (RFC 5646, 3.1.7)
abbrev pub preferred_value : List EntryParts → Kind → List ℕ → Option (List ℕ)
preferred_value R k s = option_and_then (λ (e : EntryParts). one_of e.value) (entry R k s)

-- the Prefixes of a subtag (RFC 5646, 3.1.8)
abbrev pub prefixes : List EntryParts → Kind → List ℕ → List (List (List ℕ))
prefixes R k s = option_map_or (λ (e : EntryParts). e.prefixes) (entry R k s) []

-- the number of an entry's record, 0 where there is no entry: a step that uses no record has the number 0
abbrev pub number_of : Option EntryParts → ℕ
number_of (Some e) = e.number
number_of None = 0

-- whether the language is one of these Prefixes (RFC 5646, 3.1.8)
abbrev pub has_prefix : List (List (List ℕ)) → List ℕ → Bool
has_prefix ps l = list_any (λ (p : List (List ℕ)). same_list p (l ∷ [])) ps

-- the value of a variant, if it is a variant (RFC 5646, 3.1.7)
abbrev pub variant_value : List EntryParts → List ℕ → Option (List ℕ)
variant_value R v = option_and_then (λ w. if is_short w then None else Some w) (preferred_value R kinds.Variant v)

-- the value of a variant, if it is a language (no RFC has such values: they are a rule of this project)
abbrev pub language_value : List EntryParts → List ℕ → Option (List ℕ)
language_value R v = option_and_then (λ w. if is_short w then Some w else None) (preferred_value R kinds.Variant v)

-- the value of an extlang, or, without a value, the extlang (RFC 5646, 4.5, rule 3)
abbrev pub replacement : List EntryParts → List ℕ → List ℕ
replacement R x = unwrap_or (preferred_value R kinds.Extlang x) x

-- whether a record's name is this whole tag (RFC 5646, 2.2.8)
abbrev pub is_whole : TagForm → EntryName → Bool
is_whole t (names.Whole u) = same_tag u t
is_whole t _ = false

-- the entry of a whole tag: the first record that names it (RFC 5646, 2.2.8)
abbrev pub whole : List EntryParts → TagForm → Option EntryParts
whole R t = find (λ (e : EntryParts). is_whole t e.name) R

-- the tag that a record gives as its value (RFC 5646, 3.1.7)
abbrev pub tag_of : Option EntryValue → Option TagForm
tag_of (Some (values.Whole t)) = Some t
tag_of _ = None

-- the preferred value of a whole tag, if it has one (RFC 5646, 3.1.7)
abbrev pub whole_value : List EntryParts → TagForm → Option TagForm
whole_value R t = option_and_then (λ (e : EntryParts). tag_of e.value) (whole R t)
