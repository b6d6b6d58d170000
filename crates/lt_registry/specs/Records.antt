-- The entry that a record of a registry gives, and what can be wrong with a record (RFC 5646, 3.1). A record is a
-- list of fields, each the pair of a name and a body. Letters of either case are the same in a field's name and in a
-- type; of an entry's fields only Type, Subtag, Tag, Preferred-Value and Prefix are looked at.
use Rattle.std.specs.Prelude.{ℕ, ◌≡◌, ◌≤◌, ◌+◌, ◌==◌, ◌⊎◌, Bool, true, false, ◌&&◌, ◌||◌, if◌then◌else◌, List, [], ◌∷◌}
use Rattle.std.specs.Prelude.{◌++◌, length, map, filter, find, drop, Option, Some, None, option_map, is_some, is_none}
use Rattle.std.specs.Prelude.{Result, Ok, Err, codes, nat_lt, count_by}
use Rattle.std.specs.Str.{str_eq_ignore_ascii_case}
use Rattle.lt_subtag.specs.Reading.{subtag_of}
use Rattle.lt_subtag.specs.declared.SubtagFault.{SubtagFault}
use Rattle.lt_subtag.specs.Shapes.{is_alphabetic}
use Rattle.lt_tag.specs.Parts.{TagForm}
use Rattle.lt_tag.specs.Lists.{pieces}
use Rattle.lt_tag.specs.Faults.{HasTag}
use Rattle.lt_jar.specs.Records.{Field}
use Rattle.lt_registry.specs.Parts.{EntryParts}
use Rattle.lt_registry.specs.Entries.{has_form, has_value_form, is_whole_kind, letters_le}
use Rattle.lt_registry.specs.declared.entries.Kind.{Kind}
use Rattle.lt_registry.specs.declared.entries.Kind.TheVariants as kinds
use Rattle.lt_registry.specs.declared.entries.EntryName.{EntryName}
use Rattle.lt_registry.specs.declared.entries.EntryName.TheVariants as names
use Rattle.lt_registry.specs.declared.entries.EntryValue.{EntryValue}
use Rattle.lt_registry.specs.declared.entries.EntryValue.TheVariants as values
use Rattle.lt_registry.specs.declared.faults.RecordFaultKind.{RecordFaultKind}
use Rattle.lt_registry.specs.declared.faults.RecordFaultKind.TheVariants as faults

-- the name of the field with the kind of what a record names (RFC 5646, 3.1.3)
abbrev pub type_name : List ℕ
type_name = codes "Type"

-- the name of the field with a subtag or a range (RFC 5646, 3.1.4)
abbrev pub subtag_name : List ℕ
subtag_name = codes "Subtag"

-- the name of the field with a whole tag (RFC 5646, 3.1.4)
abbrev pub tag_name : List ℕ
tag_name = codes "Tag"

-- the name of the field with the value (RFC 5646, 3.1.7)
abbrev pub value_name : List ℕ
value_name = codes "Preferred-Value"

-- the name of each field with a Prefix (RFC 5646, 3.1.8)
abbrev pub prefix_name : List ℕ
prefix_name = codes "Prefix"

-- the name of the field with the file's date (RFC 5646, 3.1.2)
abbrev pub date_name : List ℕ
date_name = codes "File-Date"

-- whether a field has this name, letter case aside
abbrev pub is_called : List ℕ → Field → Bool
is_called name field = str_eq_ignore_ascii_case field.0 name

-- the bodies of the fields of a name, in order
abbrev pub bodies : List ℕ → List Field → List (List ℕ)
bodies name r = map (λ (f : Field). f.1) (filter (is_called name) r)

-- the body of the first field of a name; None if no field has the name
abbrev pub body : List ℕ → List Field → Option (List ℕ)
body name r = option_map (λ (f : Field). f.1) (find (is_called name) r)

-- whether a field of this name occurs twice
abbrev pub is_repeated : List ℕ → List Field → Bool
is_repeated name r = nat_lt 1 (count_by (is_called name) r)

-- whether Type, Subtag, Tag or Preferred-Value occurs twice in a record
abbrev pub repeats_field : List Field → Bool
repeats_field r =
    is_repeated type_name r || (is_repeated subtag_name r || (is_repeated tag_name r || is_repeated value_name r))

-- the kind that a type names; None if it names none
abbrev pub kind_of : List ℕ → Option Kind
kind_of s =
    if str_eq_ignore_ascii_case s (codes "language") then Some kinds.Language
    else (if str_eq_ignore_ascii_case s (codes "extlang") then Some kinds.Extlang
    else (if str_eq_ignore_ascii_case s (codes "script") then Some kinds.Script
    else (if str_eq_ignore_ascii_case s (codes "region") then Some kinds.Region
    else (if str_eq_ignore_ascii_case s (codes "variant") then Some kinds.Variant
    else (if str_eq_ignore_ascii_case s (codes "grandfathered") then Some kinds.Grandfathered
    else (if str_eq_ignore_ascii_case s (codes "redundant") then Some kinds.Redundant else None))))))

-- whether a record has a date and no type, as the header has that comes first in a file
abbrev pub is_header : List Field → Bool
is_header r = is_some (body date_name r) && is_none (body type_name r)

-- the record's type names the kind
abbrev pub HasKind : List Field → Kind → Type 0
HasKind r k = (s : List ℕ) × (body type_name r ≡ Some s) × (kind_of s ≡ Some k)

-- the name of the field that has what a record of this kind names: Tag or Subtag
abbrev pub name_field : Kind → List ℕ
name_field k = if is_whole_kind k then tag_name else subtag_name

-- the subtag that was read, if it passes the test of its form; None if it doesn't, or if none was read
abbrev pub formed : (List ℕ → Bool) → Result (List ℕ) SubtagFault → Option (List ℕ)
formed form (Ok s) = if form s then Some s else None
formed form (Err fault) = None

-- whether a full stop (46) begins a text
abbrev pub begins_dot : List ℕ → Bool
begins_dot [] = false
begins_dot (b ∷ s) = b == 46

-- whether two full stops (46) begin a text
abbrev pub begins_dots : List ℕ → Bool
begins_dots [] = false
begins_dots (b ∷ s) = (b == 46) && begins_dot s

-- two texts, with a byte put in front of the first
abbrev pub with_first : ℕ → Option (List ℕ × List ℕ) → Option (List ℕ × List ℕ)
with_first b None = None
with_first b (Some p) = Some (b ∷ p.0, p.1)

-- the texts before and after the first two full stops; None if there are none
unfoldable pub ends_of : List ℕ → Option (List ℕ × List ℕ)
ends_of [] = None
ends_of (b ∷ s) = if begins_dots (b ∷ s) then Some ([], drop 1 s) else with_first b (ends_of s)

-- whether two subtags are the ends of a range of this kind
abbrev pub is_range : Kind → List ℕ → List ℕ → Bool
is_range k a b =
    has_form k a && (has_form k b
    && (is_alphabetic a && (is_alphabetic b && ((length a == length b) && letters_le a b))))

-- the range from one subtag to another, by what each is read as; BadRange if they are no ends of a range
abbrev pub range_of : Kind → Result (List ℕ) SubtagFault
    → Result (List ℕ) SubtagFault → Result EntryName RecordFaultKind
range_of k (Ok a) (Ok b) = if is_range k a b then Ok (names.Range a b) else Err faults.BadRange
range_of k (Ok a) (Err fault) = Err faults.BadRange
range_of k (Err fault) other = Err faults.BadRange

-- the name that is this one subtag, or BadSubtag if there is none
abbrev pub single_of : Option (List ℕ) → Result EntryName RecordFaultKind
single_of (Some s) = Ok (names.Single s)
single_of None = Err faults.BadSubtag

-- the name that a text `s` gives a record of the kind: a range by the texts around two full stops in it, else a subtag
abbrev pub name_by : Kind → List ℕ → Option (List ℕ × List ℕ) → Result EntryName RecordFaultKind
name_by k s None = single_of (formed (has_form k) (subtag_of s))
name_by k s (Some ends) = range_of k (subtag_of ends.0) (subtag_of ends.1)

-- the subtag or the range that the text of the field Subtag names, or the fault
abbrev pub subtags_named : Kind → List ℕ → Result EntryName RecordFaultKind
subtags_named k s = name_by k s (ends_of s)

-- the text is not that of a tag
abbrev pub HasNoTag : List ℕ → Type 0
HasNoTag s = (t : TagForm) → HasTag s t → ⊥

-- the text of the field Subtag or Tag gives this name
abbrev pub IsName : Kind → List ℕ → EntryName → Type 0
IsName k s (names.Single n) = (is_whole_kind k ≡ false) × (subtags_named k s ≡ Ok (names.Single n))
IsName k s (names.Range a b) = (is_whole_kind k ≡ false) × (subtags_named k s ≡ Ok (names.Range a b))
IsName k s (names.Whole t) = (is_whole_kind k ≡ true) × HasTag s t

-- the text of the field Preferred-Value gives this value
abbrev pub IsValue : Kind → List ℕ → EntryValue → Type 0
IsValue k s (values.One n) = (is_whole_kind k ≡ false) × (formed (has_value_form k) (subtag_of s) ≡ Some n)
IsValue k s (values.Whole t) = (is_whole_kind k ≡ true) × HasTag s t

-- the value of a record by the text of its Preferred-Value, if it has one
abbrev pub IsValueOf : Kind → Option (List ℕ) → Option EntryValue → Type 0
IsValueOf k None None = Unit {0}
IsValueOf k None (Some v) = ⊥
IsValueOf k (Some s) None = ⊥
IsValueOf k (Some s) (Some v) = IsValue k s v

-- the subtag that was read in front of others; None if none was read, or if the others are None
abbrev pub with_subtag : Result (List ℕ) SubtagFault → Option (List (List ℕ)) → Option (List (List ℕ))
with_subtag (Ok s) rest = option_map (λ (ss : List (List ℕ)). s ∷ ss) rest
with_subtag (Err fault) rest = None

-- the subtags that these pieces are; None if one of them is no subtag
unfoldable pub subtags_of : List (List ℕ) → Option (List (List ℕ))
subtags_of [] = Some []
subtags_of (p ∷ ps) = with_subtag (subtag_of p) (subtags_of ps)

-- the subtags of the text of a Prefix; None if a piece of it is no subtag
abbrev pub prefix_of : List ℕ → Option (List (List ℕ))
prefix_of s = subtags_of (pieces s)

-- a Prefix in front of others; None if it is None, or if the others are
abbrev pub with_prefix : Option (List (List ℕ)) → Option (List (List (List ℕ))) → Option (List (List (List ℕ)))
with_prefix (Some p) rest = option_map (λ (ps : List (List (List ℕ))). p ∷ ps) rest
with_prefix None rest = None

-- the Prefixes that these texts are; None if one is no list of subtags
unfoldable pub prefixes_of : List (List ℕ) → Option (List (List (List ℕ)))
prefixes_of [] = Some []
prefixes_of (s ∷ ss) = with_prefix (prefix_of s) (prefixes_of ss)

-- whether records of a kind have Prefixes: extlangs and variants do
abbrev pub has_prefixes : Kind → Bool
has_prefixes kinds.Extlang = true
has_prefixes kinds.Variant = true
has_prefixes _ = false

-- the Prefixes of a record of this kind; None if one is no list of subtags
abbrev pub prefixes_in : Kind → List Field → Option (List (List (List ℕ)))
prefixes_in k r = if has_prefixes k then prefixes_of (bodies prefix_name r) else Some []

-- the entry that the record `r`, which has this number, gives
pub record IsEntryOf (r : List Field) (number : ℕ) (e : EntryParts) : Type 0 where
  pub numbered : e.number ≡ number
  pub once : repeats_field r ≡ false
  pub kind : HasKind r e.kind
  pub named : (s : List ℕ) × (body (name_field e.kind) r ≡ Some s) × IsName e.kind s e.name
  pub valued : IsValueOf e.kind (body value_name r) e.value
  pub prefixed : prefixes_in e.kind r ≡ Some e.prefixes

-- the record has this fault
abbrev pub HasRecordFault : List Field → RecordFaultKind → Type 0
HasRecordFault r faults.RepeatedField = repeats_field r ≡ true
HasRecordFault r faults.MissingType = body type_name r ≡ None
HasRecordFault r faults.UnknownType = (s : List ℕ) × (body type_name r ≡ Some s) × (kind_of s ≡ None)
HasRecordFault r faults.MissingName = (k : Kind) × HasKind r k × (body (name_field k) r ≡ None)
HasRecordFault r faults.BadRange =
    (k : Kind) × (s : List ℕ) × HasKind r k × (is_whole_kind k ≡ false)
    × (body subtag_name r ≡ Some s) × (subtags_named k s ≡ Err faults.BadRange)
HasRecordFault r faults.BadSubtag =
    (k : Kind) × (s : List ℕ) × HasKind r k × (is_whole_kind k ≡ false)
    × (body subtag_name r ≡ Some s) × (subtags_named k s ≡ Err faults.BadSubtag)
HasRecordFault r faults.BadTag =
    (k : Kind) × (s : List ℕ) × HasKind r k × (is_whole_kind k ≡ true) × (body tag_name r ≡ Some s) × HasNoTag s
HasRecordFault r faults.BadPreferred =
    (k : Kind) × (s : List ℕ) × HasKind r k × (body value_name r ≡ Some s) × ((v : EntryValue) → IsValue k s v → ⊥)
HasRecordFault r faults.BadPrefix = (k : Kind) × HasKind r k × (prefixes_in k r ≡ None)
HasRecordFault r faults.OutOfMemory = ⊥

-- the order of the faults of one record, of which the one with the least rank is answered
abbrev pub record_rank : RecordFaultKind → ℕ
record_rank faults.RepeatedField = 0
record_rank faults.MissingType = 1
record_rank faults.UnknownType = 2
record_rank faults.MissingName = 3
record_rank faults.BadRange = 4
record_rank faults.BadSubtag = 5
record_rank faults.BadTag = 6
record_rank faults.BadPreferred = 7
record_rank faults.BadPrefix = 8
record_rank faults.OutOfMemory = 9

-- the fault of a record with the least rank
pub record IsFirstOfRecord (r : List Field) (kind : RecordFaultKind) : Type 0 where
  pub there : HasRecordFault r kind
  pub earliest : (other : RecordFaultKind) → HasRecordFault r other → record_rank kind ≤ record_rank other

-- whether the record with this number is the header
abbrev pub is_header_at : ℕ → List Field → Bool
is_header_at number r = (number == 1) && is_header r

-- the entries of these records, the first of which has this number; the header gives none
unfoldable pub EntriesFrom : ℕ → List (List Field) → List EntryParts → Type 0
EntriesFrom number [] es = es ≡ []
EntriesFrom number (r ∷ rs) es =
    ((is_header_at number r ≡ true) × EntriesFrom (number + 1) rs es)
    ⊎ ((is_header_at number r ≡ false)
    × ((e : EntryParts) × (rest : List EntryParts) × (es ≡ e ∷ rest)
    × IsEntryOf r number e × EntriesFrom (number + 1) rs rest))

-- the entries of the records of a file: one of each but the header, with the record's number
abbrev pub HasEntries : List (List Field) → List EntryParts → Type 0
HasEntries records es = EntriesFrom 1 records es

-- the record with this number, which is not the header, has this fault
pub record HasFaultAt (records : List (List Field)) (kind : RecordFaultKind) (number : ℕ) : Type 0 where
  pub before : List (List Field)
  pub here : List Field
  pub after : List (List Field)
  pub there : records ≡ before ++ here ∷ after
  pub numbered : number ≡ length before + 1
  pub judged : is_header_at number here ≡ false
  pub fault : HasRecordFault here kind

-- the least number of a record with a fault, and of its faults the one with the least rank
pub record IsFirstRecordFault (records : List (List Field)) (kind : RecordFaultKind) (number : ℕ) : Type 0 where
  pub fault : HasFaultAt records kind number
  pub lowest : (other : RecordFaultKind) (elsewhere : ℕ) → HasFaultAt records other elsewhere → number ≤ elsewhere
  pub earliest : (other : RecordFaultKind) → HasFaultAt records other number → record_rank kind ≤ record_rank other

-- the record with this number is not the header, and no record before it has a fault
pub record IsRecordReached (records : List (List Field)) (number : ℕ) : Type 0 where
  pub before : List (List Field)
  pub here : List Field
  pub after : List (List Field)
  pub there : records ≡ before ++ here ∷ after
  pub numbered : number ≡ length before + 1
  pub judged : is_header_at number here ≡ false
  pub clean : (other : RecordFaultKind) (elsewhere : ℕ) → HasFaultAt records other elsewhere → number ≤ elsewhere
