-- What each step of reading a record of a registry gives; OutOfMemory may be the fault of any. No public contract cites
-- this.
use Rattle.std.specs.Prelude.{ℕ, ◌≡◌, true, false, if◌then◌else◌, List, Option, Some, None, is_some, Result, Ok, Err}
use Rattle.std.specs.List.{position_from}
use Rattle.std.specs.Str.{str_eq_ignore_ascii_case}
use Rattle.lt_tag.specs.Parts.{TagForm}
use Rattle.lt_tag.specs.Faults.{HasTag}
use Rattle.lt_jar.specs.Records.{Field}
use Rattle.lt_registry.specs.Entries.{is_whole_kind}
use Rattle.lt_registry.specs.Records.{is_called, body, type_name, subtag_name, tag_name, value_name, date_name}
use Rattle.lt_registry.specs.Records.{repeats_field, kind_of, name_field, subtags_named, HasNoTag, IsName, IsValue}
use Rattle.lt_registry.specs.Records.{prefixes_in, prefixes_of, bodies, prefix_name}
use Rattle.lt_registry.specs.declared.entries.Kind.{Kind}
use Rattle.lt_registry.specs.declared.entries.EntryName.{EntryName}
use Rattle.lt_registry.specs.declared.entries.EntryValue.{EntryValue}
use Rattle.lt_registry.specs.declared.fields.FieldName.{FieldName}
use Rattle.lt_registry.specs.declared.fields.FieldName.TheVariants as told
use Rattle.lt_registry.specs.declared.fields.Found.{Found}
use Rattle.lt_registry.specs.declared.faults.RecordFaultKind.{RecordFaultKind}
use Rattle.lt_registry.specs.declared.faults.RecordFaultKind.TheVariants as faults

-- which field of a record has this name, in whatever letter case
abbrev pub field_told : List ℕ → FieldName
field_told s =
    if str_eq_ignore_ascii_case s type_name then told.Type
    else (if str_eq_ignore_ascii_case s subtag_name then told.Subtag
    else (if str_eq_ignore_ascii_case s tag_name then told.Tag
    else (if str_eq_ignore_ascii_case s value_name then told.PreferredValue
    else (if str_eq_ignore_ascii_case s date_name then told.FileDate else told.Other))))

-- the place, counted from 0, of the first field with this name, None if there is none
abbrev pub IsPlace : List ℕ → List Field → Option ℕ → Type 0
IsPlace name r place = place ≡ position_from (is_called name) 0 r

-- what was found of the fields of a record is true: the place of the first field of each name, whether there is a date,
-- and whether one of the four names occurs twice
pub record HasFound (r : List Field) (found : Found) : Type 0 where
  pub kind : IsPlace type_name r found.kind
  pub subtag : IsPlace subtag_name r found.subtag
  pub tag : IsPlace tag_name r found.tag
  pub value : IsPlace value_name r found.value
  pub dated : found.is_dated ≡ is_some (body date_name r)
  pub repeats : found.repeats ≡ repeats_field r

-- the kind that a Type names, or the fault that it names none
abbrev pub kind_or : Option Kind → Result Kind RecordFaultKind
kind_or (Some k) = Ok k
kind_or None = Err faults.UnknownType

-- the kind that a record's Type names, or the fault that there is no Type or that it names none
abbrev pub kind_by : Option (List ℕ) → Result Kind RecordFaultKind
kind_by (Some s) = kind_or (kind_of s)
kind_by None = Err faults.MissingType

-- the name that a record of this kind has
abbrev pub IsNameIn : Kind → List Field → EntryName → Type 0
IsNameIn k r name = (s : List ℕ) × (body (name_field k) r ≡ Some s) × IsName k s name

-- a fault of the name of a record of this kind, or OutOfMemory
abbrev pub IsNameFault : Kind → List Field → RecordFaultKind → Type 0
IsNameFault k r faults.RepeatedField = ⊥
IsNameFault k r faults.MissingType = ⊥
IsNameFault k r faults.UnknownType = ⊥
IsNameFault k r faults.MissingName = body (name_field k) r ≡ None
IsNameFault k r faults.BadRange =
    (s : List ℕ) × (is_whole_kind k ≡ false) × (body subtag_name r ≡ Some s) × (subtags_named k s ≡ Err faults.BadRange)
IsNameFault k r faults.BadSubtag = (s : List ℕ) × (is_whole_kind k ≡ false)
    × (body subtag_name r ≡ Some s) × (subtags_named k s ≡ Err faults.BadSubtag)
IsNameFault k r faults.BadTag = (s : List ℕ) × (is_whole_kind k ≡ true) × (body tag_name r ≡ Some s) × HasNoTag s
IsNameFault k r faults.BadPreferred = ⊥
IsNameFault k r faults.BadPrefix = ⊥
IsNameFault k r faults.OutOfMemory = Unit {0}

-- a fault of the text of a value, in a record of this kind, or OutOfMemory
abbrev pub IsTextFault : Kind → List ℕ → RecordFaultKind → Type 0
IsTextFault k s faults.BadPreferred = (v : EntryValue) → IsValue k s v → ⊥
IsTextFault k s faults.OutOfMemory = Unit {0}
IsTextFault k s faults.RepeatedField = ⊥
IsTextFault k s faults.MissingType = ⊥
IsTextFault k s faults.UnknownType = ⊥
IsTextFault k s faults.MissingName = ⊥
IsTextFault k s faults.BadRange = ⊥
IsTextFault k s faults.BadSubtag = ⊥
IsTextFault k s faults.BadTag = ⊥
IsTextFault k s faults.BadPrefix = ⊥

-- a fault of the value of a record of this kind, or OutOfMemory
abbrev pub IsValueFault : Kind → List Field → RecordFaultKind → Type 0
IsValueFault k r faults.BadPreferred =
    (s : List ℕ) × (body value_name r ≡ Some s) × ((v : EntryValue) → IsValue k s v → ⊥)
IsValueFault k r faults.OutOfMemory = Unit {0}
IsValueFault k r faults.RepeatedField = ⊥
IsValueFault k r faults.MissingType = ⊥
IsValueFault k r faults.UnknownType = ⊥
IsValueFault k r faults.MissingName = ⊥
IsValueFault k r faults.BadRange = ⊥
IsValueFault k r faults.BadSubtag = ⊥
IsValueFault k r faults.BadTag = ⊥
IsValueFault k r faults.BadPrefix = ⊥

-- a fault of the Prefixes of a record of this kind, or OutOfMemory
abbrev pub IsPrefixFault : Kind → List Field → RecordFaultKind → Type 0
IsPrefixFault k r faults.BadPrefix = prefixes_in k r ≡ None
IsPrefixFault k r faults.OutOfMemory = Unit {0}
IsPrefixFault k r faults.RepeatedField = ⊥
IsPrefixFault k r faults.MissingType = ⊥
IsPrefixFault k r faults.UnknownType = ⊥
IsPrefixFault k r faults.MissingName = ⊥
IsPrefixFault k r faults.BadRange = ⊥
IsPrefixFault k r faults.BadSubtag = ⊥
IsPrefixFault k r faults.BadTag = ⊥
IsPrefixFault k r faults.BadPreferred = ⊥

-- BadPrefix, if a Prefix of the record is no list of subtags; or OutOfMemory
abbrev pub IsPrefixesFault : List Field → RecordFaultKind → Type 0
IsPrefixesFault r faults.BadPrefix = prefixes_of (bodies prefix_name r) ≡ None
IsPrefixesFault r faults.OutOfMemory = Unit {0}
IsPrefixesFault r faults.RepeatedField = ⊥
IsPrefixesFault r faults.MissingType = ⊥
IsPrefixesFault r faults.UnknownType = ⊥
IsPrefixesFault r faults.MissingName = ⊥
IsPrefixesFault r faults.BadRange = ⊥
IsPrefixesFault r faults.BadSubtag = ⊥
IsPrefixesFault r faults.BadTag = ⊥
IsPrefixesFault r faults.BadPreferred = ⊥

-- the tag of a text, None if it has none
abbrev pub IsTagOf : List ℕ → Option TagForm → Type 0
IsTagOf s None = HasNoTag s
IsTagOf s (Some t) = HasTag s t
