-- Which fields of a registry's record `show` prints (RFC 5646, 3.1.2), and which it keeps.
use Rattle.std.specs.Prelude.{ℕ, zero, suc, Bool, ◌||◌, List, [], codes, filter, get_or}
use Rattle.std.specs.Str.{str_eq_ignore_ascii_case}
use Rattle.lt_jar.specs.Records.{Field}
use Rattle.lt_registry.specs.Records.{date_name, is_called, prefix_name, subtag_name, tag_name, type_name, value_name}
use Rattle.lt_show.specs.declared.listings.Listing.{Listing}
use Rattle.lt_show.specs.declared.listings.Listing.TheVariants as listings

-- the fields of the record with this number, counted from 1; none where there is no such record
abbrev pub fields_of : List (List Field) → ℕ → List Field
fields_of records zero = []
fields_of records (suc i) = get_or records i []

-- whether fields of this name are shown, letter case aside
abbrev pub is_shown : List ℕ → Bool
is_shown name =
    str_eq_ignore_ascii_case name (codes "Description") || (str_eq_ignore_ascii_case name (codes "Deprecated")
    || (str_eq_ignore_ascii_case name (codes "Preferred-Value")
    || (str_eq_ignore_ascii_case name (codes "Prefix") || (str_eq_ignore_ascii_case name (codes "Suppress-Script")
    || (str_eq_ignore_ascii_case name (codes "Macrolanguage") || (str_eq_ignore_ascii_case name (codes "Scope")
    || str_eq_ignore_ascii_case name (codes "Comments")))))))

-- the fields of a record that are shown, in the order of the file
abbrev pub shown_fields : List Field → List Field
shown_fields fields = filter (λ (f : Field). is_shown f.0) fields

-- whether a field tells what its record registers, or that it is the header
abbrev pub is_of_entry : Field → Bool
is_of_entry f =
    is_called type_name f || (is_called subtag_name f || (is_called tag_name f || (is_called value_name f
    || (is_called prefix_name f || is_called date_name f))))

-- whether a field is kept: it is shown, or it tells what its record registers
abbrev pub is_kept : Field → Bool
is_kept f = is_shown f.0 || is_of_entry f

-- the fields of a record that are kept, in the order of the file
abbrev pub kept_fields : List Field → List Field
kept_fields fields = filter is_kept fields

-- the fields that are shown for a part of a tag: those of its record, if it has one; `records` are those of the
-- registry's file, whole or with the fields that are kept
abbrev pub fields_listed : List (List Field) → Listing → List Field
fields_listed records (listings.Record number) = shown_fields (fields_of records number)
fields_listed records listing = []
