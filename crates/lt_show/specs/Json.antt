-- The rows of `show` for a tag as JSON (RFC 8259).
use Rattle.std.specs.Prelude.{ℕ, List, [], ◌∷◌, ◌++◌, codes}
use Rattle.std.specs.Fmt.{decimal}
use Rattle.lt_tag.specs.Parts.{TagForm}
use Rattle.lt_tag.specs.Texts.{text_of}
use Rattle.lt_jar.specs.Records.{Field}
use Rattle.lt_show.specs.Strings.{string}
use Rattle.lt_show.specs.Values.{after_commas, array, member, member_text, null, object}
use Rattle.lt_registry.specs.Parts.{EntryParts}
use Rattle.lt_show.specs.Fields.{fields_listed}
use Rattle.lt_show.specs.Listings.{subject_name}
use Rattle.lt_show.specs.Rows.{rows_of, text_in}
use Rattle.lt_show.specs.declared.listings.Listing.{Listing}
use Rattle.lt_show.specs.declared.listings.Listing.TheVariants as listings
use Rattle.lt_show.specs.declared.rows.Row.{Row}

-- a field of a record as an object of its name and its body
unfoldable pub field_value : Field → List ℕ
field_value field = object (member (codes "name") (string field.0) ∷ member (codes "body") (string field.1) ∷ [])

-- the name of what a registry has for a part of a tag
abbrev pub listing_name : Listing → List ℕ
listing_name listings.Unlisted = codes "Unlisted"
listing_name listings.Unregistered = codes "Unregistered"
listing_name (listings.Record number) = codes "Record"

-- the number of the record, or null where there is none
abbrev pub record_value : Listing → List ℕ
record_value (listings.Record number) = decimal number
record_value listing = null

-- A row as an object: its place, what it is about, its text, what the registry has for it, and the fields that are
-- shown. `text` is the tag's text, and `records` are those of the registry's file.
unfoldable pub row_value : (text : List ℕ) → List (List Field) → Row → List ℕ
row_value text records row = object (member (codes "place") (decimal row.place)
    ∷ member (codes "kind") (string (subject_name row.subject))
    ∷ member (codes "text") (string (text_in text row))
    ∷ member (codes "listing") (string (listing_name row.listing))
    ∷ member (codes "record") (record_value row.listing)
    ∷ member (codes "fields") (array field_value (fields_listed records row.listing)) ∷ [])

-- the rows for a tag as an array, by the entries of a registry and the records of its file
abbrev pub rows_value : List EntryParts → List (List Field) → TagForm → List ℕ
rows_value R records tag = array (row_value (text_of tag) records) (rows_of R tag)

-- ---- the parts of a row's object, as they are appended

-- the beginning of a row's object: a brace (123) and its members up to the text; `text` is the tag's text
unfoldable pub row_front : (text : List ℕ) → Row → List ℕ
row_front text row =
    123 ∷ member_text (member (codes "place") (decimal row.place))
    ++ after_commas member_text (member (codes "kind") (string (subject_name row.subject))
    ∷ member (codes "text") (string (text_in text row)) ∷ [])

-- the end of a row's object: its members after the text, each after a comma, and a brace (125), by the records of the
-- registry's file and what the registry has for the row
unfoldable pub row_end : List (List Field) → Listing → List ℕ
row_end records listing = after_commas member_text (member (codes "listing") (string (listing_name listing))
    ∷ member (codes "record") (record_value listing)
    ∷ member (codes "fields") (array field_value (fields_listed records listing)) ∷ []) ++ 125 ∷ []
