-- The rows of a tag as a table for people: columns are as wide as their longest text, two spaces apart.
use Rattle.std.specs.Prelude.{ℕ, ◌-◌, ◌==◌, ◌||◌, if◌then◌else◌, nat_lt, max, List, [], ◌∷◌, ◌++◌, length, map, fold}
use Rattle.std.specs.Prelude.{replicate, codes}
use Rattle.std.specs.List.{flat_map}
use Rattle.std.specs.Fmt.{decimal}
use Rattle.lt_tag.specs.Parts.{TagForm}
use Rattle.lt_tag.specs.Texts.{text_of}
use Rattle.lt_jar.specs.Records.{Field}
use Rattle.lt_registry.specs.Parts.{EntryParts}
use Rattle.lt_show.specs.Listings.{subject_name}
use Rattle.lt_show.specs.Rows.{rows_of, text_in}
use Rattle.lt_show.specs.Fields.{fields_listed}
use Rattle.lt_show.specs.declared.listings.Listing.{Listing}
use Rattle.lt_show.specs.declared.listings.Listing.TheVariants as listings
use Rattle.lt_show.specs.declared.rows.Row.{Row}
use Rattle.lt_show.specs.declared.tables.Widths.{Widths}

-- a cell, filled with spaces (32) up to the width of its column, and two spaces more
abbrev pub padded : ℕ → List ℕ → List ℕ
padded width cell = cell ++ (replicate (width - length cell) 32 ++ 32 ∷ 32 ∷ [])

-- a byte of a text as it is shown: as a space (32) if it is a control character of ASCII (below 32, or 127)
abbrev pub shown_byte : ℕ → ℕ
shown_byte byte = if nat_lt byte 32 || (byte == 127) then 32 else byte

-- the line of a field: five spaces, which are the first column, then its name, in a column as wide as the longest name
-- that is shown (15), its body, and a line feed (10)
abbrev pub field_line : Field → List ℕ
field_line field = codes "     " ++ (padded 15 field.0 ++ (map shown_byte field.1 ++ 10 ∷ []))

-- the lines of fields, one after another
abbrev pub fields_text : List Field → List ℕ
fields_text fields = flat_map field_line fields

-- the length of the longest text that `cell` gives for a row, 0 without rows
abbrev pub widest : (Row → List ℕ) → List Row → ℕ
widest cell rows = fold max 0 (map (λ (row : Row). length (cell row)) rows)

-- how wide the columns of rows are: that of what they are about, and that of their texts; `text` is the tag's text
abbrev pub widths_of : (text : List ℕ) → List Row → Widths
widths_of text rows = record {
  subject = widest (λ (row : Row). subject_name row.subject) rows;
  text = widest (text_in text) rows;
}

-- what is printed for what a registry has for a part
abbrev pub listing_text : Listing → List ℕ
listing_text listings.Unlisted = []
listing_text listings.Unregistered = codes "not registered"
listing_text (listings.Record number) = codes "record " ++ decimal number

-- the end of a row's line: its text, `cell`, in a column of this width, and what the registry has for it; only the text
-- if no registry registers parts of its kind
abbrev pub last_cells : ℕ → (cell : List ℕ) → Listing → List ℕ
last_cells width cell listings.Unlisted = cell
last_cells width cell listing = padded width cell ++ listing_text listing

-- the line of a row: its place, in a column of 3 digits, what it is about, its text, what the registry has for it, and
-- a line feed (10); `text` is the tag's text
abbrev pub row_line : Widths → (text : List ℕ) → Row → List ℕ
row_line widths text row =
    padded 3 (decimal row.place) ++ (padded widths.subject (subject_name row.subject)
    ++ (last_cells widths.text (text_in text row) row.listing ++ 10 ∷ []))

-- the line of a row, and those of its fields; `text` is the tag's text, and `records` are those of the registry's file
abbrev pub row_text : Widths → (text : List ℕ) → List (List Field) → Row → List ℕ
row_text widths text records row = row_line widths text row ++ fields_text (fields_listed records row.listing)

-- the lines of rows, each followed by those of its fields; `text` is the tag's text, and `records` are those of the
-- registry's file
abbrev pub rows_text : (text : List ℕ) → List (List Field) → List Row → List ℕ
rows_text text records rows = flat_map (row_text (widths_of text rows) text records) rows

-- what `show` prints of a tag, by the entries of a registry and the records of its file: its text, a line feed (10),
-- and the table of its rows
abbrev pub table_of : List EntryParts → List (List Field) → TagForm → List ℕ
table_of R records tag = text_of tag ++ 10 ∷ rows_text (text_of tag) records (rows_of R tag)
