-- The rows that `show` prints for a tag: one for the whole tag if that is registered as redundant, and one for each
-- part.
use Rattle.std.specs.Prelude.{ℕ, ◌+◌, List, [], ◌∷◌, ◌++◌, length, take, drop, Option, Some, None}
use Rattle.lt_tag.specs.Parts.{TagForm, Grandfathered}
use Rattle.lt_tag.specs.Texts.{text_of}
use Rattle.lt_show.specs.Places.{cut_of, parts_of}
use Rattle.lt_show.specs.declared.placing.Part.{Part}
use Rattle.lt_registry.specs.Entries.{whole}
use Rattle.lt_registry.specs.Parts.{EntryParts}
use Rattle.lt_show.specs.Listings.{listing}
use Rattle.lt_show.specs.declared.listings.Listing.TheVariants as listings
use Rattle.lt_show.specs.declared.listings.Subject.TheVariants as subjects
use Rattle.lt_show.specs.declared.rows.Row.{Row}

-- the row of a part of a tag: `text` is the tag's text, and `place` that of the part among its parts, counted from 1
abbrev pub row_of : List EntryParts → TagForm → (text : List ℕ) → (place : ℕ) → Part → Row
row_of R tag text place part = record {
  place = place;
  subject = subjects.Part part.kind;
  start = part.start;
  length = part.length;
  listing = listing R tag part.kind (cut_of text part);
}

-- the rows of these parts of a tag, the first of which has the place `place`; `text` is the tag's text
abbrev pub part_rows : List EntryParts → TagForm → (text : List ℕ) → (place : ℕ) → List Part → List Row
part_rows R tag text place [] = []
part_rows R tag text place (part ∷ parts) = row_of R tag text place part ∷ part_rows R tag text (place + 1) parts

-- the row of a whole tag by its entry, or none without an entry; `text` is the tag's text
abbrev pub whole_by : (text : List ℕ) → Option EntryParts → List Row
whole_by text None = []
whole_by text (Some e) =
    record { place = 1; subject = subjects.Whole; start = 0; length = length text; listing = listings.Record e.number }
    ∷ []

-- the row of a whole tag, if a record registers it; a grandfathered tag has only the row of its one part (RFC 5646,
-- 2.2.8)
abbrev pub whole_rows : List EntryParts → TagForm → List Row
whole_rows R (Grandfathered number) = []
whole_rows R tag = whole_by (text_of tag) (whole R tag)

-- the rows for a tag by the entries of a registry: of the whole tag, if that is registered, and of its parts
abbrev pub rows_of : List EntryParts → TagForm → List Row
rows_of R tag = whole_rows R tag ++ part_rows R tag (text_of tag) 1 (parts_of tag)

-- the text that a row is about, cut out of `text`, the tag's text
abbrev pub text_in : (text : List ℕ) → Row → List ℕ
text_in text row = take row.length (drop row.start text)
