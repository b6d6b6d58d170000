-- What a handle holds: a registry and what is kept with it; and the rows of a tag by a registry and records.
use Rattle.std.specs.Prelude.{ℕ, ◌≡◌, ◌⊎◌, List, [], ◌∷◌, ◌++◌, flat_map, length, map}
use Rattle.lt_jar.specs.Records.{Field}
use Rattle.lt_registry.specs.Parts.{EntryParts}
use Rattle.lt_canon.specs.Texts.{ReadsAs}
use Rattle.lt_show.specs.Fields.{fields_of}
use Rattle.lt_show.specs.Json.{rows_value}
use Rattle.lt_range.specs.Spellings.{Spellings}
use Rattle.bcp47_c.specs.Outcomes.{AreDelivered, ended, IsDelivered}
use Rattle.bcp47_c.specs.declared.outcomes.Outcome.{Outcome}
use Rattle.bcp47_c.specs.declared.records.FieldLengths.{FieldLengths}

-- a registry, as its entries, and what is kept with it: records, and for each tag of the list that is kept the subtags
-- of its extlang form
pub record Kept : Type 0 where
  pub entries : List EntryParts
  pub records : List (List Field)
  pub lists : List Spellings

-- a registry with which nothing is kept
abbrev pub alone : List EntryParts → Kept
alone R = record { entries = R; records = []; lists = [] }

-- what is kept, with these records in place of those that were kept
abbrev pub with_records : Kept → List (List Field) → Kept
with_records registry records = record { entries = registry.entries; records = records; lists = registry.lists }

-- what is kept, with these lists in place of those that were kept
abbrev pub with_lists : Kept → List Spellings → Kept
with_lists registry lists = record { entries = registry.entries; records = registry.records; lists = lists }

-- the text is read as a tag, and `rows` are that tag's rows by these entries and records, as a JSON array
abbrev pub AreRowsOf : List EntryParts → List (List Field) → (text rows : List ℕ) → Type 0
AreRowsOf R records text rows = ReadsAs text (λ tag. rows ≡ rows_value R records tag)

-- ---- the fields of a record

-- how many bytes the name and the body of a field have
abbrev pub lengths_of : Field → FieldLengths
lengths_of f = record { name = length f.0; body = length f.1 }

-- the name of a field and its body, with a zero after each
abbrev pub field_text : Field → List ℕ
field_text f = f.0 ++ 0 ∷ (f.1 ++ 0 ∷ [])

-- the lengths and the texts of the fields are written, and their number is answered; or it is answered that they do not
-- fit. The room for the lengths was `room` and is `filled`, and the buffer was `before` and is `after`.
abbrev pub AreFieldsWritten : List Field → List FieldLengths → List FieldLengths → List ℕ → List ℕ → Outcome → Type 0
AreFieldsWritten fields room filled before after o =
    AreDelivered (map lengths_of fields) (flat_map field_text fields) room filled before after o

-- The fields of the record with this number, counted from 1, are answered, or that memory ran out (4). A record that is
-- not there has no fields. In order: the records, the number, the room before and after, the buffer before and after,
-- the outcome.
abbrev pub TellsRecord : List (List Field) → ℕ → List FieldLengths → List FieldLengths → List ℕ → List ℕ → Outcome → Type 0
TellsRecord records number room filled before after o =
    AreFieldsWritten (fields_of records number) room filled before after o
    ⊎ (IsDelivered (ended 4) [] before after o × (filled ≡ room))
