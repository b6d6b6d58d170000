-- The records of a text in the record-jar format (RFC 5646, 3.1.1), and their fields.
use Rattle.std.specs.Prelude.{◌≡◌, ◌≤◌, ℕ, Bool, true, false, List, [], ◌∷◌, ◌++◌, length, map}
use Rattle.std.specs.List.{All, flat_map, filter}
use Rattle.std.specs.Str.{IsUtf8}
use Rattle.lt_jar.specs.Lines.{lines_of}
use Rattle.lt_jar.specs.LineKinds.{Line, Blank, Separator, Continuation, Start, line_of}
use Rattle.lt_jar.specs.Limits.{longest_line, most_records}

-- a field's name and its body
abbrev pub Field : Type 0
Field = List ℕ × List ℕ

-- a field as its lines write it: its name, what its body begins with, and what its continuation lines add
pub record Written : Type 0 where
  pub name : List ℕ
  pub first : List ℕ
  pub more : List (List ℕ)

-- whether the text has a byte
abbrev pub is_something : List ℕ → Bool
is_something [] = false
is_something (byte ∷ text) = true

-- the texts with a space (32) between them
abbrev pub joined : List (List ℕ) → List ℕ
joined [] = []
joined (text ∷ []) = text
joined (text ∷ next ∷ rest) = text ++ 32 ∷ joined (next ∷ rest)

-- the field that its lines write: its body is their texts with single spaces between them, empty ones left out
abbrev pub field_of : Written → Field
field_of f = (f.name, joined (filter is_something (f.first ∷ f.more)))

-- the lines of a field: the one that begins it, and its continuation lines
abbrev pub lines_of_field : Written → List Line
lines_of_field f = Start f.name f.first ∷ map Continuation f.more

-- the lines of a group of fields
abbrev pub lines_of_group : List Written → List Line
lines_of_group group = flat_map lines_of_field group

-- the lines of a group of fields, and the separator that ends it
abbrev pub lines_of_ended : List Written → List Line
lines_of_ended group = lines_of_group group ++ Separator ∷ []

-- whether the line is not blank
abbrev pub is_nonblank : Line → Bool
is_nonblank Blank = false
is_nonblank line = true

-- what the lines are, the blank ones left out
abbrev pub nonblank : List (List ℕ) → List Line
nonblank lines = filter is_nonblank (map line_of lines)

-- whether the group has a field
abbrev pub has_field : List Written → Bool
has_field [] = false
has_field (field ∷ group) = true

-- the record of a group: its fields
abbrev pub record_of : List Written → List Field
record_of group = map field_of group

-- the text has these records: apart from blank lines it is groups of fields with separators between them, and each
-- group with a field is a record
pub record HasRecords (text : List ℕ) (records : List (List Field)) : Type 0 where
  pub ended : List (List Written)
  pub last : List Written
  pub lines : nonblank (lines_of text) ≡ flat_map lines_of_ended ended ++ lines_of_group last
  pub all : records ≡ map record_of (filter has_field (ended ++ last ∷ []))

-- the text, of these records, keeps the limits of the length of lines and the number of records, and its lines are
-- UTF-8
pub record IsWithin (text : List ℕ) (records : List (List Field)) : Type 0 where
  pub short : All (λ line. length line ≤ longest_line) (lines_of text)
  pub utf8 : All IsUtf8 (lines_of text)
  pub few : length records ≤ most_records
