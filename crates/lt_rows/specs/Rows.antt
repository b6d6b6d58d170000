-- Rows of a table: fields with a tab (9) between them, as in TSV, or with a delimiter outside of quotes, as in CSV.
use Rattle.std.specs.Prelude.{◌≡◌, ◌≢◌, ◌<◌, ◌≤◌, ◌+◌, ◌-◌, ◌⊎◌, ℕ, false, List, [], ◌∷◌, ◌++◌, drop, length, take}
use Rattle.std.specs.Prelude.{Option, MatchOption}
use Rattle.std.specs.List.{All, AllByRecursion}
use Rattle.lt_rows.specs.Quotes.{IsFreeOutside, is_quoted, place_at}
use Rattle.lt_rows.specs.declared.quotes.Place.TheVariants as places
use Rattle.lt_rows.specs.declared.rows.Separator.{Separator}
use Rattle.lt_rows.specs.declared.rows.Separator.TheVariants as separators

-- the byte between fields
abbrev pub separator : Separator → ℕ
separator separators.Tab = 9
separator (separators.Delimiter delimiter) = delimiter

-- a field of a row: it has no tab (9), or in CSV no delimiter outside of quotes
abbrev pub IsRowField : Separator → List ℕ → Type 0
IsRowField separators.Tab text = All (λ byte. byte ≢ 9) text
IsRowField (separators.Delimiter delimiter) text = IsFreeOutside delimiter delimiter places.Fresh text

-- a separator after this field would end it: always so in TSV, and in CSV if the field doesn't end within quotes
abbrev pub IsClosed : Separator → List ℕ → Type 0
IsClosed separators.Tab text = Unit {0}
IsClosed (separators.Delimiter delimiter) text = is_quoted (place_at delimiter places.Fresh text) ≡ false

-- a field that a separator ends
pub record IsEnded (S : Separator) (text : List ℕ) : Type 0 where
  pub field : IsRowField S text
  pub closed : IsClosed S text

-- fields, each with the separator that ends it
abbrev pub separated : Separator → List (List ℕ) → List ℕ
separated S [] = []
separated S (field ∷ fields) = field ++ separator S ∷ separated S fields

-- what follows a field of a row: no bytes, or a separator and any bytes
abbrev pub IsAfterField : Separator → List ℕ → List ℕ → Type 0
IsAfterField S field after = (after ≡ []) ⊎ ((more : List ℕ) × IsClosed S field × (after ≡ separator S ∷ more))

-- `rest` is what remains of a row after its first `count` fields
pub record Skips (S : Separator) (count : ℕ) (row rest : List ℕ) : Type 0 where
  pub before : List (List ℕ)
  pub each : AllByRecursion (IsEnded S) before
  pub number : length before ≡ count
  pub row_is : row ≡ separated S before ++ rest

-- `field` is the field of a row that has `count` fields before it. `front` is what is before it in the row, with the
-- separators, and `after` is what is behind it.
pub record HasField (S : Separator) (count : ℕ) (row front field after : List ℕ) : Type 0 where
  pub before : List (List ℕ)
  pub each : AllByRecursion (IsEnded S) before
  pub number : length before ≡ count
  pub front_is : front ≡ separated S before
  pub one : IsRowField S field
  pub ends : IsAfterField S field after
  pub row_is : row ≡ front ++ field ++ after

-- a row has no field with `count` fields before it: its fields are those in `before`, fewer than `count`, and `last`
pub record HasFewer (S : Separator) (count : ℕ) (row : List ℕ) : Type 0 where
  pub before : List (List ℕ)
  pub last : List ℕ
  pub each : AllByRecursion (IsEnded S) before
  pub one : IsRowField S last
  pub row_is : row ≡ separated S before ++ last
  pub fewer : length before < count

-- a record of CSV has a carriage return (13) outside of quotes; of a row of TSV this is never said
abbrev pub HasReturn : Separator → List ℕ → Type 0
HasReturn separators.Tab row = ⊥
HasReturn (separators.Delimiter delimiter) row = IsFreeOutside delimiter 13 places.Fresh row → ⊥

-- a quote (34) is at both ends of a field
abbrev pub IsQuoted : List ℕ → Type 0
IsQuoted field = (text : List ℕ) × (field ≡ 34 ∷ text ++ 34 ∷ [])

-- what is at both ends of the text of a field: in CSV a quote (34) if the field is quoted, else nothing
abbrev pub AreQuotes : Separator → List ℕ → List ℕ → Type 0
AreQuotes separators.Tab field quotes = quotes ≡ []
AreQuotes (separators.Delimiter delimiter) field quotes = (quotes ≡ 34 ∷ []) ⊎ ((quotes ≡ []) × (IsQuoted field → ⊥))

-- the text of a field, and what is at both of its ends: `quotes`, which is a quote or nothing
pub record IsTextIn (S : Separator) (field quotes text : List ℕ) : Type 0 where
  pub field_is : field ≡ quotes ++ text ++ quotes
  pub are_quotes : AreQuotes S field quotes

-- where the first separator that ends a field is in the rest of a row; None where no separator ends a field
abbrev pub EndsField : Separator → List ℕ → Option ℕ → Type 0
EndsField S rest end = MatchOption end (IsRowField S rest)
    (λ i. (i < length rest) × IsEnded S (take i rest) × (rest ≡ take i rest ++ separator S ∷ drop (i + 1) rest))

-- the field of a row that has `count` fields before it goes from the byte `start` up to `end`
pub record IsFieldAt (S : Separator) (count : ℕ) (row : List ℕ) (start end : ℕ) : Type 0 where
  pub ordered : start ≤ end
  pub inside : end ≤ length row
  pub at : HasField S count row (take start row) (take (end - start) (drop start row)) (drop end row)
