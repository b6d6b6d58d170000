-- Records of CSV in the words of RFC 4180, 2: fields with a delimiter between them. More is allowed here than there: a
-- plain field may have quotes after its first byte, a field in quotes may have text after the quote that closes it, and
-- a carriage return is a byte like any other.
use Rattle.std.specs.Prelude.{◌≡◌, ◌≢◌, ◌⊎◌, ℕ, false, List, [], ◌∷◌, ◌++◌}
use Rattle.std.specs.List.{AllByRecursion}
use Rattle.lt_rows.specs.Quotes.{IsFreeOutside, is_quoted, place_at}
use Rattle.lt_rows.specs.declared.quotes.Place.TheVariants as places

-- the text has no delimiter and no line feed (10)
abbrev pub IsPlain : ℕ → List ℕ → Type 0
IsPlain delimiter [] = Unit {0}
IsPlain delimiter (byte ∷ text) = (byte ≢ delimiter) × (byte ≢ 10) × IsPlain delimiter text

-- a field without quotes around it: no delimiter, no line feed (10), and the first byte is no quote (34)
abbrev pub IsPlainField : ℕ → List ℕ → Type 0
IsPlainField delimiter [] = Unit {0}
IsPlainField delimiter (byte ∷ text) = (byte ≢ 34) × IsPlain delimiter (byte ∷ text)

-- the text between a field's quotes: each quote (34) in it is doubled, and any other byte stands for itself
abbrev pub IsBody : List ℕ → Type 0
IsBody [] = Unit {0}
IsBody (byte ∷ []) = byte ≢ 34
IsBody (byte ∷ next ∷ text) = ((byte ≢ 34) × IsBody (next ∷ text)) ⊎ ((byte ≡ 34) × (next ≡ 34) × IsBody text)

-- a field in quotes (34), perhaps with plain text after the quote that closes it
pub record IsEscapedField (delimiter : ℕ) (field : List ℕ) : Type 0 where
  pub body : List ℕ
  pub rest : List ℕ
  pub field_is : field ≡ 34 ∷ body ++ 34 ∷ rest
  pub is_body : IsBody body
  pub is_rest : IsPlainField delimiter rest

-- a field of CSV, with or without quotes around it
abbrev pub IsCsvField : ℕ → List ℕ → Type 0
IsCsvField delimiter field = IsPlainField delimiter field ⊎ IsEscapedField delimiter field

-- the fields after a record's first, each with the delimiter before it
abbrev pub further : ℕ → List (List ℕ) → List ℕ
further delimiter [] = []
further delimiter (field ∷ fields) = delimiter ∷ field ++ further delimiter fields

-- a record of CSV: fields with a delimiter between them
pub record IsCsvRecord (delimiter : ℕ) (text : List ℕ) : Type 0 where
  pub first : List ℕ
  pub others : List (List ℕ)
  pub is_first : IsCsvField delimiter first
  pub are_others : AllByRecursion (IsCsvField delimiter) others
  pub text_is : text ≡ first ++ further delimiter others

-- a text whose line feeds (10) are all within quotes, and whose end is not
pub record IsClosedRecord (delimiter : ℕ) (text : List ℕ) : Type 0 where
  pub free : IsFreeOutside delimiter 10 places.Fresh text
  pub closed : is_quoted (place_at delimiter places.Fresh text) ≡ false
