-- The rows of a table of codes (ISO 639-2), and the codes that each row adds.
use Rattle.std.specs.Prelude.{◌≡◌, ◌==◌, ◌&&◌, ℕ, Bool, List, [], ◌∷◌, Option, Some, None, Result, Ok, Err}
use Rattle.std.specs.Prelude.{if◌then◌else◌, is_some, length, option_map, unwrap_or}
use Rattle.std.specs.List.{after_first, before_first, slice_split}
use Rattle.std.specs.Option.{option_or}
use Rattle.lt_subtag.specs.Reading.{subtag_of}
use Rattle.lt_subtag.specs.Shapes.{is_alphabetic}
use Rattle.lt_subtag.specs.declared.SubtagFault.{SubtagFault}
use Rattle.lt_codes.specs.declared.codes.Code.{Code}
use Rattle.lt_codes.specs.declared.rows.Row.{Row}

-- the fields of a line, between its vertical bars (124)
abbrev pub fields_of : List ℕ → List (List ℕ)
fields_of line = slice_split (λ byte. byte == 124) line

-- a line of five fields: the bibliographic code, the terminologic code, the code of two letters, and two names
pub record HasFields (line bibliographic terminologic two_letters : List ℕ) : Type 0 where
  pub english : List ℕ
  pub french : List ℕ
  pub fields_are : fields_of line ≡ bibliographic ∷ terminologic ∷ two_letters ∷ english ∷ french ∷ []

-- the subtag that was read, if it is this many letters
abbrev pub if_letters : ℕ → Result (List ℕ) SubtagFault → Option (List ℕ)
if_letters count (Ok code) = if is_alphabetic code && (length code == count) then Some code else None
if_letters count (Err fault) = None

-- the code of this many letters that a field is, in lower case; None if it is no such code
abbrev pub code_of : (count : ℕ) → List ℕ → Option (List ℕ)
code_of count field = if_letters count (subtag_of field)

-- the code of this many letters that a field is, if it isn't empty; None if it is neither a code nor empty
abbrev pub code_or_none : (count : ℕ) → List ℕ → Option (Option (List ℕ))
code_or_none count [] = Some None
code_or_none count (byte ∷ field) = option_map Some (code_of count (byte ∷ field))

-- whether a field is two codes of three letters with a hyphen (45) between them, for example `qaa-qtz`
abbrev pub is_range : List ℕ → Bool
is_range field =
    is_some (code_of 3 (after_first (λ byte. byte == 45) field))
    && is_some (code_of 3 (before_first (λ byte. byte == 45) field))

-- whether a field has no byte
abbrev pub is_empty : List ℕ → Bool
is_empty field = length field == 0

-- the row of what was read in its three fields; None if one of them lacks its form
abbrev pub row_from : Option (List ℕ) → Option (Option (List ℕ)) → Option (Option (List ℕ)) → Option Row
row_from (Some bibliographic) (Some terminologic) (Some two_letters) =
    Some (record { bibliographic = bibliographic; terminologic = terminologic; two_letters = two_letters })
row_from _ _ _ = None

-- the row of these three fields; None if one of them lacks its form
abbrev pub row_of : (bibliographic terminologic two_letters : List ℕ) → Option Row
row_of b t w = row_from (code_of 3 b) (code_or_none 3 t) (code_or_none 2 w)

-- what is registered for a row: the code of two letters, or else the terminologic one, or else the bibliographic one
abbrev pub registered_in : Row → List ℕ
registered_in row = unwrap_or (option_or row.two_letters row.terminologic) row.bibliographic

-- the code with what is registered for it, the second argument, if there is a code
abbrev pub code_if : Option (List ℕ) → List ℕ → List Code
code_if None registered = []
code_if (Some code) registered = record { code = code; registered = registered } ∷ []

-- the codes of a row: the bibliographic one, and the terminologic one, if there is one
abbrev pub codes_in : Row → List Code
codes_in row =
    record { code = row.bibliographic; registered = registered_in row } ∷ code_if row.terminologic (registered_in row)

-- the codes that a line with these fields adds: none if it is a range, and None if a field lacks its form
abbrev pub codes_of : (bibliographic terminologic two_letters : List ℕ) → Option (List Code)
codes_of b t w =
    if is_range b && (is_empty t && is_empty w) then Some [] else option_map codes_in (row_of b t w)
