-- How a text of records is cut into one record after another. `earlier` counts the records before the text.
use Rattle.std.specs.Prelude.{◌≡◌, ◌≢◌, ◌≤◌, ◌+◌, ℕ, List, [], ◌∷◌, ◌++◌, length, map}
use Rattle.std.specs.List.{AllByRecursion, filter, flat_map}
use Rattle.lt_jar.specs.Lines.{IsOneLine, whole_lines}
use Rattle.lt_jar.specs.LineKinds.{Line, Separator, line_of}
use Rattle.lt_jar.specs.Limits.{longest_line}
use Rattle.lt_jar.specs.Records.{Field, Written, has_field, lines_of_ended, lines_of_group, record_of, nonblank}
use Rattle.lt_jar.specs.Faults.{Fault, IsWrongAt}

-- apart from blank lines, the lines are separators and then the lines of these fields
pub record Gathers (lines : List (List ℕ)) (fields : List Field) : Type 0 where
  pub skipped : List Line
  pub separators : AllByRecursion (λ line. line ≡ Separator) skipped
  pub group : List Written
  pub lines_are : nonblank lines ≡ skipped ++ lines_of_group group
  pub fields_are : fields ≡ record_of group

-- the last of the lines is a separator, which ends the record of the lines before it
pub record EndsRecord (lines : List (List ℕ)) (fields : List Field) : Type 0 where
  pub before : List (List ℕ)
  pub last : List ℕ
  pub lines_are : lines ≡ before ++ last ∷ []
  pub separator : line_of last ≡ Separator
  pub gathers : Gathers before fields
  pub some : fields ≢ []

-- a text that comes after `earlier` records has no fault
abbrev pub IsSound : ℕ → List ℕ → Type 0
IsSound earlier text = (fault : Fault) (number : ℕ) → ¬ IsWrongAt earlier text fault number

-- the text, which comes after `earlier` records, is whole lines without a fault up to the end of a record with these
-- fields, and then `rest`
pub record CutsRecord (earlier : ℕ) (text : List ℕ) (fields : List Field)
    (lines : List (List ℕ)) (rest : List ℕ) : Type 0 where
  pub each : AllByRecursion IsOneLine lines
  pub bytes : text ≡ whole_lines lines ++ rest
  pub ends : EndsRecord lines fields
  pub sound : IsSound earlier (whole_lines lines)

-- the lines before the one with this number, counted from 1, end no record
pub record EndsNoneAbove (text : List ℕ) (number : ℕ) : Type 0 where
  pub lines : List (List ℕ)
  pub each : AllByRecursion IsOneLine lines
  pub rest : List ℕ
  pub bytes : text ≡ whole_lines lines ++ rest
  pub fields : List Field
  pub gathers : Gathers lines fields
  pub counted : number ≡ length lines + 1

-- The text, which comes after `earlier` records, is whole lines without a fault, which end no record, and then the
-- front of a line. This line has this number, counted from 1, and is not too long so far.
pub record IsCutShort (earlier : ℕ) (text : List ℕ) (number : ℕ) : Type 0 where
  pub lines : List (List ℕ)
  pub each : AllByRecursion IsOneLine lines
  pub rest : List ℕ
  pub one : IsOneLine rest
  pub short : length rest ≤ longest_line
  pub bytes : text ≡ whole_lines lines ++ rest
  pub fields : List Field
  pub gathers : Gathers lines fields
  pub sound : IsSound earlier (whole_lines lines)
  pub counted : number ≡ length lines + 1

-- apart from blank lines, the lines are groups that separators end; those that have a field are these records
pub record AreEnded (lines : List (List ℕ)) (records : List (List Field)) : Type 0 where
  pub groups : List (List Written)
  pub lines_are : nonblank lines ≡ flat_map lines_of_ended groups
  pub records_are : records ≡ map record_of (filter has_field groups)

-- The text, which comes after `earlier` records, is whole lines without a fault and then the front of a line. This line
-- has this number, counted from 1, and is not too long so far. Unlike those of `IsCutShort`, the whole lines may end
-- records.
pub record BreaksOff (earlier : ℕ) (text : List ℕ) (number : ℕ) : Type 0 where
  pub ended : List (List ℕ)
  pub records : List (List Field)
  pub are_ended : AreEnded ended records
  pub more : List (List ℕ)
  pub fields : List Field
  pub gathers : Gathers more fields
  pub each : AllByRecursion IsOneLine (ended ++ more)
  pub rest : List ℕ
  pub one : IsOneLine rest
  pub short : length rest ≤ longest_line
  pub bytes : text ≡ whole_lines (ended ++ more) ++ rest
  pub sound : IsSound earlier (whole_lines (ended ++ more))
  pub counted : number ≡ length (ended ++ more) + 1
