-- Rows in which no quotes hide a separator, so that each separator stands between two fields.
use Rattle.std.specs.Prelude.{◌≤◌, ◌-◌, ℕ, List, drop, Option, Some, None}
use Rattle.lt_rows.specs.Splitting.{IsFreeOf, IsPlaceOf}
use Rattle.lt_rows.specs.declared.rows.Separator.{Separator}
use Rattle.lt_rows.specs.declared.rows.Separator.TheVariants as separators

-- A row of TSV, or a row of CSV with neither a line feed (10) nor a quote (34). A line feed would hide no separator
-- either, but the proofs (line_end in FieldLemmas) are of rows without line feeds.
abbrev pub IsPlain : Separator → List ℕ → Type 0
IsPlain separators.Tab row = Unit {0}
IsPlain (separators.Delimiter delimiter) row = IsFreeOf 10 row × IsFreeOf 34 row

-- the first place of a byte in a row from the place `start` on, counted from the row's first byte; None where the byte
-- is not there
abbrev pub IsNextPlace : ℕ → (start : ℕ) → List ℕ → Option ℕ → Type 0
IsNextPlace byte start row None = IsFreeOf byte (drop start row)
IsNextPlace byte start row (Some end) = (start ≤ end) × IsPlaceOf byte (drop start row) (Some (end - start))
