-- What a reader of records has lent since it began to read.
use Rattle.std.specs.Prelude.{◌≡◌, ◌+◌, ℕ, List, ◌++◌, length}
use Rattle.std.specs.List.{AllByRecursion}
use Rattle.lt_jar.specs.Lines.{IsOneLine, whole_lines}
use Rattle.lt_jar.specs.Records.{Field}
use Rattle.lt_jar.specs.Lending.{AreEnded, IsSound}
use Rattle.lt_jar.specs.Sources.{kept_in, lent_by, line_of_kept}
use Rattle.lt_jar.specs.declared.sources.JarSource.{JarSource}

-- Since the source s was new, these bytes were read: whole lines without a fault, and then the bytes that are kept. The
-- lines are those of these records, and all of them were lent.
pub record HasLent (bytes : List ℕ) (records : List (List Field)) (s : JarSource) : Type 0 where
  pub lines : List (List ℕ)
  pub each : AllByRecursion IsOneLine lines
  pub bytes_are : bytes ≡ whole_lines lines ++ kept_in s
  pub ended : AreEnded lines records
  pub sound : IsSound 0 (whole_lines lines)
  pub counted : lent_by s ≡ length records
  pub line : line_of_kept s ≡ length lines + 1
