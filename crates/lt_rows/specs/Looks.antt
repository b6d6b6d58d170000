-- What one look at a row finds: whether it ends within quotes, and a carriage return outside of them or else where the
-- text of one of its fields is.
use Rattle.std.specs.Prelude.{◌≡◌, ◌≤◌, ◌-◌, ◌++◌, ◌↔◌, ℕ, Bool, IsTrue, false, List, drop, length, take}
use Rattle.lt_rows.specs.Quotes.{is_quoted, place_at}
use Rattle.lt_rows.specs.Rows.{HasFewer, HasField, HasReturn, IsTextIn}
use Rattle.lt_rows.specs.Splitting.{IsFreeOf}
use Rattle.lt_rows.specs.declared.quotes.Place.TheVariants as places
use Rattle.lt_rows.specs.declared.rows.Separator.{Separator}
use Rattle.lt_rows.specs.declared.rows.Separator.TheVariants as separators
use Rattle.lt_rows.specs.declared.looks.Found.{Found}
use Rattle.lt_rows.specs.declared.looks.Found.TheVariants as founds
use Rattle.lt_rows.specs.declared.looks.Lacks.{Lacks}
use Rattle.lt_rows.specs.declared.looks.Look.{Look}
use Rattle.lt_rows.specs.declared.looks.TextAt.{TextAt}

-- whether a row ends within quotes; a row of TSV never does, as TSV has no quotes
abbrev pub ends_quoted : Separator → List ℕ → Bool
ends_quoted separators.Tab row = false
ends_quoted (separators.Delimiter delimiter) row = is_quoted (place_at delimiter places.Fresh row)

-- a record of one line: neither a carriage return (13) nor a line feed (10) is in it
abbrev pub IsPlainLine : Separator → List ℕ → Type 0
IsPlainLine separators.Tab row = ⊥
IsPlainLine (separators.Delimiter delimiter) row = IsFreeOf 13 row × IsFreeOf 10 row

-- `lacks` tells exactly which of these bytes the text lacks: carriage returns (13) and quotes (34)
pub record AreLackedIn (text : List ℕ) (lacks : Lacks) : Type 0 where
  pub returns : IsTrue lacks.returns ↔ IsFreeOf 13 text
  pub quotes : IsTrue lacks.quotes ↔ IsFreeOf 34 text

-- what `lacks` says that a row lacks, it lacks; one that lacks carriage returns (13) has no line feeds (10) either
pub record LacksIn (row : List ℕ) (lacks : Lacks) : Type 0 where
  pub returns : IsTrue lacks.returns → IsFreeOf 13 row × IsFreeOf 10 row
  pub quotes : IsTrue lacks.quotes → IsFreeOf 34 row

-- Where the text of the field after `before` others is: from the byte `start` up to `end`. In the row, `front` is what
-- is before the field, and `after` what is behind it. `quotes`, a quote or nothing, is at both ends of the text.
pub record HasTextAt (S : Separator) (before : ℕ) (row : List ℕ) (place : TextAt) : Type 0 where
  pub front : List ℕ
  pub field : List ℕ
  pub after : List ℕ
  pub at : HasField S before row front field after
  pub quotes : List ℕ
  pub text : List ℕ
  pub is_text : IsTextIn S field quotes text
  pub ordered : place.start ≤ place.end
  pub inside : place.end ≤ length row
  pub front_is : take place.start row ≡ front ++ quotes
  pub text_is : take (place.end - place.start) (drop place.start row) ≡ text
  pub after_is : drop place.end row ≡ quotes ++ after

-- what is found in a row, of the field after `before` others: a carriage return outside of quotes, or else too few
-- fields, or where the field's text is
abbrev pub IsFound : Separator → ℕ → List ℕ → Found → Type 0
IsFound S before row founds.Return = HasReturn S row
IsFound S before row founds.Fewer = (HasReturn S row → ⊥) × HasFewer S before row
IsFound S before row (founds.Text place) = (HasReturn S row → ⊥) × HasTextAt S before row place

-- what a look at a row found, for the field after `before` others, is true of the row: whether it ends within quotes
-- (`ends`), and what it is answered by (`found`)
pub record IsLookAt (S : Separator) (before : ℕ) (row : List ℕ) (look : Look) : Type 0 where
  pub ends : look.is_open ≡ ends_quoted S row
  pub found : IsFound S before row look.found
