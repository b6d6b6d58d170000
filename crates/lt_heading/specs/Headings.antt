-- The heading of a text of rows: its first row (TSV) or record (CSV), after a byte order mark.
use Rattle.std.specs.Prelude.{◌≡◌, ◌<◌, ◌≤◌, ◌⊎◌, ℕ, Bool, true, false, List, [], ◌∷◌, ◌++◌, Option, Some, None, Result}
use Rattle.std.specs.Prelude.{Ok, Err, length, take}
use Rattle.std.specs.Io.KnownBytes.{Consumes, IsAtEnd}
use Rattle.lt_jar.specs.Devices.{HasFailed, failures_of, inner_of, last_given_of}
use Rattle.lt_jar.specs.Lines.{HoldsOfWhole, IsOneLine, lines_of}
use Rattle.lt_jar.specs.Sources.{most_reads}
use Rattle.lt_jar.specs.declared.devices.Device.{Device}
use Rattle.lt_rows.specs.Marks.{IsWide, MayBeMark, SplitsMark}
use Rattle.lt_rows.specs.Quotes.{IsFreeOutside, is_quoted, place_at, records_from}
use Rattle.lt_rows.specs.declared.quotes.Place.{Place}
use Rattle.lt_rows.specs.declared.quotes.Place.TheVariants as places
use Rattle.lt_rows.specs.declared.rows.Separator.{Separator}
use Rattle.lt_rows.specs.declared.rows.Separator.TheVariants as separators
use Rattle.lt_stream.specs.Running.{HasRead, longest_row}
use Rattle.lt_stream.specs.declared.faults.ToolFault.{ToolFault}
use Rattle.lt_stream.specs.declared.faults.ToolFault.TheVariants as faults
use Rattle.lt_heading.specs.declared.first_rows.FirstRow.{FirstRow}
use Rattle.lt_heading.specs.declared.first_rows.Heading.{Heading}

-- the rows of a text: its lines (TSV), or its records (CSV)
abbrev pub rows_of : Separator → List ℕ → List (List ℕ)
rows_of separators.Tab text = lines_of text
rows_of (separators.Delimiter delimiter) text = records_from delimiter places.Fresh text

-- no line feed (10) in the text ends a row: there is none, or in CSV none outside of quotes
abbrev pub IsOneRow : Separator → List ℕ → Type 0
IsOneRow separators.Tab text = IsOneLine text
IsOneRow (separators.Delimiter delimiter) text = IsFreeOutside delimiter 10 places.Fresh text

-- the place (within quotes or outside) after a row's next bytes, by the place before them
abbrev pub place_then : Separator → Place → List ℕ → Place
place_then separators.Tab place part = places.Fresh
place_then (separators.Delimiter delimiter) place part = place_at delimiter place part

-- whether a row ends within quotes
abbrev pub is_open : Separator → List ℕ → Bool
is_open S text = is_quoted (place_then S places.Fresh text)

-- a row that ends outside of quotes and is not too long
pub record IsWholeRow (S : Separator) (row : List ℕ) : Type 0 where
  pub one : IsOneRow S row
  pub closed : is_open S row ≡ false
  pub short : length row ≤ longest_row

-- the first of these rows, which is whole, or None if there are no rows
abbrev pub IsFirstOf : Separator → List (List ℕ) → Option (List ℕ) → Type 0
IsFirstOf S rows None = rows ≡ []
IsFirstOf S rows (Some row) = (others : List (List ℕ)) × (rows ≡ row ∷ others) × IsWholeRow S row

-- the heading of these bytes, after a byte order mark, if they have one; they are not in UTF-16
pub record HasHeading (S : Separator) (bytes : List ℕ) (heading : Option (List ℕ)) : Type 0 where
  pub mark : List ℕ
  pub text : List ℕ
  pub split : SplitsMark bytes mark text
  pub narrow : IsWide bytes → ⊥
  pub first : IsFirstOf S (rows_of S text) heading

-- the bytes end within the quotes of their first row
pub record HasOpenHeading (S : Separator) (bytes : List ℕ) : Type 0 where
  pub mark : List ℕ
  pub text : List ℕ
  pub split : SplitsMark bytes mark text
  pub one : IsOneRow S text
  pub inside : is_open S text ≡ true

-- the text begins with a row that is too long: already the first bytes of that row, `begun`, are too many
pub record BeginsLong (S : Separator) (text : List ℕ) : Type 0 where
  pub begun : List ℕ
  pub rest : List ℕ
  pub cut : text ≡ begun ++ rest
  pub one : IsOneRow S begun
  pub long : longest_row < length begun

-- the first row of the bytes, after a byte order mark, is too long
pub record HasLongHeading (S : Separator) (bytes : List ℕ) : Type 0 where
  pub mark : List ℕ
  pub text : List ℕ
  pub split : SplitsMark bytes mark text
  pub begins : BeginsLong S text

-- the fault of a first row that is too long
abbrev pub long_fault : Separator → ToolFault
long_fault separators.Tab = faults.BadTsv 1
long_fault (separators.Delimiter delimiter) = faults.BadCsv 1

-- What is true if the heading of a reader was not read, by the fault. BadCsv: the reader ended within quotes, or the
-- row is too long. Write is never the fault, and OutOfMemory may always be. `before` and `after` are the reader's
-- device, `remaining` tells what a reader has still to give, and so many `reads` gave the bytes `read`.
abbrev pub StopsHeading : {I : Type 0} → Separator → (I → Option (List ℕ)) → (before after : Device I)
    → (reads : ℕ) → (read : List ℕ) → ToolFault → Type 0
StopsHeading S remaining before after reads read faults.Read = HasFailed before after
StopsHeading S remaining before after reads read faults.TooManyTurns =
    (reads ≡ most_reads) × (0 < last_given_of after)
StopsHeading S remaining before after reads read (faults.BadCsv line) =
    ((line ≡ 1) × IsAtEnd (remaining (inner_of after)) × HasOpenHeading S read)
    ⊎ ((faults.BadCsv line ≡ long_fault S) × HasLongHeading S read)
StopsHeading S remaining before after reads read (faults.BadTsv line) =
    (faults.BadTsv line ≡ long_fault S) × HasLongHeading S read
StopsHeading S remaining before after reads read faults.Utf16 = IsWide read
StopsHeading S remaining before after reads read faults.Write = ⊥
StopsHeading S remaining before after reads read faults.OutOfMemory = Unit {0}

-- `heading` is the heading of all bytes of a reader, of which `read` was read: it is their heading whatever bytes
-- follow, or the reader is at its end; `remaining` tells what a reader has still to give
abbrev pub KnowsHeading : {I : Type 0} → Separator → (I → Option (List ℕ)) → (after : Device I)
    → (read : List ℕ) → (heading : Option (List ℕ)) → Type 0
KnowsHeading S remaining after read heading =
    HoldsOfWhole (λ bytes. HasHeading S bytes heading) (IsAtEnd (remaining (inner_of after))) read

-- ---- the steps

-- the text is one row so far, which is not too long, and `place` is the place after it
pub record IsRowSoFar (S : Separator) (text : List ℕ) (place : Place) : Type 0 where
  pub one : IsOneRow S text
  pub place_is : place ≡ place_then S places.Fresh text
  pub short : length text ≤ longest_row

-- the first row of the text has this length, and a line feed (10) ends it
pub record EndsRow (S : Separator) (text : List ℕ) (end : ℕ) : Type 0 where
  pub row : List ℕ
  pub rest : List ℕ
  pub cut : text ≡ row ++ 10 ∷ rest
  pub end_is : end ≡ length row
  pub whole : IsWholeRow S row

-- the first row of a text, which ends at this place; None if the text is empty, and so has no row
abbrev pub heading_in : (text : List ℕ) → (end : ℕ) → Option (List ℕ)
heading_in [] end = None
heading_in (byte ∷ text) end = Some (take end (byte ∷ text))

-- `part` was appended to `old`, the text of a row at whose end the place is the given one, and this gave `new`, which
-- is not too long, and the next place; or the row got too long, or memory ran out
abbrev pub AppendsPart : Separator → Place → (part old new : List ℕ) → Result Place ToolFault → Type 0
AppendsPart S place part old new (Ok next) =
    (new ≡ old ++ part) × (next ≡ place_then S place part) × (length new ≤ longest_row)
AppendsPart S place part old new (Err f) =
    (f ≡ faults.OutOfMemory) ⊎ ((f ≡ long_fault S) × (longest_row < length (old ++ part)))

-- the text is one row so far, and the place at its end is this one; or its first row has this length
abbrev pub IsRowIn : Separator → (text : List ℕ) → Place → (end : Option ℕ) → Type 0
IsRowIn S text place None = IsRowSoFar S text place
IsRowIn S text place (Some end) = EndsRow S text end

-- a piece was appended to a text that was one row so far, and this gave `new` and the place after it; or the row got
-- too long, or memory ran out
abbrev pub TakesText : Separator → (piece old new : List ℕ) → Place → Result (Option ℕ) ToolFault → Type 0
TakesText S piece old new place (Ok end) = (new ≡ old ++ piece) × IsRowIn S new place end
TakesText S piece old new place (Err f) =
    (f ≡ faults.OutOfMemory) ⊎ ((f ≡ long_fault S) × BeginsLong S (old ++ piece))

-- all bytes that were taken: the byte order mark, and the text after it
abbrev pub taken_by : FirstRow → List ℕ
taken_by state = state.mark.items ++ state.text.items

-- whatever bytes follow, the byte order mark is the one that is known, and is none of UTF-16
pub record IsMarked (state : FirstRow) : Type 0 where
  pub split : (more : List ℕ) → SplitsMark (taken_by state ++ more) state.mark.items (state.text.items ++ more)
  pub narrow : (more : List ℕ) → IsWide (taken_by state ++ more) → ⊥

-- the byte order mark is known, and the text after it is one row so far
pub record IsBegun (S : Separator) (state : FirstRow) : Type 0 where
  pub begun : state.is_begun ≡ true
  pub marked : IsMarked state
  pub so_far : IsRowSoFar S state.text.items state.place

-- the bytes so far may be a part of a byte order mark
pub record IsUndecided (state : FirstRow) : Type 0 where
  pub begun : state.is_begun ≡ false
  pub may_be : MayBeMark state.mark.items
  pub none : state.text.items ≡ []
  pub fresh : state.place ≡ places.Fresh

-- the bytes that were taken don't end the first row
abbrev pub IsGoing : Separator → FirstRow → Type 0
IsGoing S state = IsBegun S state ⊎ IsUndecided state

-- why the first row can't be taken: memory ran out, the bytes begin with a mark of UTF-16, or the row is too long
abbrev pub StopsText : Separator → (bytes : List ℕ) → ToolFault → Type 0
StopsText S bytes f = (f ≡ faults.OutOfMemory) ⊎ (((f ≡ faults.Utf16) × IsWide bytes)
    ⊎ ((f ≡ long_fault S) × HasLongHeading S bytes))

-- a piece was taken, and all bytes are kept: the first row goes on, or has this length; or the row can't be taken
abbrev pub TakesPiece : Separator → (piece : List ℕ) → (old new : FirstRow) → Result (Option ℕ) ToolFault → Type 0
TakesPiece S piece old new (Ok None) = (taken_by new ≡ taken_by old ++ piece) × IsGoing S new
TakesPiece S piece old new (Ok (Some end)) =
    (taken_by new ≡ taken_by old ++ piece) × IsMarked new × EndsRow S new.text.items end
TakesPiece S piece old new (Err f) = StopsText S (taken_by old ++ piece) f

-- The byte order mark in the kept bytes was split off, and the text after it taken: it is one row so far, or its first
-- row has this length. Or the row is too long, or memory ran out.
abbrev pub BeginsText : Separator → (old new : FirstRow) → Result (Option ℕ) ToolFault → Type 0
BeginsText S old new (Ok end) = (new.is_begun ≡ true)
    × SplitsMark old.mark.items new.mark.items new.text.items × IsRowIn S new.text.items new.place end
BeginsText S old new (Err f) = (f ≡ faults.OutOfMemory) ⊎ ((f ≡ long_fault S) × HasLongHeading S old.mark.items)

-- the text after the mark ended: this is its length, and if it was one row so far, it is a whole row; or the fault is
-- BadCsv, and the text ends within quotes
abbrev pub EndsText : Separator → FirstRow → Result ℕ ToolFault → Type 0
EndsText S state (Ok end) = (end ≡ length state.text.items)
    × (IsRowSoFar S state.text.items state.place → IsWholeRow S state.text.items)
EndsText S state (Err f) = (f ≡ faults.BadCsv 1)
    × (IsRowSoFar S state.text.items state.place → is_open S state.text.items ≡ true)

-- the bytes ended: this is the length of their first row; or the fault says that they end within its quotes, or why
-- the row can't be taken
abbrev pub FinishesText : Separator → (bytes : List ℕ) → (new : FirstRow) → Result ℕ ToolFault → Type 0
FinishesText S bytes new (Ok end) = (taken_by new ≡ bytes)
    × SplitsMark bytes new.mark.items new.text.items × (IsWide bytes → ⊥)
    × (EndsRow S new.text.items end ⊎ ((end ≡ length new.text.items) × IsWholeRow S new.text.items))
FinishesText S bytes new (Err f) = ((f ≡ faults.BadCsv 1) × HasOpenHeading S bytes) ⊎ StopsText S bytes f

-- all bytes that were read were taken, and they don't end the first row
pub record IsTaken (S : Separator) (read : List ℕ) (here : Heading) : Type 0 where
  pub separator : here.separator ≡ S
  pub taken : taken_by here.first ≡ read
  pub going : IsGoing S here.first

-- the bytes that were read end the first row, which has this length; or the row can't be taken
abbrev pub StopsPieces : Separator → (read : List ℕ) → FirstRow → Result ℕ ToolFault → Type 0
StopsPieces S read state (Ok end) = (taken_by state ≡ read) × IsMarked state × EndsRow S state.text.items end
StopsPieces S read state (Err f) = StopsText S read f

-- How the reading of the heading of a reader ended, after so many `reads`, which gave the bytes `read`: all of them are
-- kept and the heading, which ends at this index, is known; or the fault says why it was not read.
abbrev pub EndsReading : {I : Type 0} → Separator → (I → Option (List ℕ)) → (before after : Device I)
    → FirstRow → (reads : ℕ) → (read : List ℕ) → Result ℕ ToolFault → Type 0
EndsReading S remaining before after state reads read (Ok end) = (taken_by state ≡ read)
    × (end ≤ length state.text.items) × KnowsHeading S remaining after read (heading_in state.text.items end)
EndsReading S remaining before after state reads read (Err f) = StopsHeading S remaining before after reads read f

-- The heading of a reader was read. So many `reads`, at most 10,000,000, gave the bytes `read`. `state` is the text
-- that was taken, and `result` the length of its first row, or why there is none. If the count of failures rises, the
-- result says so (`read_rises`). `before` and `after` are the reader's device, and `remaining` tells what a reader has
-- still to give.
pub record ReadsHeading {I : Type 0} (S : Separator) (remaining : I → Option (List ℕ)) (before after : Device I)
    (state : FirstRow) (result : Result ℕ ToolFault) : Type 0 where
  pub read : List ℕ
  pub reads : ℕ
  pub consumes : Consumes (remaining (inner_of before)) (remaining (inner_of after)) read
  pub calls : HasRead before after reads
  pub bounded : reads ≤ most_reads
  pub ends : EndsReading S remaining before after state reads read result
  pub read_rises : failures_of before < failures_of after → result ≡ Err faults.Read
