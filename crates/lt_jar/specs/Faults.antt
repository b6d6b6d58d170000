-- What is wrong with a text in the record-jar format (RFC 5646, 3.1.1), and in which line.
use Rattle.std.specs.Prelude.{◌≡◌, ◌≤◌, ◌<◌, ◌+◌, ℕ, Bool, true, false, List, [], ◌∷◌, ◌++◌, length}
use Rattle.std.specs.Str.{IsUtf8}
use Rattle.lt_jar.specs.Lines.{lines_of}
use Rattle.lt_jar.specs.LineKinds.{Line, Separator, Continuation, Start, Bad, line_of}
use Rattle.lt_jar.specs.Limits.{longest_line, most_records}
use Rattle.lt_jar.specs.Records.{nonblank}

-- what can be wrong with a line
pub data Fault : Type 0 where
  -- it has more bytes than a line may have
  LineTooLong : Fault
  -- it is no UTF-8
  NotUtf8 : Fault
  -- it continues a field, and its record has none yet
  LeadingContinuation : Fault
  -- it is of no kind (RFC 5646, 3.1.1)
  BadLine : Fault
  -- with it more records have begun than a text may have
  TooManyRecords : Fault

-- the order in which the faults of one line are answered, the least first
abbrev pub rank : Fault → ℕ
rank LineTooLong = 0
rank NotUtf8 = 1
rank LeadingContinuation = 2
rank BadLine = 3
rank TooManyRecords = 4

-- whether a record with a field goes on after these lines; `inside` says whether one does before them
abbrev pub is_inside : Bool → List Line → Bool
is_inside inside [] = inside
is_inside inside (Start name body ∷ lines) = is_inside true lines
is_inside inside (Separator ∷ lines) = is_inside false lines
is_inside inside (line ∷ lines) = is_inside inside lines

-- how many records begin in these lines; the first argument says whether a record goes on before them
abbrev pub begun : Bool → List Line → ℕ
begun inside [] = 0
begun true (Start name body ∷ lines) = begun true lines
begun false (Start name body ∷ lines) = 1 + begun true lines
begun inside (Separator ∷ lines) = begun false lines
begun inside (line ∷ lines) = begun inside lines

-- whether the line continues a field
abbrev pub is_continuation : Line → Bool
is_continuation (Continuation text) = true
is_continuation line = false

-- `fault` is a fault of the line after the lines `before`, in a text that comes after `earlier` records
abbrev pub IsWrong : ℕ → Fault → List (List ℕ) → List ℕ → Type 0
IsWrong earlier LineTooLong before line = longest_line < length line
IsWrong earlier NotUtf8 before line = ¬ IsUtf8 line
IsWrong earlier LeadingContinuation before line =
    (is_continuation (line_of line) ≡ true) × (is_inside false (nonblank before) ≡ false)
IsWrong earlier BadLine before line = line_of line ≡ Bad
IsWrong earlier TooManyRecords before line = most_records < earlier + begun false (nonblank (before ++ line ∷ []))

-- in a text that comes after `earlier` records, `fault` is a fault of the line with this number, counted from 1
pub record IsWrongAt (earlier : ℕ) (text : List ℕ) (fault : Fault) (number : ℕ) : Type 0 where
  pub before : List (List ℕ)
  pub line : List ℕ
  pub after : List (List ℕ)
  pub all : lines_of text ≡ before ++ line ∷ after
  pub counted : number ≡ length before + 1
  pub wrong : IsWrong earlier fault before line

-- the fault of a text that comes after `earlier` records: the first line with a fault, and of its faults the one with
-- the least rank
pub record IsTheFault (earlier : ℕ) (text : List ℕ) (fault : Fault) (number : ℕ) : Type 0 where
  pub wrong : IsWrongAt earlier text fault number
  pub lowest : (other : Fault) (at : ℕ) → IsWrongAt earlier text other at → number ≤ at
  pub first : (other : Fault) → IsWrongAt earlier text other number → rank fault ≤ rank other

-- the line with this number is in a text that comes after `earlier` records, and no line before it has a fault
pub record IsLineReached (earlier : ℕ) (text : List ℕ) (number : ℕ) : Type 0 where
  pub from : 1 ≤ number
  pub to : number ≤ length (lines_of text)
  pub clean : (other : Fault) (at : ℕ) → IsWrongAt earlier text other at → number ≤ at
