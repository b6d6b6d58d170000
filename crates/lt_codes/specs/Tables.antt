-- The table of codes of languages (ISO 639-2) that a text is, line by line, and why it is none.
use Rattle.std.specs.Prelude.{◌≡◌, ◌≤◌, ◌<◌, ◌+◌, ◌⊎◌, ◌==◌, ℕ, List, [], ◌∷◌, ◌++◌, Option, Some, None, Result, Ok}
use Rattle.std.specs.Prelude.{Err, IfSome, length}
use Rattle.std.specs.List.{All, count_by}
use Rattle.std.specs.Str.{IsUtf8}
use Rattle.lt_jar.specs.Lines.{content_of, lines_of}
use Rattle.lt_rows.specs.Marks.{SplitsMark}
use Rattle.lt_codes.specs.Codes.{found_in}
use Rattle.lt_codes.specs.Rows.{HasFields, codes_of}
use Rattle.lt_codes.specs.declared.codes.Code.{Code}
use Rattle.lt_codes.specs.declared.faults.TableFault.{TableFault}
use Rattle.lt_codes.specs.declared.faults.TableFaultKind.{TableFaultKind}
use Rattle.lt_codes.specs.declared.faults.TableFaultKind.TheVariants as kinds

-- a line in UTF-8, of five fields, and the codes that it adds; None if a field lacks its form
pub record IsRow (line : List ℕ) (codes : Option (List Code)) : Type 0 where
  pub utf8 : IsUtf8 line
  pub bibliographic : List ℕ
  pub terminologic : List ℕ
  pub two_letters : List ℕ
  pub fields : HasFields line bibliographic terminologic two_letters
  pub codes_are : codes_of bibliographic terminologic two_letters ≡ codes

-- if a code is among those before, the same is registered for it there
abbrev pub Agrees : List Code → Code → Type 0
Agrees before c = IfSome (found_in before c.code) (λ other. other.registered ≡ c.registered)

-- what a line adds to the codes before it, or the kind of fault for which it is refused; OutOfMemory may be answered
-- of any line
abbrev pub AddsLine : List Code → List ℕ → Result (List Code) TableFaultKind → Type 0
AddsLine before line (Ok codes) = IsRow line (Some codes) × All (Agrees before) codes
AddsLine before line (Err kinds.NotUtf8) = ¬ (IsUtf8 line)
AddsLine before line (Err kinds.BadRow) = IsUtf8 line × ((b t w : List ℕ) → HasFields line b t w → ⊥)
AddsLine before line (Err kinds.BadCode) = IsRow line None
AddsLine before line (Err kinds.RepeatedCode) =
    (codes : List Code) × IsRow line (Some codes) × (All (Agrees before) codes → ⊥)
AddsLine before line (Err kinds.TableTooLong) = ⊥
AddsLine before line (Err kinds.Read) = ⊥
AddsLine before line (Err kinds.OutOfMemory) = Unit {0}

-- reading these lines (the second argument), each of which adds its codes, makes `codes` of the codes before them; a
-- carriage return (13) that ends a line is no part of it
abbrev pub AddLines : List Code → List (List ℕ) → List Code → Type 0
AddLines before [] codes = codes ≡ before
AddLines before (line ∷ lines) codes =
    (more : List Code) × AddsLine before (content_of line) (Ok more) × AddLines (before ++ more) lines codes

-- the most bytes of a table: 1 MiB (a rule of this project)
abbrev pub longest_table : ℕ
longest_table = 1048576

-- a text is a table of these codes, in their order; a byte order mark is no part of it
pub record IsTable (text : List ℕ) (codes : List Code) : Type 0 where
  pub short : length text ≤ longest_table
  pub mark : List ℕ
  pub rest : List ℕ
  pub split : SplitsMark text mark rest
  pub lines : AddLines [] (lines_of rest) codes

-- a line of the text is refused with this fault, which has the number of the line, counted from 1; the lines before it
-- add `codes`, and a byte order mark is no part of the lines
pub record RefusesLine (text : List ℕ) (fault : TableFault) : Type 0 where
  pub short : length text ≤ longest_table
  pub mark : List ℕ
  pub rest : List ℕ
  pub split : SplitsMark text mark rest
  pub before : List (List ℕ)
  pub line : List ℕ
  pub after : List (List ℕ)
  pub there : lines_of rest ≡ before ++ line ∷ after
  pub codes : List Code
  pub are_codes : AddLines [] before codes
  pub refuses : AddsLine codes (content_of line) (Err fault.kind)
  pub number : fault.line ≡ length before + 1

-- the number of the last line that bytes reach, counted from 1
abbrev pub line_reached : List ℕ → ℕ
line_reached bytes = count_by (λ byte. byte == 10) bytes + 1

-- a text is longer than a table may be, and the fault names the last line that it reaches
pub record IsTooLong (text : List ℕ) (fault : TableFault) : Type 0 where
  pub long : longest_table < length text
  pub kind : fault.kind ≡ kinds.TableTooLong
  pub number : fault.line ≡ line_reached text

-- why a text is no table: it is too long, or a line is refused; OutOfMemory may be answered of any text
abbrev pub RefusesTable : List ℕ → TableFault → Type 0
RefusesTable text fault = (fault.kind ≡ kinds.OutOfMemory) ⊎ (IsTooLong text fault ⊎ RefusesLine text fault)
