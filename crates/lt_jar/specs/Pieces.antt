-- What the engine that reads records does with a piece of a text, and with the text's end. `partial.items` are the
-- bytes that it keeps of a line. `steps` (Reading) computes what lines make of the fields that go on (`going_on`). The
-- fields `room` say that each line took at least one byte, so that the numbers of lines stay small.
use Rattle.std.specs.Prelude.{◌≡◌, ◌≢◌, ◌≤◌, ◌<◌, ◌+◌, ◌⊎◌, ℕ, Bool, true, false, List, [], ◌∷◌, ◌++◌, length, take}
use Rattle.std.specs.Prelude.{Option, Some, None, Result, Ok, Err, MatchOption}
use Rattle.std.specs.Borrow.{Bor}
use Rattle.std.specs.List.{AllByRecursion}
use Rattle.lt_jar.specs.Lines.{IsOneLine, lines_of, whole_lines}
use Rattle.lt_jar.specs.Limits.{longest_line}
use Rattle.lt_jar.specs.Records.{Field}
use Rattle.lt_jar.specs.Reading.{Ends, Going, finished, going_on, rest_of, steps, take_line}
use Rattle.lt_jar.specs.Views.{IsSaid}
use Rattle.lt_jar.specs.declared.faults.JarFaultKind.{JarFaultKind}
use Rattle.lt_jar.specs.declared.faults.JarFaultKind.TheVariants as kinds
use Rattle.lt_jar.specs.declared.drafts.Progress.{Progress}
use Rattle.lt_jar.specs.declared.engine.Engine.{Engine}

-- what is before the first line feed (10) of the text, and what is after it; None for a text without a line feed
abbrev pub SplitsLine : List ℕ → Option (Bor (List ℕ) × Bor (List ℕ)) → Type 0
SplitsLine text parts = MatchOption parts (IsOneLine text) (λ p. IsOneLine p.0.now × (text ≡ p.0.now ++ 10 ∷ p.1.now))

-- the fields, so far, of the record that the engine is reading
abbrev pub fields_in : Engine → List Field
fields_in engine = take engine.draft.count engine.draft.fields.items

-- the engine, `old` before and `new` after, took in these whole lines, which ended no record
pub record GoesOver (old new : Engine) (lines : List (List ℕ)) : Type 0 where
  pub each : AllByRecursion IsOneLine lines
  pub ran : steps old.ended (going_on (fields_in old)) lines ≡ going_on (fields_in new)
  pub line : new.line ≡ old.line + length lines
  pub ended : new.ended ≡ old.ended
  pub begun : IsOneLine new.partial.items

-- how a whole line ends, by the answer for it: it was taken in, or has a fault; `old` is the engine before it, `new`
-- after it
abbrev pub EndsLine : Engine → Engine → Result Progress JarFaultKind → Type 0
EndsLine old new (Ok progress) = (new.line ≡ old.line + 1) × (new.partial.items ≡ [])
EndsLine old new (Err kind) = (new.line ≡ old.line) × IsOneLine new.partial.items

-- all bytes of the piece were taken in, and what follows the last line feed is kept; `old` is the engine before the
-- piece, `new` after it
pub record TakesAll (old new : Engine) (piece : List ℕ) : Type 0 where
  pub lines : List (List ℕ)
  pub over : GoesOver old new lines
  pub bytes : old.partial.items ++ piece ≡ whole_lines lines ++ new.partial.items
  pub room : new.line ≤ old.line + length piece

-- the last of the lines that were taken in ends a record, and `rest` of the piece is left; `old` is the engine before
-- the piece, `new` after it
pub record TakesRecord (old new : Engine) (piece rest : List ℕ) : Type 0 where
  pub lines : List (List ℕ)
  pub last : List ℕ
  pub each : AllByRecursion IsOneLine (lines ++ last ∷ [])
  pub ran : steps old.ended (going_on (fields_in old)) lines ≡ going_on (fields_in new)
  pub ends : take_line old.ended (fields_in new) last ≡ Ok (Ends (fields_in new))
  pub line : new.line ≡ old.line + length lines + 1
  pub ended : new.ended ≡ old.ended
  pub empty : new.partial.items ≡ []
  pub bytes : old.partial.items ++ piece ≡ whole_lines (lines ++ last ∷ []) ++ rest
  pub front : List ℕ
  pub split : piece ≡ front ++ rest
  pub room : new.line + length rest ≤ old.line + length piece

-- the first line of the text, behind `ended` records and the fields of one that goes on, has this fault, or memory ran
-- out at it
pub record RefusesFirst (ended : ℕ) (fields : List Field) (text : List ℕ) (kind : JarFaultKind) : Type 0 where
  pub line : List ℕ
  pub after : List (List ℕ)
  pub cut : lines_of text ≡ line ∷ after
  pub said : IsSaid kind (take_line ended fields line)

-- Reading stops at a line of the kept bytes and the piece: it has this fault, whatever bytes follow, or memory ran out
-- at it. It comes after `lines`, none of which ends a record, and `tail` is what there is from it on. What the engine
-- keeps after that has no line feed (`begun`). `old` is the engine before the piece, `new` after it.
pub record StopsAt (old new : Engine) (piece : List ℕ) (kind : JarFaultKind) : Type 0 where
  pub lines : List (List ℕ)
  pub each : AllByRecursion IsOneLine lines
  pub fields : List Field
  pub ran : steps old.ended (going_on (fields_in old)) lines ≡ going_on fields
  pub tail : List ℕ
  pub refused : (more : List ℕ) → RefusesFirst old.ended fields (tail ++ more) kind
  pub bytes : old.partial.items ++ piece ≡ whole_lines lines ++ tail
  pub room : new.line ≤ old.line + length piece
  pub line : new.line ≡ old.line + length lines
  pub ended : new.ended ≡ old.ended
  pub begun : IsOneLine new.partial.items

-- What the engine did with a piece, by its answer: it took all, or came to the end of a record, or to a fault. `old`
-- and `new` are the engine before and after it.
abbrev pub TakesPiece : Engine → Engine → List ℕ → Result (Option (Bor (List ℕ))) JarFaultKind → Type 0
TakesPiece old new piece (Ok None) = TakesAll old new piece
TakesPiece old new piece (Ok (Some rest)) = TakesRecord old new piece rest.now
TakesPiece old new piece (Err kind) = StopsAt old new piece kind

-- The bytes `rest`, without a line feed, were added to the kept front of a line, unless that gets too long or memory
-- runs out. `old` is the engine before, and `new` the one after it.
abbrev pub KeepsBytes : Engine → Engine → List ℕ → Result (Unit {0}) JarFaultKind → Type 0
KeepsBytes old new rest (Ok x) = new.partial.items ≡ old.partial.items ++ rest
KeepsBytes old new rest (Err kind) =
    ((kind ≡ kinds.OutOfMemory) ⊎ ((kind ≡ kinds.LineTooLong) × (longest_line < length (old.partial.items ++ rest))))
    × (old.partial.items ++ rest ≢ []) × (new.partial.items ≡ old.partial.items)

-- the last line of a text that ends after the kept bytes: these bytes, or no line if there are none
abbrev pub last_line : List ℕ → List (List ℕ)
last_line [] = []
last_line (byte ∷ line) = (byte ∷ line) ∷ []

-- the engine took in the end of the text, where a record ends if `some` is true, and none if it is false
pub record Finishes (old new : Engine) (some : Bool) : Type 0 where
  pub going : Going
  pub ran : steps old.ended (going_on (fields_in old)) (last_line old.partial.items) ≡ Ok going
  pub record_is : finished going ≡ rest_of (fields_in new)
  pub with_fields : some ≡ true → fields_in new ≢ []
  pub without : some ≡ false → fields_in new ≡ []
  pub line : new.line ≡ old.line + length (last_line old.partial.items)
  pub ended : new.ended ≡ old.ended
  pub empty : new.partial.items ≡ []

-- the last line, which no line feed ends, has this fault, or memory ran out at it; `old` is the engine before it, `new`
-- after it
pub record StopsAtLast (old new : Engine) (kind : JarFaultKind) : Type 0 where
  pub some : old.partial.items ≢ []
  pub said : IsSaid kind (take_line old.ended (fields_in old) old.partial.items)
  pub line : new.line ≡ old.line
  pub ended : new.ended ≡ old.ended
  pub begun : IsOneLine new.partial.items

-- What the engine did with the end of the text, by its answer: it took it in, or came to a fault. `old` and `new` are
-- the engine before and after it.
abbrev pub FinishesOr : Engine → Engine → Result Bool JarFaultKind → Type 0
FinishesOr old new (Ok some) = Finishes old new some
FinishesOr old new (Err kind) = StopsAtLast old new kind
