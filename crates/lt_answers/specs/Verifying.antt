-- What a run over the lines of an explanation reads, and which verdict it gives.
use Rattle.std.specs.Prelude.{◌≡◌, ◌≤◌, ◌<◌, ◌+◌, ℕ, List, [], ◌∷◌, ◌++◌, length, Option, Some, None, Result, Ok, Err}
use Rattle.std.specs.Io.KnownBytes.{Consumes, IsAtEnd}
use Rattle.lt_jar.specs.Devices.{HasFailed, failures_of, inner_of, last_given_of}
use Rattle.lt_jar.specs.Lines.{HoldsOfWhole, IsOneLine, lines_of}
use Rattle.lt_jar.specs.Sources.{most_reads}
use Rattle.lt_jar.specs.declared.devices.Device.{Device}
use Rattle.lt_tag.specs.Parts.{TagForm}
use Rattle.lt_registry.specs.Parts.{EntryParts}
use Rattle.lt_stream.specs.Running.{HasRead}
use Rattle.lt_stream.specs.declared.faults.ToolFault.{ToolFault}
use Rattle.lt_stream.specs.declared.faults.ToolFault.TheVariants as faults
use Rattle.lt_answers.specs.Judging.{IsProperIf, Judges, KeepsFew}
use Rattle.lt_answers.specs.Verdicts.{IsVerdict}
use Rattle.lt_answers.specs.declared.following.Following.{Following}
use Rattle.lt_answers.specs.declared.verdicts.Verdict.{Verdict}

-- `v` is the verdict on the lines of these bytes, as an explanation of `t`
abbrev pub IsVerdictOf : List EntryParts → TagForm → Verdict → List ℕ → Type 0
IsVerdictOf R t v bytes = IsVerdict R t (lines_of bytes) v

-- How a run ended that read the bytes `read` in `reads` reads: with the verdict on all bytes that the reader gives,
-- whether they were read or not, or with a fault. OutOfMemory says nothing more.
abbrev pub EndsAs : {I : Type 0} → List EntryParts → TagForm
    → (I → Option (List ℕ)) → (input input' : Device I) → ℕ → List ℕ
    → Result Verdict ToolFault → Type 0
EndsAs R t remaining input input' reads read (Ok v) =
    HoldsOfWhole (IsVerdictOf R t v) (IsAtEnd (remaining (inner_of input'))) read
EndsAs R t remaining input input' reads read (Err faults.Read) = HasFailed input input'
EndsAs R t remaining input input' reads read (Err faults.TooManyTurns) =
    (reads ≡ most_reads) × (0 < last_given_of input')
EndsAs R t remaining input input' reads read (Err faults.Write) = ⊥
EndsAs R t remaining input input' reads read (Err (faults.BadCsv line)) = ⊥
EndsAs R t remaining input input' reads read (Err (faults.BadTsv line)) = ⊥
EndsAs R t remaining input input' reads read (Err faults.Utf16) = ⊥
EndsAs R t remaining input input' reads read (Err faults.OutOfMemory) = Unit {0}

-- A run over the lines of a reader, which are judged as an explanation of `t`. It read the bytes `read` in `reads`
-- reads, at most 10,000,000. If the count of failures of the reader rises, the result is Read (`read_rises`).
-- `remaining` gives the bytes that a reader has left, and `input` and `input'` are the reader before and after the run.
pub record VerifiesLines {I : Type 0} (R : List EntryParts) (t : TagForm)
    (remaining : I → Option (List ℕ)) (input input' : Device I)
    (result : Result Verdict ToolFault) : Type 0 where
  pub read : List ℕ
  pub reads : ℕ
  pub consumes : Consumes (remaining (inner_of input)) (remaining (inner_of input')) read
  pub calls : HasRead input input' reads
  pub bounded : reads ≤ most_reads
  pub ends : EndsAs R t remaining input input' reads read result
  pub read_rises : failures_of input < failures_of input' → result ≡ Err faults.Read

-- ---- the steps

-- the state of a run that begins at the tag `t` and has judged no line
pub record Begins (t : TagForm) (start : Following) : Type 0 where
  pub kept : start.kept.items ≡ []
  pub here : start.here ≡ Some t
  pub number : start.number ≡ 1

-- `part` was appended to the line that is kept
pub record KeepsMore (part : List ℕ) (old new : Following) : Type 0 where
  pub kept : new.kept.items ≡ old.kept.items ++ part
  pub here : new.here ≡ old.here
  pub number : new.number ≡ old.number

-- a line was judged, so that the next one comes: the line leads to the tag `here`, or, if that is None, it is the line
-- of the end
pub record GoesTo (here : Option TagForm) (old new : Following) : Type 0 where
  pub there : new.here ≡ here
  pub emptied : new.kept.items ≡ []
  pub counted : new.number ≡ old.number + 1

-- the kept line was judged and settles nothing: whatever lines follow, the verdict on them from the new state is that
-- on the kept line and them from the old one
pub record GoesOn (R : List EntryParts) (old new : Following) : Type 0 where
  pub proper : IsProperIf R new.here
  pub emptied : new.kept.items ≡ []
  pub counted : new.number ≡ old.number + 1
  pub follows : (lines : List (List ℕ)) (v : Verdict) → Judges R new.number new.here lines v
      → Judges R old.number old.here (old.kept.items ∷ lines) v

-- the kept line settles this verdict, whatever follows, or judging goes on
abbrev pub JudgesKept : List EntryParts → (old new : Following) → Option Verdict → Type 0
JudgesKept R old new None = GoesOn R old new
JudgesKept R old new (Some v) = (lines : List (List ℕ)) → Judges R old.number old.here (old.kept.items ∷ lines) v

-- the kept front of a line settles this verdict, however it goes on; or it settles none, and is short enough to be kept
abbrev pub SettlesKept : List EntryParts → Following → Option Verdict → Type 0
SettlesKept R state None = KeepsFew R state.here (length state.kept.items)
SettlesKept R state (Some v) = (more : List ℕ) → IsOneLine state.kept.items
    → Judges R state.number state.here (lines_of (state.kept.items ++ more)) v

-- A piece was taken in. Whatever bytes follow it, the verdict from the new state on what is kept there and these bytes
-- is also the verdict from the old state on what was kept there, the piece and these bytes (`follows`). The tag to
-- which the lines lead is proper, and at most one line was counted for each byte of the piece.
pub record Takes (R : List EntryParts) (piece : List ℕ) (old new : Following) : Type 0 where
  pub proper : IsProperIf R new.here
  pub counted : new.number ≤ old.number + length piece
  pub one : IsOneLine old.kept.items → IsOneLine new.kept.items
  pub follows : (more : List ℕ) (v : Verdict) → IsOneLine old.kept.items
      → Judges R new.number new.here (lines_of (new.kept.items ++ more)) v
      → Judges R old.number old.here (lines_of (old.kept.items ++ (piece ++ more))) v

-- a piece of bytes settles this verdict, whatever follows; or it was taken in, and few bytes of a line are kept
abbrev pub TakesPiece : List EntryParts → List ℕ → (old new : Following) → Option Verdict → Type 0
TakesPiece R piece old new None = Takes R piece old new × KeepsFew R new.here (length new.kept.items)
TakesPiece R piece old new (Some v) = (more : List ℕ) → IsOneLine old.kept.items
    → Judges R old.number old.here (lines_of (old.kept.items ++ (piece ++ more))) v

-- `v` is the verdict on the kept line if nothing follows it
abbrev pub JudgesEnd : List EntryParts → Following → Verdict → Type 0
JudgesEnd R state v = IsOneLine state.kept.items → Judges R state.number state.here (lines_of state.kept.items) v

-- ---- the bytes of a reader

-- the bytes `read` were taken in from the beginning, where the state was `first`; now it is `here`
pub record IsFollowed (R : List EntryParts) (first : Following) (read : List ℕ) (here : Following) : Type 0 where
  pub one : IsOneLine first.kept.items
  pub number : first.number ≡ 1
  pub takes : Takes R read first here

-- the bytes `read` settle this verdict from the beginning, where the state was `first`, whatever follows; or memory ran
-- out
abbrev pub Settles : List EntryParts → Following → List ℕ → Result Verdict ToolFault → Type 0
Settles R first read (Ok v) =
    (more : List ℕ) → Judges R first.number first.here (lines_of (first.kept.items ++ (read ++ more))) v
Settles R first read (Err f) = f ≡ faults.OutOfMemory

-- this is the verdict on the bytes `read` from the beginning, where the state was `first`, if nothing follows them; or
-- memory ran out
abbrev pub JudgesAll : List EntryParts → Following → List ℕ → Result Verdict ToolFault → Type 0
JudgesAll R first read (Ok v) = Judges R first.number first.here (lines_of (first.kept.items ++ (read ++ []))) v
JudgesAll R first read (Err f) = f ≡ faults.OutOfMemory
