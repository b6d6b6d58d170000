-- The state of a run that answers lines which come in pieces. No public contract cites this. Q tells what is answered,
-- `longest` is how many bytes are kept of a line, `contents` tells what a writer has taken, `start` is the output at
-- the beginning of the run, and `now` the output here. A front of some bytes is the first of them, perhaps none or all.
use Rattle.std.specs.Prelude.{◌≡◌, ◌<◌, ◌-◌, ◌⊎◌, ◌++◌, ℕ, List, [], take, vec_len, Option, Result, Ok, Err, IfErr}
use Rattle.std.specs.Prelude.{IfOk}
use Rattle.std.specs.List.{AllByRecursion}
use Rattle.std.specs.Io.KnownBytes.{Appends}
use Rattle.lt_jar.specs.Devices.{HasFailed, failures_of, inner_of}
use Rattle.lt_jar.specs.Lines.{IsOneLine, lines_of, whole_lines}
use Rattle.lt_jar.specs.declared.devices.Device.{Device}
use Rattle.lt_stream.specs.DeviceOutput.{IsFrontOf}
use Rattle.lt_stream.specs.Lines.{Answered, IsBegun, TakesLine}
use Rattle.lt_stream.specs.declared.faults.ToolFault.{ToolFault}
use Rattle.lt_stream.specs.declared.faults.ToolFault.TheVariants as faults
use Rattle.lt_stream.specs.declared.lines.Lined.{Lined}

-- answers are written once this many bytes of them wait, and at the latest before the next read
abbrev pub full : ℕ
full = 65536

-- These bytes were read, and are the whole lines `lines`, each with its line feed, and the rest `last`. The whole lines
-- are answered. The answers are the bytes that were written and then those that wait (`owed`). Of `last` the first
-- `longest` bytes are kept, at least one if it has any (`some`). No write failed (`same`).
pub record IsDuring {A W : Type 0} (Q : Answered A) (longest : ℕ) (contents : W → Option (List ℕ))
    (start now : Device W) (bytes : List ℕ) (state : Lined A) : Type 0 where
  pub some : 0 < longest
  pub written : List ℕ
  pub appends : Appends (contents (inner_of start)) (contents (inner_of now)) written
  pub same : failures_of now ≡ failures_of start
  pub lines : List (List ℕ)
  pub last : List ℕ
  pub cut : bytes ≡ whole_lines lines ++ last
  pub each_one : AllByRecursion IsOneLine lines
  pub last_one : IsOneLine last
  pub kept : state.kept.items ≡ take longest last
  pub answered : Q state.answers lines (written ++ state.owed.items)

-- these bytes were read, their whole lines are answered, and all answers are written
pub record IsTaken {A W : Type 0} (Q : Answered A) (longest : ℕ) (contents : W → Option (List ℕ))
    (start now : Device W) (bytes : List ℕ) (state : Lined A) : Type 0 where
  pub during : IsDuring Q longest contents start now bytes state
  pub emptied : state.owed.items ≡ []

-- All lines of these bytes are answered, also a last one without a line feed. Each answer is written or waits to be
-- written, and no write failed (`same`).
pub record IsAnswered {A W : Type 0} (Q : Answered A) (contents : W → Option (List ℕ))
    (start now : Device W) (bytes : List ℕ) (state : Lined A) : Type 0 where
  pub written : List ℕ
  pub appends : Appends (contents (inner_of start)) (contents (inner_of now)) written
  pub same : failures_of now ≡ failures_of start
  pub answered : Q state.answers (lines_of bytes) (written ++ state.owed.items)

-- what was written is a front of the answers, and then a write failed (Write), or memory ran out and no write failed
-- (OutOfMemory)
pub record IsCutOff {A W : Type 0} (Q : Answered A) (contents : W → Option (List ℕ)) (start now : Device W)
    (bytes : List ℕ) (fault : ToolFault) : Type 0 where
  pub written : List ℕ
  pub appends : Appends (contents (inner_of start)) (contents (inner_of now)) written
  pub begun : IsBegun Q bytes written
  pub stop : ((fault ≡ faults.Write) × HasFailed start now)
      ⊎ ((fault ≡ faults.OutOfMemory) × (failures_of now ≡ failures_of start))

-- a piece can end a run only by a fault: a failed write or lack of memory
abbrev pub Stops : {A W : Type 0} → Answered A → (W → Option (List ℕ)) → (start now : Device W) → List ℕ
    → Result (Unit {0}) ToolFault → Type 0
Stops Q contents start now bytes (Ok _) = ⊥
Stops Q contents start now bytes (Err fault) = IsCutOff Q contents start now bytes fault

-- all lines of these bytes are answered, all answers are written, and no write failed
pub record IsAll {A W : Type 0} (Q : Answered A) (contents : W → Option (List ℕ))
    (start now : Device W) (bytes : List ℕ) (answers : A) : Type 0 where
  pub written : List ℕ
  pub appends : Appends (contents (inner_of start)) (contents (inner_of now)) written
  pub same : failures_of now ≡ failures_of start
  pub answered : Q answers (lines_of bytes) written

-- How a run ends after the reader's last byte, by its result: all answers are written, or a write failed or memory ran
-- out.
abbrev pub Finishes : {A W : Type 0} → Answered A → (W → Option (List ℕ)) → (start now : Device W) → List ℕ
    → Lined A → Result (Unit {0}) ToolFault → Type 0
Finishes Q contents start now bytes state (Ok _) = IsAll Q contents start now bytes state.answers
Finishes Q contents start now bytes state (Err fault) = IsCutOff Q contents start now bytes fault

-- ---- the steps

-- The first bytes of `part` were appended to the front that is kept of a line, up to `longest` bytes in all. The
-- answers that wait, and what answers, are unchanged.
pub record KeepsMore {A : Type 0} (longest : ℕ) (part : List ℕ) (old new : Lined A) : Type 0 where
  pub kept : new.kept.items ≡ old.kept.items ++ take (longest - vec_len old.kept) part
  pub owed : new.owed.items ≡ old.owed.items
  pub same : new.answers ≡ old.answers

-- the line whose front was kept was answered, and nothing is kept now
pub record EndsLine {A : Type 0} (Q : A → Answered A) (longest : ℕ) (old new : Lined A) : Type 0 where
  pub emptied : new.kept.items ≡ []
  pub takes : TakesLine Q longest old.kept.items old.owed.items new.owed.items old.answers new.answers

-- if a front of a line was kept, this line was answered as the last one; else nothing changed
abbrev pub EndsLast : {A : Type 0} → (A → Answered A) → ℕ → (old new : Lined A) → Type 0
EndsLast Q longest old new = ((old.kept.items ≡ []) × (new ≡ old))
    ⊎ ((old.kept.items ≡ [] → ⊥) × EndsLine Q longest old new)

-- `part`, a front of the answers that waited, was written. If no write failed, the rest of them still waits (`done`);
-- else the fault is Write (`stopped`). What is kept, and what answers, are unchanged. `old` and `new` are the state,
-- `before` and `after` the output.
pub record WritesOwed {A W : Type 0} (contents : W → Option (List ℕ)) (old new : Lined A) (before after : Device W)
    (result : Result (Unit {0}) ToolFault) : Type 0 where
  pub part : List ℕ
  pub appends : Appends (contents (inner_of before)) (contents (inner_of after)) part
  pub kept : new.kept.items ≡ old.kept.items
  pub same : new.answers ≡ old.answers
  pub done : IfOk result (λ _. (old.owed.items ≡ part ++ new.owed.items) × (failures_of after ≡ failures_of before))
  pub stopped : IfErr result (λ f. (f ≡ faults.Write) × HasFailed before after × IsFrontOf part old.owed.items)
