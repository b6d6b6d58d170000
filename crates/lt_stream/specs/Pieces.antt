-- What a run over the pieces of a reader's bytes reads, and how it ends.
use Rattle.std.specs.Prelude.{◌≡◌, ◌<◌, ◌≤◌, ◌+◌, ◌^◌, ◌⊎◌, ◌++◌, ℕ, List, length, Option, Some, None, Result, Ok, Err}
use Rattle.std.specs.Io.KnownBytes.{Consumes, IsAtEnd}
use Rattle.lt_jar.specs.Devices.{HasFailed, failures_of, inner_of, last_given_of}
use Rattle.lt_jar.specs.Sources.{most_reads}
use Rattle.lt_jar.specs.declared.devices.Device.{Device}
use Rattle.lt_stream.specs.Running.{HasRead}
use Rattle.lt_stream.specs.declared.faults.ToolFault.{ToolFault}
use Rattle.lt_stream.specs.declared.faults.ToolFault.TheVariants as faults

-- a statement on the output at the beginning of a run and now, the bytes that were read, and the state of what takes
-- them
abbrev pub RunFact : Type 0 → Type 0 → Type 1
RunFact O P = O → O → List ℕ → P → Type 0

-- a statement on a run that ends: on all that a `RunFact` is on, and on the result of the run
abbrev pub EndFact : Type 0 → Type 0 → Type 0 → Type 1
EndFact O P A = O → O → List ℕ → P → Result A ToolFault → Type 0

-- `T` is true of a run so far, and with `count` further bytes the run has read fewer than 2^63, so that 64 bits count
-- them
pub record HasRoom {O P : Type 0} (T : P → RunFact O P) (count : ℕ) (now : O) (state : P) : Type 0 where
  pub first : P
  pub start : O
  pub read : List ℕ
  pub taken : T first start now read state
  pub few : length read + count < 2 ^ 63

-- If `T` is true before a piece, it is true after it too, or `S` is true of the run that the piece ends, whatever was
-- read before. `before` and `after` are the output, `old` and `new` the state of what takes the pieces.
abbrev pub TakesPiece : {O P A : Type 0} → (P → RunFact O P) → (P → EndFact O P A) → List ℕ → (before after : O)
    → (old new : P)
    → Result (Option A) ToolFault → Type 0
TakesPiece {O = O} {P = P} T S piece before after old new (Ok None) =
    (first : P) (start : O) (read : List ℕ) → T first start before read old → T first start after (read ++ piece) new
TakesPiece {O = O} {P = P} T S piece before after old new (Ok (Some answer)) =
    (first : P) (start : O) (read : List ℕ) → T first start before read old
    → S first start after (read ++ piece) new (Ok answer)
TakesPiece {O = O} {P = P} T S piece before after old new (Err fault) =
    (first : P) (start : O) (read : List ℕ) → T first start before read old
    → S first start after (read ++ piece) new (Err fault)

-- If `T` is true after the reader's last byte, `F` is true of the run that ends there. `before` and `after` are the
-- output, `old` and `new` the state of what takes the pieces.
abbrev pub FinishesPieces : {O P A : Type 0} → (P → RunFact O P) → (P → EndFact O P A) → (before after : O)
    → (old new : P)
    → Result A ToolFault → Type 0
FinishesPieces {O = O} {P = P} T F before after old new result =
    (first : P) (start : O) (read : List ℕ) → T first start before read old → F first start after read new result

-- the reader was read to its end, and `F` is true; `input` and `input'` are its device before and after the run
pub record IsFinished {I A : Type 0} (F : List ℕ → Result A ToolFault → Type 0) (remaining : I → Option (List ℕ))
    (input input' : Device I) (read : List ℕ) (result : Result A ToolFault) : Type 0 where
  pub end : IsAtEnd (remaining (inner_of input'))
  pub same : failures_of input' ≡ failures_of input
  pub finished : F read result

-- a piece ended the run, and `S` is true of the bytes that were read and of the result
pub record IsStopped {I A : Type 0} (S : List ℕ → Result A ToolFault → Type 0) (input input' : Device I)
    (read : List ℕ) (result : Result A ToolFault) : Type 0 where
  pub same : failures_of input' ≡ failures_of input
  pub stopped : S read result

-- a read failed, and `T` is true of the bytes that were read before
pub record IsStoppedByRead {I A : Type 0} (T : List ℕ → Type 0) (input input' : Device I)
    (read : List ℕ) (result : Result A ToolFault) : Type 0 where
  pub fault : result ≡ Err faults.Read
  pub failed : HasFailed input input'
  pub taken : T read

-- the most reads that a run may make were made, they gave at least as many bytes, the last gave some, and `T` is true
-- of the bytes that were read
pub record IsStoppedByTurns {I A : Type 0} (T : List ℕ → Type 0) (input input' : Device I) (reads : ℕ)
    (read : List ℕ) (result : Result A ToolFault) : Type 0 where
  pub fault : result ≡ Err faults.TooManyTurns
  pub same : failures_of input' ≡ failures_of input
  pub all_made : reads ≡ most_reads
  pub gave_bytes : most_reads ≤ length read
  pub last_gave : 0 < last_given_of input'
  pub taken : T read

-- there was no memory for a piece, and `T` is true of the bytes that were read
pub record IsWithoutMemory {I A : Type 0} (T : List ℕ → Type 0) (input input' : Device I)
    (read : List ℕ) (result : Result A ToolFault) : Type 0 where
  pub fault : result ≡ Err faults.OutOfMemory
  pub same : failures_of input' ≡ failures_of input
  pub taken : T read

-- A run over the pieces of a reader's bytes, and the way in which it ended, one of five. It made so many `reads`, which
-- gave the bytes `read`. `T` is true while it goes on, `S` where a piece ends it, and `F` where the reader has no more.
-- `input` and `input'` are the reader's device before and after it, `start` and `now` the output, and `remaining` tells
-- what a reader has still to give.
pub record RunsPieces {I O P A : Type 0} (T : RunFact O P) (S F : EndFact O P A) (remaining : I → Option (List ℕ))
    (input input' : Device I) (start now : O) (state : P) (result : Result A ToolFault) : Type 0 where
  pub read : List ℕ
  pub reads : ℕ
  pub consumes : Consumes (remaining (inner_of input)) (remaining (inner_of input')) read
  pub calls : HasRead input input' reads
  pub bounded : reads ≤ most_reads
  pub ends : IsFinished (λ bytes end. F start now bytes state end) remaining input input' read result
      ⊎ (IsStopped (λ bytes end. S start now bytes state end) input input' read result
      ⊎ (IsStoppedByRead (λ bytes. T start now bytes state) input input' read result
      ⊎ (IsStoppedByTurns (λ bytes. T start now bytes state) input input' reads read result
      ⊎ IsWithoutMemory (λ bytes. T start now bytes state) input input' read result)))
