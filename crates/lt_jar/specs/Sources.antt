-- What a reader of records keeps from one call to the next, and what each call does. No read gives more than 65,536
-- bytes, since the buffer has 8,192.
use Rattle.std.specs.Prelude.{◌≡◌, ◌≢◌, ◌<◌, ◌≤◌, ◌+◌, ◌-◌, ◌*◌, ◌⊎◌, ℕ, Bool, true, false, List, [], ◌∷◌, ◌++◌, length}
use Rattle.std.specs.Prelude.{take, drop, Option, Some, Result, Ok, Err}
use Rattle.std.specs.Io.KnownBytes.{Consumes, IsAtEnd}
use Rattle.lt_jar.specs.Devices.{HasFailed, after_reads, failures_of, inner_of, last_given_of, reads_of}
use Rattle.lt_jar.specs.Lines.{HoldsOfWhole, lines_of}
use Rattle.lt_jar.specs.Records.{Field, HasRecords}
use Rattle.lt_jar.specs.Faults as faults
use Rattle.lt_jar.specs.Lending.{CutsRecord, EndsNoneAbove, IsCutShort, IsSound}
use Rattle.lt_jar.specs.Pieces.{StopsAt, StopsAtLast, TakesAll, TakesRecord, fields_in, last_line}
use Rattle.lt_jar.specs.Reading.{Going, finished, going_on, rest_of, steps}
use Rattle.lt_jar.specs.Views.{fault_in}
use Rattle.lt_jar.specs.declared.devices.Device.{Device}
use Rattle.lt_jar.specs.declared.faults.JarFault.{JarFault}
use Rattle.lt_jar.specs.declared.faults.JarFaultKind.{JarFaultKind}
use Rattle.lt_jar.specs.declared.faults.JarFaultKind.TheVariants as kinds
use Rattle.lt_jar.specs.declared.sources.JarSource.{JarSource}
use Rattle.lt_jar.specs.declared.sources.Status.TheVariants as state

-- the most reads that one reader may make, so that the reading ends, even of a reader that has no end
abbrev pub most_reads : ℕ
most_reads = 10000000

-- the bytes that were read and that the engine has not yet got
abbrev pub unread_in : JarSource → List ℕ
unread_in s = take (s.end - s.start) (drop s.start s.buffer)

-- the bytes that were read and belong to no line that was taken in yet: the front of a line, and what is unread
abbrev pub kept_in : JarSource → List ℕ
kept_in s = s.engine.partial.items ++ unread_in s

-- the record that was lent last
abbrev pub record_in : JarSource → List Field
record_in s = fields_in s.engine

-- how many records were lent
abbrev pub lent_by : JarSource → ℕ
lent_by s = s.engine.ended

-- the number of the line in which the kept bytes begin
abbrev pub line_of_kept : JarSource → ℕ
line_of_kept s = s.engine.line

-- the state of a reader of records that has read nothing
pub record IsFresh (s : JarSource) : Type 0 where
  pub kept : kept_in s ≡ []
  pub line : line_of_kept s ≡ 1
  pub lent : lent_by s ≡ 0
  pub turns : s.turns ≡ 0
  pub status : s.status ≡ state.Open

-- the last read of the device gave bytes, if the source made any read
abbrev pub LastGave : {R : Type 0} → JarSource → Device R → Type 0
LastGave s device = 0 < s.turns → 0 < last_given_of device

-- `reads` reads were made, which gave the bytes `read`, on average at most 65,536 each. `old` and `new` are the source
-- of records before and after them, `before` and `after` its device. `remaining` tells what the device's own reader has
-- still to give.
pub record IsRead {R : Type 0} (remaining : R → Option (List ℕ)) (old new : JarSource)
    (before after : Device R) (read : List ℕ) (reads : ℕ) : Type 0 where
  pub consumes : Consumes (remaining (inner_of before)) (remaining (inner_of after)) read
  pub calls : reads_of after ≡ after_reads (reads_of before) reads
  pub each : length read ≤ 65536 * reads
  pub turns : new.turns ≡ old.turns + reads
  pub bounded : new.turns ≤ most_reads

-- What the engine did with the bytes that it had not yet got, by its answer: it came to the end of a record, took all,
-- or came to a fault. `old` and `new` are the source before and after it.
abbrev pub TakesUnread : JarSource → JarSource → Result Bool JarFaultKind → Type 0
TakesUnread old new (Ok true) = TakesRecord old.engine new.engine (unread_in old) (unread_in new)
TakesUnread old new (Ok false) = TakesAll old.engine new.engine (unread_in old) × (new.start ≡ new.end)
TakesUnread old new (Err kind) = StopsAt old.engine new.engine (unread_in old) kind

-- What one read did, by its answer. It gave the bytes `read`, came to the end, or failed, or it was one too many, so
-- that no read was made (`reads` is 0). At the end there is a number for one line more, as `finish` asks. `old` and
-- `new` are the source, `before` and `after` its device.
abbrev pub FillsAs : {R : Type 0} → (R → Option (List ℕ)) → (old new : JarSource)
    → (before after : Device R) → List ℕ → ℕ → Result Bool JarFaultKind → Type 0
FillsAs remaining old new before after read reads (Ok true) = (unread_in new ≡ read) × (0 < length read)
    × (reads ≡ 1) × (failures_of after ≡ failures_of before) × (0 < last_given_of after)
FillsAs remaining old new before after read reads (Ok false) =
    (new.start ≡ new.end) × (read ≡ []) × IsAtEnd (remaining (inner_of after))
    × (failures_of after ≡ failures_of before) × (line_of_kept new + 1 ≤ 1 + 65536 * new.turns)
FillsAs remaining old new before after read reads (Err kind) =
    (read ≡ []) × (((kind ≡ kinds.Read) × HasFailed before after)
    ⊎ ((kind ≡ kinds.TooManyTurns) × (failures_of after ≡ failures_of before)
    × (new.turns ≡ most_reads) × (reads ≡ 0) × (last_given_of after ≡ last_given_of before)))

-- a further read of the device, unless the most reads were made already; `old` and `new` are the source before and
-- after it, `before` and `after` the device
pub record Fills {R : Type 0} (remaining : R → Option (List ℕ)) (old new : JarSource)
    (before after : Device R) (result : Result Bool JarFaultKind) : Type 0 where
  pub read : List ℕ
  pub reads : ℕ
  pub is_read : IsRead remaining old new before after read reads
  pub fills : FillsAs remaining old new before after read reads result

-- a record that the end of the text would end is no more than the 100,000th
abbrev pub HasRoom : JarSource → Type 0
HasRoom s = (going : Going) → steps (lent_by s) (going_on (record_in s)) (last_line s.engine.partial.items) ≡ Ok going
    → lent_by s + length (finished going) ≤ 100000

-- the end of the text was taken in, where a record ends if `some` is true, and none if it is false; `old` and `new` are
-- the source before and after it
pub record Finishes (old new : JarSource) (some : Bool) : Type 0 where
  pub going : Going
  pub ran : steps (lent_by old) (going_on (record_in old)) (last_line old.engine.partial.items) ≡ Ok going
  pub record_is : finished going ≡ rest_of (record_in new)
  pub with_fields : some ≡ true → (record_in new ≢ []) × (lent_by new ≡ lent_by old + 1)
  pub without : some ≡ false → (record_in new ≡ []) × (lent_by new ≡ lent_by old)
  pub line : line_of_kept new ≡ line_of_kept old + length (last_line old.engine.partial.items)
  pub used : kept_in new ≡ []
  pub turns : new.turns ≡ old.turns
  pub status : new.status ≡ state.Ended

-- What the end of the text did, by the answer of the source. It ended a record or none, or the last line has a fault.
-- `old` and `new` are the source before and after it.
abbrev pub Finished : JarSource → JarSource → Result Bool JarFaultKind → Type 0
Finished old new (Ok some) = Finishes old new some
Finished old new (Err kind) = StopsAtLast old.engine new.engine kind × (new.turns ≡ old.turns)

-- A record that a separator ends was lent. The bytes that were kept and those that were read are its lines, and then
-- the bytes that are kept. Each read gave bytes. `old` and `new` are the source, `before` and `after` its
-- device, and `reads` reads gave the bytes `read`.
pub record LendsEnded {R : Type 0} (old new : JarSource)
    (before after : Device R) (read : List ℕ) (reads : ℕ) : Type 0 where
  pub lines : List (List ℕ)
  pub cuts : CutsRecord (lent_by old) (kept_in old ++ read) (record_in new) lines (kept_in new)
  pub line : line_of_kept new ≡ line_of_kept old + length lines
  pub gave_bytes : reads ≤ length read
  pub last_gave : LastGave old before → LastGave new after
  pub status : new.status ≡ state.Open

-- The text ended. The bytes that were kept and those that were read have no fault and have these records, one or none.
-- `old` and `new` are the source, `after` is its device at the end, and `read` are the bytes that were read.
pub record LendsLast {R : Type 0} (remaining : R → Option (List ℕ)) (old new : JarSource)
    (after : Device R) (read : List ℕ) (records : List (List Field)) : Type 0 where
  pub has : HasRecords (kept_in old ++ read) records
  pub sound : IsSound (lent_by old) (kept_in old ++ read)
  pub used : kept_in new ≡ []
  pub line : line_of_kept new ≡ line_of_kept old + length (lines_of (kept_in old ++ read))
  pub end : IsAtEnd (remaining (inner_of after))
  pub status : new.status ≡ state.Ended

-- Why no record came, by the kind of fault: of the format, of memory, of the device, or all reads were made; never
-- Failed. Each names the line that was being read. `old` and `new` are the source, `before` and `after` its device, and
-- `reads` reads gave the bytes `read`.
pub record Stops {R : Type 0} (remaining : R → Option (List ℕ)) (old new : JarSource)
    (before after : Device R) (read : List ℕ) (reads : ℕ) (kind : JarFaultKind) : Type 0 where
  pub format : (fault : faults.Fault) → fault_in kind ≡ Some fault
      → (number : ℕ) × HoldsOfWhole (λ text. faults.IsTheFault (lent_by old) text fault number)
      (IsAtEnd (remaining (inner_of after))) (kept_in old ++ read)
      × (line_of_kept new + 1 ≡ line_of_kept old + number)
      × EndsNoneAbove (kept_in old ++ read) number
  pub memory : kind ≡ kinds.OutOfMemory → (number : ℕ)
      × faults.IsLineReached (lent_by old) (kept_in old ++ read) number
      × (line_of_kept new + 1 ≡ line_of_kept old + number)
  pub device : kind ≡ kinds.Read → HasFailed before after
      × ((number : ℕ) × IsCutShort (lent_by old) (kept_in old ++ read) number
      × (line_of_kept new + 1 ≡ line_of_kept old + number))
  pub all_made : kind ≡ kinds.TooManyTurns → (new.turns ≡ most_reads)
      × (reads ≤ length read) × (LastGave old before → LastGave new after)
      × ((number : ℕ) × IsCutShort (lent_by old) (kept_in old ++ read) number
      × (line_of_kept new + 1 ≡ line_of_kept old + number))
  pub first : kind ≢ kinds.Failed

-- How a call on an open source ended, by its answer: with a record, with none, or with a fault. `old` and `new` are the
-- source, `before` and `after` its device, and `reads` reads gave the bytes `read`.
abbrev pub EndsAs : {R : Type 0} → (R → Option (List ℕ)) → (old new : JarSource)
    → (before after : Device R) → List ℕ → ℕ → Result Bool JarFaultKind → Type 0
EndsAs remaining old new before after read reads (Ok true) =
    (lent_by new ≡ lent_by old + 1)
    × (LendsEnded old new before after read reads ⊎ LendsLast remaining old new after read (record_in new ∷ []))
EndsAs remaining old new before after read reads (Ok false) =
    (lent_by new ≡ lent_by old) × LendsLast remaining old new after read []
EndsAs remaining old new before after read reads (Err kind) = Stops remaining old new before after read reads kind

-- what a call on an open source did: a failure of the device is counted only where the answer is Read; `old` and `new`
-- are the source before and after it, `before` and `after` its device
pub record ReadsRecord {R : Type 0} (remaining : R → Option (List ℕ)) (old new : JarSource)
    (before after : Device R) (result : Result Bool JarFaultKind) : Type 0 where
  pub read : List ℕ
  pub reads : ℕ
  pub is_read : IsRead remaining old new before after read reads
  pub ends : EndsAs remaining old new before after read reads result
  pub rises : failures_of before < failures_of after → result ≡ Err kinds.Read
  pub works : result ≢ Err kinds.Read → failures_of after ≡ failures_of before

-- the answer of a call, without the line of its fault
abbrev pub without_line : Result Bool JarFault → Result Bool JarFaultKind
without_line (Ok some) = Ok some
without_line (Err fault) = Err fault.kind

-- What a call did. On an open source, it read on. After the text's end, it gave no record. After a fault, it answered
-- Failed, with the line of that fault. `old` and `new` are the source, `before` and `after` its device.
pub record Advances {R : Type 0} (remaining : R → Option (List ℕ)) (old new : JarSource)
    (before after : Device R) (result : Result Bool JarFault) : Type 0 where
  pub reads : old.status ≡ state.Open → ReadsRecord remaining old new before after (without_line result)
  pub fails : (fault : JarFault) → result ≡ Err fault → (new.status ≡ state.Failed) × (fault.line ≡ line_of_kept new)
  pub over : old.status ≡ state.Ended → (result ≡ Ok false) × (new.status ≡ state.Ended) × (after ≡ before)
  pub again : old.status ≡ state.Failed → (result ≡ Err (record { kind = kinds.Failed; line = line_of_kept old }))
      × (new.status ≡ state.Failed) × (after ≡ before)
