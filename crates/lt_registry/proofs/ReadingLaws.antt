-- What a loop that takes one record of a reader after another knows at each turn and at its end, whatever it makes of
-- the records: `IsMade` says what this is. `remaining` is what a device has left to read; `first` is the reader at the
-- start, `old` and `new` are it before and after a call; `before` is the device at the start, `now` and `after` are it
-- before and after that call.
use Rattle.std.proofs.Common.{◌≡◌, ℕ, ◌+◌, ◌<◌, ◌≤◌, true, false, List, [], ◌∷◌, ◌++◌, length, Option, refl, sym, ◌∙◌}
use Rattle.std.proofs.Common.{arith, ◌⊎◌, inl, inr, subst, length-append, Ok, Err, append-nil}
use Rattle.std.specs.Io.KnownBytes.{IsAtEnd}
use Rattle.std.proofs.KnownBytes.{Consumes-nil}
use Rattle.lt_jar.specs.Records.{Field, HasRecords}
use Rattle.lt_jar.specs.Devices.{failures_of, greatest_count, inner_of}
use Rattle.lt_jar.specs.Lines.{HoldsOfWhole}
use Rattle.lt_jar.specs.Faults.{IsLineReached, IsTheFault}
use Rattle.lt_jar.specs.Lending.{BreaksOff, IsSound}
use Rattle.lt_jar.specs.LentSoFar.{HasLent}
use Rattle.lt_jar.specs.Sources.{Advances, IsFresh, IsRead, LastGave, LendsEnded, LendsLast, ReadsRecord, lent_by, line_of_kept, record_in}
use Rattle.lt_jar.specs.declared.devices.Device.{Device}
use Rattle.lt_jar.specs.declared.faults.JarFault.{JarFault}
use Rattle.lt_jar.specs.declared.faults.JarFaultKind.TheVariants as jars
use Rattle.lt_jar.specs.declared.sources.JarSource.{JarSource}
use Rattle.lt_jar.specs.declared.sources.Status.TheVariants as state
use Rattle.lt_jar.proofs.LentLemmas.{lent_cut, lent_fault, lent_last, lent_more, lent_reached, lent_start}
use Rattle.lt_jar.proofs.RestLemmas.{lent_within}
use Rattle.lt_jar.proofs.SourceLemmas.{more_read}
use Rattle.lt_registry.specs.ReadRegistry.{IsJarRefusal, IsReadWhole, Reads}

-- where a reader is whose reads gave `bytes`, of which it lent `records`: the text goes on, or it has ended and the
-- device is at its end
abbrev Stands : {R : Type 0} → (R → Option (List ℕ)) → Device R → JarSource → List ℕ → ℕ → List (List Field) → Type 0
Stands remaining now s bytes reads records =
    ((s.status ≡ state.Open) × HasLent bytes records s × (reads ≤ length bytes) × LastGave s now)
    ⊎ ((s.status ≡ state.Ended) × HasRecords bytes records × IsSound 0 bytes × IsAtEnd (remaining (inner_of now)))

-- from `first` to `now` the reader has lent some records and the device, from `before` to `after`, did not fail;
-- `IsMade` is true of these records
pub record HasReadSoFar {R : Type 0} (remaining : R → Option (List ℕ)) (first now : JarSource) (before after : Device R)
    (IsMade : List (List Field) → Type 0) : Type 0 where
  pub bytes : List ℕ
  pub reads : ℕ
  pub records : List (List Field)
  pub none : first.turns ≡ 0
  pub is_read : IsRead remaining first now before after bytes reads
  pub failures : failures_of after ≡ failures_of before
  pub lent : lent_by now ≡ length records
  pub made : IsMade records
  pub stands : Stands remaining after now bytes reads records

-- a reader that has just begun has lent no record
pub read_none : {R : Type 0} (remaining : R → Option (List ℕ)) (s : JarSource) (device : Device
    R) (IsMade : List (List Field) → Type 0) → IsFresh s → IsMade []
    → HasReadSoFar remaining s s device device IsMade
read_none remaining s device IsMade fresh made = record {
  bytes = [];
  reads = 0;
  records = [];
  none = fresh.turns;
  is_read = record {
    consumes = Consumes-nil _;
    calls = refl;
    each = omega arith;
    turns = omega arith;
    bounded = omega (arith, fresh.turns);
  };
  failures = refl;
  lent = fresh.lent;
  made = made;
  stands = inl (fresh.status, lent_start fresh, omega arith, λ some. absurd (omega (arith, some, fresh.turns)));
}

-- after a call that lent a record more, `IsNext` is true of all records lent, if that follows from `IsMade` of those
-- before
pub read_more : {R : Type 0} (remaining : R → Option (List ℕ)) (first old new : JarSource) (before now after : Device
    R) (IsMade IsNext : List (List Field) → Type 0) → HasReadSoFar remaining first old before now IsMade
    → Advances remaining old new now after (Ok true)
    → ((records : List (List Field)) → IsMade records → IsNext (records ++ record_in new ∷ []))
    → HasReadSoFar remaining first new before after IsNext
read_more {R} remaining first old new before now after IsMade IsNext so advances takes = by_stand so.stands
  where
    by_end : (lent : HasLent so.bytes so.records old) → so.reads ≤ length so.bytes → LastGave old now
        → (r : ReadsRecord remaining old new now after (Ok true)) → LendsEnded old new now after r.read r.reads
        ⊎ LendsLast remaining old new after r.read (record_in new ∷ [])
        → lent_by new ≡ lent_by old + 1
        → Stands remaining after new (so.bytes ++ r.read) (so.reads + r.reads) (so.records ++ record_in new ∷ [])
    by_end lent gave last r (inl ended) count = inl (
      ended.status,
      lent_more lent ended count,
      omega (arith, gave, ended.gave_bytes, length-append so.bytes r.read),
      ended.last_gave last,
    )
    by_end lent gave _ r (inr last) count = let all = lent_last lent last in inr (last.status, all.0, all.1, last.end)

    by_stand : Stands remaining now old so.bytes so.reads so.records → HasReadSoFar remaining first new before after IsNext
    by_stand (inl goes) =
        let r = advances.reads goes.0 in
        let count = r.ends.0 in
        record {
          bytes = so.bytes ++ r.read;
          reads = so.reads + r.reads;
          records = so.records ++ record_in new ∷ [];
          none = so.none;
          is_read = more_read remaining first old new before now after so.bytes r.read so.reads r.reads so.is_read r.is_read;
          failures = r.works (λ is. cc) ∙ so.failures;
          lent = omega (arith, count, so.lent, length-append so.records (record_in new ∷ []));
          made = takes so.records so.made;
          stands = by_end goes.1 goes.2 goes.3 r r.ends.1 count;
        }
    by_stand (inr ended) = absurd (let over = (advances.over ended.0).0 in cc)

-- reads that gave some bytes without a failure, of which `Answers` is true, are a reading (`Reads`)
whole_reads : {R : Type 0} (remaining : R → Option (List ℕ)) (first last : JarSource) (before after : Device
    R) (Answers : Device R → Device R → List ℕ → ℕ → Type 0) (IsFailure : Type 0) (bytes : List ℕ) (reads : ℕ)
    → first.turns ≡ 0
    → IsRead remaining first last before after bytes reads → failures_of after ≡ failures_of before
    → Answers before after bytes reads → Reads remaining before after Answers IsFailure
whole_reads remaining first last before after Answers IsFailure bytes reads none is works answers = record {
  bytes = bytes;
  reads = reads;
  consumes = is.consumes;
  calls = is.calls;
  bounded = omega (arith, is.turns, is.bounded, none);
  each = is.each;
  answers = answers;
  rises = λ more. absurd (omega (arith, more, works));
}

-- after a call that found the end of the text, the reading answers what follows from `IsMade` of all its records
pub read_ended : {R : Type 0} (remaining : R → Option (List ℕ)) (first old new : JarSource)
    (before now after : Device R) (IsMade : List (List Field) → Type 0) (Answers : Device R → Device R → List ℕ → ℕ
    → Type 0) (IsFailure : Type 0)
    → HasReadSoFar remaining first old before now IsMade → Advances remaining old new now after (Ok false)
    → ((bytes : List ℕ) (reads : ℕ) (records : List (List Field)) → IsReadWhole remaining before after bytes records
    → IsMade records → Answers before after bytes reads) → Reads remaining before after Answers IsFailure
read_ended {R} remaining first old new before now after IsMade Answers IsFailure so advances answers = by_stand so.stands
  where
    by_stand : Stands remaining now old so.bytes so.reads so.records → Reads remaining before after Answers IsFailure
    by_stand (inl goes) =
        let r = advances.reads goes.0 in
        let last = r.ends.1 in
        let all = lent_last goes.1 last in
        let bytes = so.bytes ++ r.read in
        let has : HasRecords bytes so.records = subst (HasRecords bytes) (append-nil so.records) all.0 in
        let works : failures_of after ≡ failures_of before = r.works (λ is. cc) ∙ so.failures in
        let whole : IsReadWhole remaining before after bytes so.records = record
        { has = has; within = lent_within has all.1; end = last.end; works = works } in
        whole_reads remaining first new before after Answers IsFailure bytes (so.reads + r.reads) so.none
        (more_read remaining first old new before now after so.bytes r.read so.reads r.reads so.is_read r.is_read) works
        (answers bytes (so.reads + r.reads) so.records whole so.made)
    by_stand (inr ended) =
        let same = sym (advances.over ended.0).2 in
        let here : IsReadWhole remaining before now so.bytes so.records = record
        { has = ended.1; within = lent_within ended.1 ended.2; end = ended.3; works = so.failures } in
        let whole : IsReadWhole remaining before after so.bytes so.records = subst
        (λ (z : Device R). IsReadWhole remaining before z so.bytes so.records) same here in
        whole_reads remaining first old before after Answers IsFailure so.bytes so.reads so.none
        (subst (λ (z : Device R). IsRead remaining first old before z so.bytes so.reads) same so.is_read) whole.works
        (answers so.bytes so.reads so.records whole so.made)

-- after a call that answered a fault, the reading answers what follows from that; if a read failed, `IsFailure` is true
pub read_stops : {R : Type 0} (remaining : R → Option (List ℕ)) (first old new : JarSource)
    (before now after : Device R) (IsMade : List (List Field) → Type 0) (Answers : Device R → Device R → List ℕ → ℕ
    → Type 0) (IsFailure : Type 0) (fault : JarFault)
    → HasReadSoFar remaining first old before now IsMade → Advances remaining old new now after (Err fault)
    → ((bytes : List ℕ) (reads : ℕ) → IsJarRefusal remaining before after bytes reads fault
    → Answers before after bytes reads) → (fault.kind ≡ jars.Read → IsFailure)
    → Reads remaining before after Answers IsFailure
read_stops {R} remaining first old new before now after IsMade Answers IsFailure fault so advances answers fails = by_stand so.stands
  where
    -- the line of the fault is the one that the reader keeps
    line : fault.line ≡ line_of_kept new
    line = (advances.fails fault refl).1

    -- the fault of the last call is that of all bytes that were read
    refusal : (lent : HasLent so.bytes so.records old) → so.reads ≤ length so.bytes → LastGave old now
        → (r : ReadsRecord remaining old new now after (Err fault.kind))
        → IsJarRefusal remaining before after (so.bytes ++ r.read) (so.reads + r.reads) fault
    refusal lent gave last r =
        let stops = r.ends in
        let text = so.bytes ++ r.read in
        record {
          format = λ kind is.
              let there = stops.format kind is in
              subst (λ n. HoldsOfWhole (λ t. IsTheFault 0 t kind n) (IsAtEnd (remaining (inner_of after))) text)
              (sym line) (lent_fault r.read new lent there.1 there.2);
          memory = λ is. let there = stops.memory is in
              subst (IsLineReached 0 text) (sym line) (lent_reached r.read new lent there.1 there.2);
          device = λ is.
              let there = stops.device is in (
                subst (λ (n : ℕ). (n < failures_of after) ⊎ (failures_of after ≡ greatest_count)) so.failures there.0,
                subst (BreaksOff 0 text) (sym line) (lent_cut r.read new lent there.1.1 there.1.2),
              );
          all_made = λ is.
              let there = stops.all_made is in (
                omega (arith, there.0, r.is_read.turns, so.is_read.turns, so.none),
                omega (arith, there.1, gave, length-append so.bytes r.read),
                there.2 last (omega (arith, there.0)),
                subst (BreaksOff 0 text) (sym line) (lent_cut r.read new lent there.3.1 there.3.2),
              );
          first = stops.first;
        }

    by_stand : Stands remaining now old so.bytes so.reads so.records → Reads remaining before after Answers IsFailure
    by_stand (inl goes) =
        let r = advances.reads goes.0 in
        let all = more_read remaining first old new before now after so.bytes r.read so.reads r.reads so.is_read r.is_read in
        record {
          bytes = so.bytes ++ r.read;
          reads = so.reads + r.reads;
          consumes = all.consumes;
          calls = all.calls;
          bounded = omega (arith, all.turns, all.bounded, so.none);
          each = all.each;
          answers = answers (so.bytes ++ r.read) (so.reads + r.reads) (refusal goes.1 goes.2 goes.3 r);
          rises = λ more. let failed = r.rises (omega (arith, more, so.failures)) in fails cc;
        }
    by_stand (inr ended) = absurd (let over = (advances.over ended.0).0 in cc)
