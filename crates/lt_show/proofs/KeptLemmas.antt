-- The loop of `read_draft` keeps the records that a reader lends one by one, and `read_records` answers by what was
-- kept as by the whole file. A draft has the records so far, each with the fields that `kept_fields` leaves; `lacks`
-- says that memory ran out for one.
use Rattle.std.proofs.Common.{◌≡◌, ℕ, true, false, List, [], ◌∷◌, ◌++◌, ap, sym, subst, ◌∙◌, Option, Ok, Err}
use Rattle.std.proofs.lemmas.List.{map-append}
use Rattle.lt_jar.specs.Records.{Field}
use Rattle.lt_jar.specs.Sources.{Advances, IsFresh, record_in}
use Rattle.lt_jar.specs.declared.devices.Device.{Device}
use Rattle.lt_jar.specs.declared.faults.JarFault.{JarFault}
use Rattle.lt_jar.specs.declared.sources.JarSource.{JarSource}
use Rattle.lt_registry.specs.Parts.{EntryParts}
use Rattle.lt_registry.specs.RecordRefusals.{IsRecordRefusal}
use Rattle.lt_registry.specs.Records.{HasEntries}
use Rattle.lt_registry.specs.declared.faults.RecordFault.{RecordFault}
use Rattle.lt_registry.specs.declared.faults.RegistryFault.TheVariants as registry_faults
use Rattle.lt_registry.proofs.ReadingLaws.{HasReadSoFar, read_ended, read_more, read_none, read_stops}
use Rattle.lt_show.specs.Fields.{kept_fields}
use Rattle.lt_show.specs.Kept.{HasKept, Keeps, ReadsDraft}
use Rattle.lt_show.specs.Reading.{ReadsRecords}
use Rattle.lt_show.specs.declared.reading.Draft.{Draft}
use Rattle.lt_show.specs.declared.reading.RecordsFault.TheVariants as faults
use Rattle.lt_show.proofs.NeededLemmas.{entries_kept, refusal_kept}

-- before the first record: the reader `s` has lent none, and the draft `d` has none, so `d` has kept what was read so
-- far
pub kept_none : {R : Type 0} (remaining : R → Option (List ℕ)) (s : JarSource) (device : Device R) (d : Draft)
    → IsFresh s → d.records.items ≡ [] → HasReadSoFar remaining s s device device (HasKept d)
kept_none remaining s device d fresh records = read_none remaining s device (HasKept d) fresh (λ _. records)

-- A record more is lent by the reader, which was `first` when the reading began, and goes from `old` to `new`; the
-- draft `d` takes it and becomes `e`. `before`, `now` and `after` are the device at these three times.
pub kept_more : {R : Type 0} (remaining : R → Option (List ℕ)) (first old new : JarSource) (before now after : Device
    R) (d e : Draft) → HasReadSoFar remaining first old before now (HasKept d)
    → Advances remaining old new now after (Ok true) → Keeps (record_in new) d e → HasReadSoFar remaining first new before after (HasKept e)
kept_more remaining first old new before now after d e so advances takes =
    read_more remaining first old new before now after (HasKept d) (HasKept e) so advances
    (λ records kept full. let more = takes full in
    more.more ∙ ap (λ (l : List (List Field)). l ++ kept_fields (record_in new) ∷ []) (kept more.before)
    ∙ sym (map-append kept_fields records (record_in new ∷ [])))

-- The text has ended, so the draft `d`, which has kept the records so far, is the answer. `first`, `old` and `new` are
-- the reader as the reading began, before this call and after it; `before`, `now` and `after` are the device at these
-- times.
pub kept_ended : {R : Type 0} (remaining : R → Option (List ℕ)) (first old new : JarSource) (before now after : Device
    R) (d : Draft) → HasReadSoFar remaining first old before now (HasKept d)
    → Advances remaining old new now after (Ok false) → ReadsDraft remaining before after (Ok d)
unfolding ReadsDraft
kept_ended remaining first old new before now after d so advances =
    read_ended remaining first old new before now after (HasKept d) _ _ so advances
    (λ bytes reads records whole kept. (records, whole, kept))

-- The reader answers a fault, which is the answer of the reading too. `first`, `old` and `new` are the reader as the
-- reading began, before this call and after it; `before`, `now` and `after` are the device at these times.
pub kept_stops : {R : Type 0} (remaining : R → Option (List ℕ)) (first old new : JarSource) (before now after : Device
    R) (d : Draft) (fault : JarFault) → HasReadSoFar remaining first old before now (HasKept d)
    → Advances remaining old new now after (Err fault) → ReadsDraft remaining before after (Err fault)
unfolding ReadsDraft
kept_stops remaining first old new before now after d fault so advances = read_stops remaining first old new before now
    after (HasKept d) _ _ fault so advances (λ bytes reads is. is) (λ is. is)

-- if what was kept of a file gives these entries, so do its records, and `read_records` may answer both
pub read_kept : {R : Type 0} (remaining : R → Option (List ℕ)) (before after : Device R) (d : Draft) (es : List
    EntryParts) → ReadsDraft remaining before after (Ok d) → d.lacks ≡ false → HasEntries d.records.items es
    → ReadsRecords remaining before after (Ok (es, d.records.items))
unfolding ReadsDraft ReadsRecords
read_kept remaining before after d es r full has =
    let a = r.answers in
    let same = a.2 full in
    record {
      bytes = r.bytes;
      reads = r.reads;
      consumes = r.consumes;
      calls = r.calls;
      bounded = r.bounded;
      each = r.each;
      answers = (a.0, a.1, entries_kept a.0 es (subst (λ (l : List (List Field)). HasEntries l es) same has), same);
      rises = r.rises;
    }

-- if what was kept of a file is refused with this fault, so are its records, and `read_records` may answer that
pub read_refused : {R : Type 0} (remaining : R → Option (List ℕ)) (before after : Device R) (d : Draft) (fault
    : RecordFault) → ReadsDraft remaining before after (Ok d) → d.lacks ≡ false → IsRecordRefusal d.records.items fault
    → ReadsRecords remaining before after (Err (faults.Registry (registry_faults.Record fault)))
unfolding ReadsDraft ReadsRecords
read_refused remaining before after d fault r full refuses =
    let a = r.answers in
    record {
      bytes = r.bytes;
      reads = r.reads;
      consumes = r.consumes;
      calls = r.calls;
      bounded = r.bounded;
      each = r.each;
      answers = (a.0, a.1, refusal_kept a.0 fault (subst (λ (l : List (List Field)). IsRecordRefusal l fault) (a.2 full) refuses));
      rises = r.rises;
    }
