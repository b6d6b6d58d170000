use Rattle.lt_show.proofs.KeptLemmas.{read_kept, read_refused}
use Rattle.lt_show.proofs.reading.read_records.Goals as goal

-- the clause `ReadsRecords` of a registry: the fields that are kept give these entries, so the whole records do
pub returns-in-Ok-from_records : goal.returns-in-Ok-from_records
returns-in-Ok-from_records g c =
    read_kept g.R.Read.remaining c.args.device.now c.read_draft.new.device c.in-Ok.draft c.in-Ok-from_records.registry
    c.in-Ok.ensures c.if-lacks.false (rw c.deref.ensures.value at c.in-Ok-from_records.ensures.ok)

-- the same of a record's fault: the fields that are kept are refused with this fault, so the whole records are
pub returns-in-Err-from_records : goal.returns-in-Err-from_records
returns-in-Err-from_records g c =
    read_refused g.R.Read.remaining c.args.device.now c.read_draft.new.device c.in-Ok.draft c.in-Err-from_records.fault
    c.in-Ok.ensures c.if-lacks.false (rw c.deref.ensures.value at c.in-Err-from_records.ensures.err)
