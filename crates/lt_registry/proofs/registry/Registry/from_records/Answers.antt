use Rattle.lt_registry.proofs.EntryLaws.{made_none, made_next}
use Rattle.lt_registry.proofs.registry.Registry.from_records.Goals as goal

-- the invariant is true at first: no record is read, and there is no entry
pub loop-index-init : goal.loop-index-init
loop-index-init c = made_none c.args.records.now c.new-entries.result.items c.new-entries.ensures.items

-- the invariant stays true: a turn adds the entry of one record more, or nothing for the header, and this record has no
-- fault either
pub loop-index-preserved : goal.loop-index-preserved
loop-index-preserved c =
    made_next c.args.records.now c.loop-index.index c.index-records-index.result c.loop-index.entries.items
    c.add_record.new.entries.items c.loop-index-test.true c.index-records-index.is
    (rw (← c.fields.ensures) c.in_ok-add_record.ensures.ok) c.loop-index.invariant
