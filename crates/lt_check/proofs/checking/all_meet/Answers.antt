use Rattle.lt_check.specs.Checking.{MeetsByRecord}
use Rattle.lt_check.proofs.FirstFaults.{all_met, before_more, item_at}
use Rattle.lt_check.proofs.Judging.{bare_meets, meets_by_record}
use Rattle.lt_check.proofs.checking.all_meet.Goals as goal
use Rattle.lt_check.proofs.checking.all_meet.Goals.{else-not-is_bare-via-then-not-is_bare+else-not-meets_each}
use Rattle.lt_check.proofs.checking.all_meet.Goals.{else-not-is_bare-via-else-not-is_bare}

-- a turn has one entry more: a bare one meets each of these conditions, any other was looked at
pub loop-entry-preserved : goal.loop-entry-preserved
loop-entry-preserved g c = λ condition is.
    let R = g.L.Lookup.listed c.args.table.now in
    let e = c.entry-item.result in
    let at = item_at _ R _ e c.entries-entry-items.ensures.value c.loop-entry-test.true c.entry-item.is in
    let met : MeetsByRecord R e = elim c.else-not-is_bare.branch [
      | else-not-is_bare-via-then-not-is_bare+else-not-meets_each w ↦ w.meets_each.ensures w.if-not-meets_each.false
      | else-not-is_bare-via-else-not-is_bare w ↦ bare_meets R e (c.is_bare.ensures w.if-not-is_bare.false)
    ] in
    before_more R condition _ e at (c.loop-entry.invariant condition is) (meets_by_record R e met condition is)

-- no entry is left, so all entries meet each of these conditions
pub returns : goal.returns
returns g c = λ _ condition is. all_met _ _ condition _ c.entries-entry-items.ensures.value c.loop-entry-test.false
    (c.loop-entry.invariant condition is)
