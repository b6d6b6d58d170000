use Rattle.lt_check.proofs.FirstFaults.{item_at, found_fault}
use Rattle.lt_check.proofs.checking.first_failing.Goals as goal

-- the record that is named is the lowest at fault: all entries before meet the condition, and later ones have higher
-- numbers
pub returns-then-not-meets : goal.returns-then-not-meets
returns-then-not-meets g c =
    let at = item_at _ _ _ _ c.entries-entry-items.ensures.value c.loop-entry-test.true c.entry-item.is in
    found_fault _ c.entries-entry-items.ensures.rising c.args.condition _ _ _ at c.number-number.ensures.value c.loop-entry.invariant
    (λ met. cc (c.if-not-meets.true, c.meets.ensures.1 met))
