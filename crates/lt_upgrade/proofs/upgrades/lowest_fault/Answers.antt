use Rattle.lt_check.proofs.FirstFaults.{item_at}
use Rattle.lt_upgrade.proofs.UpgradeChecks.{lowest_of}
use Rattle.lt_upgrade.proofs.upgrades.lowest_fault.Goals as goal

-- the number is the lowest of a record that fails the condition: all records before meet it, and later ones have higher
-- numbers
pub returns-then-not-branch : goal.returns-then-not-branch
returns-then-not-branch g c =
    let found = c.records_of-entry-items in
    let at = item_at found.result.now _ c.loop-entry.entry-index c.entry-item.result found.ensures.value
    c.loop-entry-test.true c.entry-item.is in
    lowest_of _ _ c.args.condition c.loop-entry.entry-index c.entry-item.result c.number.result
    (rw found.ensures.value at found.ensures.rising) at c.number.ensures.value c.loop-entry.invariant
    (λ met. cc (c.in_ok-meets.ensures.1 met, c.if-not-branch.true))
