use Rattle.std.proofs.Common.{ap}
use Rattle.lt_upgrade.proofs.upgrades.meets.Goals as goal

-- true exactly if the record meets the condition: the test tells so of U2
pub returns-in-SameEnds : goal.returns-in-SameEnds
returns-in-SameEnds g c = rw (c.in-SameEnds.is, ← ap g.B.Lookup.listed c.table-table.ensures.value) c.keeps_ends.ensures

-- the same of U6
pub returns-in-SameWhole : goal.returns-in-SameWhole
returns-in-SameWhole g c = rw c.in-SameWhole.is c.keeps_whole.ensures
