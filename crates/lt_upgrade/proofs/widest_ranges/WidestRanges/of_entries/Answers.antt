use Rattle.lt_upgrade.proofs.RangeCoverage.{rows_hold}
use Rattle.lt_upgrade.proofs.widest_ranges.WidestRanges.of_entries.Goals as goal

-- What is made are the ranges of the entries: the widest hold just what all ranges of the entries hold, and that is
-- what the entries cover.
pub returns : goal.returns
returns c kind first last one = rw (c.of_rows.ensures, c.in_ok-rows.ensures {u = tt})
    (rows_hold c.args.entries.now c.requires kind first last one)
