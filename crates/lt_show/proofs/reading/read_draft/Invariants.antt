use Rattle.std.proofs.Common.{◌≡◌, ◌-◌}
use Rattle.lt_jar.specs.Limits.{most_records}
use Rattle.lt_jar.specs.Sources.{lent_by}
use Rattle.lt_registry.proofs.ReadingLaws.{HasReadSoFar}
use Rattle.lt_show.specs.Kept.{HasKept}
use Rattle.lt_show.proofs.reading.read_draft.Given as goal

-- the reader's device is the same as before the loop, and the draft has kept the records that were lent so far
abbrev pub invariant-records : goal.invariant-records
invariant-records g l =
    (l.reader.device.ghost_name ≡ l.initial.reader.device.ghost_name)
    × HasReadSoFar g.R.Read.remaining l.initial.reader.source l.reader.source l.fn.device l.reader.device.now (HasKept l.draft)

-- so it ends: each turn but the last lends one record more, of at most `most_records`
abbrev pub decreases-records : goal.decreases-records
decreases-records g l = most_records - lent_by l.reader.source
