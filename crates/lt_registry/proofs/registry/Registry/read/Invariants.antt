use Rattle.std.proofs.Common.{◌≡◌, ◌-◌}
use Rattle.lt_jar.specs.Limits.{most_records}
use Rattle.lt_jar.specs.Sources.{lent_by}
use Rattle.lt_registry.proofs.ReadingLaws.{HasReadSoFar}
use Rattle.lt_registry.proofs.EntryLaws.{IsDraftOf}
use Rattle.lt_registry.proofs.registry.Registry.read.Given as goal

-- the reader has the device that it was given, which did not fail so far, and the draft is made of the records that
-- were lent
abbrev pub invariant-records : goal.invariant-records
invariant-records g l =
    (l.reader.device.ghost_name ≡ l.initial.reader.device.ghost_name)
    × HasReadSoFar g.R.Read.remaining l.initial.reader.source l.reader.source l.fn.device l.reader.device.now (IsDraftOf l.draft)

-- the loop ends, since a turn takes one record more, and the reader lends no more than `most_records`
abbrev pub decreases-records : goal.decreases-records
decreases-records g l = most_records - lent_by l.reader.source
