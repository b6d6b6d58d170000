use Rattle.std.proofs.Common.{length}
use Rattle.lt_tag.specs.Splitting.{fields_of}
use Rattle.lt_tag.proofs.SplitLemmas.{AreFields}
use Rattle.lt_tag.proofs.splitting.read_fields.Given as goal

-- the fields so far and those of what is left are all
abbrev pub invariant-loop-separator : goal.invariant-loop-separator
invariant-loop-separator l = AreFields (fields_of l.fn.subtags) l.fields.items l.rest

-- the subtags that are left get fewer with each turn, so the loop ends
abbrev pub decreases-loop-separator : goal.decreases-loop-separator
decreases-loop-separator l = length l.rest
