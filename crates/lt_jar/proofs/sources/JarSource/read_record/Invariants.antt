use Rattle.std.proofs.Common.{◌-◌}
use Rattle.lt_jar.specs.Sources.{most_reads, unread_in}
use Rattle.lt_jar.proofs.SourceLemmas.{SourceTurn}
use Rattle.lt_jar.proofs.sources.JarSource.read_record.Given as goal

-- the lines of what was read were gone over, up to what is left for the engine, and none of them ended the record
abbrev pub invariant-loop-self : goal.invariant-loop-self
invariant-loop-self g l = SourceTurn g.R.Read.remaining l.fn.self l.self l.fn.device l.device (unread_in l.self)

-- the reads that may still be made get fewer with each turn, so the loop ends
abbrev pub decreases-loop-self : goal.decreases-loop-self
decreases-loop-self g l = most_reads - l.self.turns
