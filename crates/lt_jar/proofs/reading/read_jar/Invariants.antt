use Rattle.std.proofs.Common.{length}
use Rattle.lt_jar.proofs.RestLemmas.{TextTurn}
use Rattle.lt_jar.proofs.reading.read_jar.Given as goal

-- the records before the rest of the text were read, and nothing is wrong with their lines
abbrev pub invariant-loop-after : goal.invariant-loop-after
invariant-loop-after l = TextTurn l.text l.rest l.records.items l.engine

-- the bytes that are left get fewer with each turn, so the loop ends
abbrev pub decreases-loop-after : goal.decreases-loop-after
decreases-loop-after l = length l.rest
