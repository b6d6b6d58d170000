use Rattle.std.proofs.Common.{length}
use Rattle.lt_jar.proofs.TurnLemmas.{PieceTurn}
use Rattle.lt_jar.proofs.engine.Engine.take.Given as goal

-- the lines of the piece before the rest were taken, and none of them ends the record
abbrev pub invariant-loop-line : goal.invariant-loop-line
invariant-loop-line l = PieceTurn l.fn.self l.self l.piece l.rest

-- the bytes that are left get fewer with each turn, so the loop ends
abbrev pub decreases-loop-line : goal.decreases-loop-line
decreases-loop-line l = length l.rest
