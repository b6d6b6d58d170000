use denote.Shadow.{shadow}
use denote.Text.{Utf8}
use Rattle.std.proofs.Common.{length}
use Rattle.lt_jar.proofs.TurnLemmas.{PieceTurn}
use Rattle.lt_jar.proofs.engine.Engine.take_text.Given as goal

-- the lines before the rest were taken, none of them ends the record, and the rest is UTF-8
abbrev pub invariant-loop-line : goal.invariant-loop-line
invariant-loop-line l = PieceTurn l.fn.self l.self l.piece l.rest × shadow (Utf8 l.rest)

-- the bytes that are left get fewer with each turn, so the loop ends
abbrev pub decreases-loop-line : goal.decreases-loop-line
decreases-loop-line l = length l.rest
