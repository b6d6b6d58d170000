use Rattle.std.proofs.Common.{length}
use Rattle.lt_canon.proofs.LinesLeft.{HasGiven}
use Rattle.lt_canon.proofs.explanation_texts.explanation_text.Given as goal

-- the lines so far were given
abbrev pub invariant-loop-lines : goal.invariant-loop-lines
invariant-loop-lines g l = HasGiven l.initial.left l.left l.lines.items

-- a turn gives the line of one of the steps that are left
abbrev pub decreases-loop-lines : goal.decreases-loop-lines
decreases-loop-lines g l = length l.left.steps
