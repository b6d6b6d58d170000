use Rattle.std.proofs.Common.{length}
use Rattle.lt_heading.proofs.TakenLemmas.{TextTurn}
use Rattle.lt_heading.proofs.first_rows.take_text.Given as goal

-- the piece before the rest was appended to the text, which is one row so far
abbrev pub invariant-loop-part : goal.invariant-loop-part
invariant-loop-part l = TextTurn l.separator l.fn.text.items l.piece l.text.items l.place l.rest

-- so it ends: each turn leaves less of the piece
abbrev pub decreases-loop-part : goal.decreases-loop-part
decreases-loop-part l = length l.rest
