use Rattle.std.proofs.Common.{length}
use Rattle.lt_answers.proofs.FollowingLemmas.{PieceTurn}
use Rattle.lt_answers.proofs.following.Following.take_piece.Given as goal

-- the lines before the rest were judged, and the verdict is left to the bytes from there on
abbrev pub invariant-loop-part : goal.invariant-loop-part
invariant-loop-part g l = PieceTurn (g.L.Lookup.listed l.table) l.piece l.rest l.fn.self l.self

-- so it ends: each turn leaves less of the piece
abbrev pub decreases-loop-part : goal.decreases-loop-part
decreases-loop-part g l = length l.rest
