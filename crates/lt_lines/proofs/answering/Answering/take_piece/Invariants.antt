use Rattle.std.proofs.Common.{length}
use Rattle.lt_lines.specs.Looks.{IsKnownToLack}
use Rattle.lt_lines.specs.Owed.{ground_of, terms}
use Rattle.lt_lines.proofs.PieceLemmas.{PieceTurn}
use Rattle.lt_lines.proofs.answering.Answering.take_piece.Given as goal

-- the piece before the rest was taken, and the bytes that the piece is known to lack are not in the rest
abbrev pub invariant-loop-line : goal.invariant-loop-line
invariant-loop-line g l = PieceTurn (terms (ground_of g.L.Lookup.listed l.basis) l.form) g.W.Write.contents l.piece
    l.rest l.fn.self l.self l.fn.output l.output
    × IsKnownToLack l.rest l.lacks

-- so it ends: each turn leaves less of the piece
abbrev pub decreases-loop-line : goal.decreases-loop-line
decreases-loop-line g l = length l.rest
