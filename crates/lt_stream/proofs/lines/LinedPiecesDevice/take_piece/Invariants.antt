use Rattle.std.proofs.Common.{length}
use Rattle.lt_stream.proofs.LineRunLemmas.{PieceTurn}
use Rattle.lt_stream.proofs.lines.LinedPiecesDevice.take_piece.Given as goal

-- the lines of the piece that come before `rest` are answered, as PieceTurn says of them
abbrev pub invariant-loop-line : goal.invariant-loop-line
invariant-loop-line g l = PieceTurn g.A.Lines.answered g.A.Lines.longest g.W.Write.contents l.piece l.rest l.fn.output
    l.output l.fn.self l.self

-- so it ends: each turn leaves less of the piece
abbrev pub decreases-loop-line : goal.decreases-loop-line
decreases-loop-line g l = length l.rest
