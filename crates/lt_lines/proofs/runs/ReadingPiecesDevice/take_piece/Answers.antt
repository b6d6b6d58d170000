use Rattle.std.proofs.lemmas.Result.{err_from_is_err_and}
use Rattle.lt_lines.proofs.RunLemmas.{reading_more, reading_room, reading_stops}
use Rattle.lt_lines.proofs.runs.ReadingPiecesDevice.take_piece.Goals as goal

-- what `Marked::take_piece` requires: fewer than 2 to the 63 bytes were read with this piece, so there is room for its
-- lines
pub take_piece-requires : goal.take_piece-requires
take_piece-requires g c = let r = c.requires in reading_room _ _ r.start _ r.read _ _ r.taken.1 r.few

-- what `Pieces` promises where the piece ended the run by a fault, StopsReading
pub returns-in_err-take_piece : goal.returns-in_err-take_piece
returns-in_err-take_piece g c =
    let p = err_from_is_err_and c.from_residual.result c.from_residual.ensures.1 in
    rw (p.1, p.2) (λ first start read t. reading_stops _ _ start _ _ read _ _ _ t.1 _ t.0 _ c.in_err-take_piece.ensures)

-- what `Pieces` promises where the run goes on, IsReading: the piece was taken, and is read after the bytes before it
pub returns : goal.returns
returns g c = λ first start read t. (t.0, reading_more _ _ start _ _ read _ _ _ t.1 _ t.0 c.in_ok-take_piece.ensures)
