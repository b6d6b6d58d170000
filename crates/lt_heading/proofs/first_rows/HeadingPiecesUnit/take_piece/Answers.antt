use Rattle.std.proofs.Common.{refl}
use Rattle.lt_heading.proofs.ReadLemmas.{piece_taken}
use Rattle.lt_heading.proofs.first_rows.HeadingPiecesUnit.take_piece.Goals as goal

-- what `FirstRow::take_piece` requires: the bytes so far don't end the first row, as IsTaken says of a run so far
pub take_piece-requires : goal.take_piece-requires
take_piece-requires c = let r = c.requires in rw r.taken.separator r.taken.going

-- what `Pieces` promises of a piece: IsTaken with it read too, or StopsPieces, since it was taken after the bytes
-- before it
pub returns : goal.returns
returns c = piece_taken c.args.piece.now c.args.self.now _ refl c.take_piece.result c.take_piece.ensures
