use Rattle.std.proofs.Common.{ap, arith, length, length-append, refl}
use Rattle.lt_stream.proofs.TextLemmas.{room_less}
use Rattle.lt_stream.proofs.texts.Text.begin.Goals as goal

-- what `take_piece` of the lines requires: the text after the mark is no longer than the first bytes, for which `begin`
-- itself requires room
pub take_piece-requires : goal.take_piece-requires
take_piece-requires g c =
    room_less _ _ _ _ _
    (omega (
      arith,
      ap length c.split_mark.ensures.whole,
      length-append c.split_mark.result.0.now
          c.split_mark.result.1.now,
      ap length c.deref.ensures.value,
    )) c.requires

-- the clause `Begins`: the first bytes are a mark or none, and then a text, which is taken as lines
pub returns : goal.returns
returns g c = record {
  mark = c.split_mark.result.0.now;
  text = c.split_mark.result.1.now;
  split = rw c.deref.ensures.value at c.split_mark.ensures;
  begun = refl;
  takes = c.take_piece.ensures;
}
