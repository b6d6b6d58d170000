use Rattle.lt_rows.proofs.LaneLemmas.{bits_of_front}
use Rattle.lt_rows.proofs.lanes.bits_in.Goals as goal

-- the clause: of the bits for 64 bytes those of the first `count` bytes, which are the row, are kept
pub returns : goal.returns
returns c = bits_of_front c.args.byte c.args.count c.args.text.now _ _ c.requires.0 c.requires.1 c.bits_of.ensures c.bits_below.ensures
