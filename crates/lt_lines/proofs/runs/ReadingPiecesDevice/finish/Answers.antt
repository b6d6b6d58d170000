use Rattle.std.proofs.Common.{[]}
use Rattle.lt_lines.proofs.RunLemmas.{reading_ends, reading_room}
use Rattle.lt_lines.proofs.runs.ReadingPiecesDevice.finish.Goals as goal

-- what `Marked::finish` requires: fewer than 2 to the 63 bytes were read, so there is room for a last line
pub finish-requires : goal.finish-requires
finish-requires g c = let r = c.requires in reading_room _ _ r.start _ r.read _ 0 r.taken.1 r.few

-- what `Pieces` promises of the end, EndsReading: the text ends, and its terms are still those of the run's beginning
pub returns : goal.returns
returns g c = λ first start read t. reading_ends _ _ start _ _ read [] _ _ t.1 _ t.0 c.finish.result c.finish.ensures
