use Rattle.lt_range.proofs.GrammarLaws.{read_by_grammar}
use Rattle.lt_range.proofs.laws.ranges_are_read_by_their_grammar.Goals as goal

-- A text is read as a range exactly if it is that range by the grammar: piece by piece, what is read is in the grammar,
-- and what is in the grammar is read so.
pub returns : goal.returns
returns c = read_by_grammar
