use Rattle.lt_rows.proofs.GrammarLemmas.{closed_is_record}
use Rattle.lt_rows.proofs.RecordLemmas.{record_is_closed}
use Rattle.lt_rows.proofs.records.records_are_those_of_the_grammar.Goals as goal

-- the law, in both directions: a closed text can be parsed into the fields of a record, and the fields of a record make
-- a closed text
pub returns : goal.returns
returns c = λ d text unquoted fed. (closed_is_record d unquoted text, record_is_closed d unquoted fed text)
